-- A matroid file, and a matrix block of its size after it: words of private contracts and of the proofs.
use Rattle.mr_file.specs.Reading.{listing}
use Rattle.mr_matrix.specs.declared.pair.Pair.{Pair}
use Rattle.mr_matrix.specs.declared.pair.Found.{Found}
use Rattle.mr_matrix.specs.Pairs.{pair}

-- the pair of the parts that were read
abbrev pub found_pair : Found → Pair
found_pair x = pair (listing x.listed) x.matrix
