-- The law by a lemma of Masks.
use Rattle.mr_assign.proofs.Masks.{nibbles-map_words}
use Rattle.mr_assign.proofs.laws.maps_come_back.Goals as goal

pub returns : goal.returns
returns c = nibbles-map_words
