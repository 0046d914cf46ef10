-- What holds of every map and its words.
use Rattle.std.specs.Prelude.{◌≡◌, ℕ, List}
use Rattle.mr_assign.specs.Assign.{IsAssign}
use Rattle.mr_assign.specs.Packing.{nibbles, map_words}

-- a map comes back from its words
abbrev pub MapsComeBack : Type 0
MapsComeBack = (a : List ℕ) → IsAssign a → nibbles (map_words a) ≡ a
