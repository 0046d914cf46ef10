-- Matroid files, line by line, and whole: words of private contracts and of the proofs.
use Rattle.std.specs.Prelude.{ℕ, List, [], ◌∷◌, ◌++◌, length, codes, decimal}
use Rattle.mr_set.specs.Matroid.{Presentation}
use Rattle.mr_text.specs.Text.{text_of_lines}

-- the text before the sets
abbrev pub head_text : Presentation → List ℕ
head_text m =
    text_of_lines (codes "matroid 1"
    ∷ (codes "elements " ++ decimal m.elements)
    ∷ (codes "rank " ++ decimal m.rank)
    ∷ (codes "nonbases " ++ decimal (length m.nonbases))
    ∷ [])
