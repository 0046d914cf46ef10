-- The words of a row.
use Rattle.std.specs.Prelude.{ℕ, ◌+◌, ◌*◌, ◌^◌, List, ◌∷◌, ◌++◌, map, count_by, nat_lt}
use Rattle.mr_set.specs.Elements.{mask_of}
use Rattle.mr_assign.specs.Packing.{map_words}
use Rattle.mr_nogood.specs.declared.row.Cite.{Cite}
use Rattle.mr_nogood.specs.declared.row.Cite.TheVariants.{Nothing, Test, Slot}
use Rattle.mr_nogood.specs.declared.row.Row.{Row}

-- the first word: that there is a row, how many pairs its clause has, its position and its rank
abbrev pub head_of : Row → ℕ
head_of row = 2 ^ 63 + count_by (λ v. nat_lt 0 v) row.clause * 2 ^ 40 + row.at * 2 ^ 32 + row.rank

-- the word of a cite
abbrev pub cite_word : Cite → ℕ
cite_word Nothing = 0
cite_word (Test x) = 2 ^ 56 + mask_of x
cite_word (Slot s) = 2 ^ 57 + s

-- the words of a row: the first one, those of its clause, and one for each cite
abbrev pub row_packing : Row → List ℕ
row_packing row = head_of row ∷ (map_words row.clause ++ map cite_word row.cites)
