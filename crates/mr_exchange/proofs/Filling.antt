-- Lists of slots whose last places have no rows.
use Rattle.std.proofs.Common.{◌≡◌, ℕ, ◌-◌, ◌<◌, ◌≤◌, List, ◌++◌, length, replicate, set, Option, None, Some, sym, ap, ◌∙◌, arith}
use Rattle.std.proofs.lemmas.List.{append_assoc, replicate-append-replicate, set-append_left}
use Rattle.mr_nogood.specs.declared.row.Row.{Row}

-- a row that is put in one of their places, which is an item by then
pub set-more : (xs items now : List (Option Row)) (rest more slot : ℕ) (row : Row) → items ≡ xs ++ replicate more None → more ≤ rest → slot < length items → xs ++ replicate rest None ≡ now
    → set items slot (Some row) ++ replicate (rest - more) None ≡ set now slot (Some row)
set-more xs items now rest more slot row are le lt is =
    let all : items ++ replicate (rest - more) None ≡ now =
    ap (λ (ys : List (Option Row)). ys ++ replicate (rest - more) None) are ∙ append_assoc xs (replicate more None) (replicate (rest - more) None)
    ∙ ap (λ (ys : List (Option Row)). xs ++ ys) (replicate-append-replicate more (rest - more) None ∙ ap (λ n. replicate n None) (omega arith)) ∙ is in
    sym (set-append_left items (replicate (rest - more) None) slot (Some row) lt) ∙ ap (λ (ys : List (Option Row)). set ys slot (Some row)) all
