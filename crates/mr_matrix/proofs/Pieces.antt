-- The block that was written, piece by piece.
use Rattle.std.proofs.Common.{◌≡◌, ℕ, zero, suc, ◌+◌, ◌<◌, List, [], ◌∷◌, ◌++◌, length, map, take, drop, get_or, Bool, false, refl, sym, ap, subst, ◌∙◌, arith, append_assoc, append-nil, codes, Result, Ok, Err}
use Rattle.std.specs.Prelude.{◌≤◌, OnOk, OnErr, decimal, nat_eq}
use Rattle.std.proofs.lemmas.Bool.Decides.{nat_tests}
use Rattle.std.proofs.lemmas.List.{take_more, take_all}
use Rattle.mr_text.specs.Text.{numbers_text, text_of_lines, AppendsPrefix}
use Rattle.mr_text.specs.Private.Listing.{next_element}
use Rattle.mr_text.proofs.Listings.{lines-append, numbers_text-push}
use Rattle.mr_text.proofs.Prefixes.{all_appended, more_appended, part_appended}
use Rattle.mr_linear.specs.Matrix.{Grid, IsGrid, height}
use Rattle.mr_field.specs.Gf.{order}
use Rattle.mr_matrix.specs.Block.{header_text, block_text}

-- a piece after another
pub then : (old mid new a b : List ℕ) → mid ≡ old ++ a → new ≡ mid ++ b → new ≡ old ++ (a ++ b)
then old mid new a b first second = second ∙ ap (λ w. w ++ b) first ∙ append_assoc old a b

-- the same where the last call may fail
pub then_ok : {A E : Type 0} (r : Result A E) (old mid new a b : List ℕ) → mid ≡ old ++ a → OnOk r (new ≡ mid ++ b) → OnOk r (new ≡ old ++ (a ++ b))
then_ok (Ok x) old mid new a b first second = then old mid new a b first second
then_ok (Err e) old mid new a b first second = tt

-- a piece that was cut after another
pub then_cut : {A E : Type 0} (r : Result A E) (old mid new a b : List ℕ) → mid ≡ old ++ a → OnErr r (AppendsPrefix mid new b) → OnErr r (AppendsPrefix old new (a ++ b))
then_cut (Ok x) old mid new a b first cut = tt
then_cut (Err e) old mid new a b first cut = more_appended old mid new a b first cut

-- nothing was written of the last piece
pub then_none : {A E : Type 0} (r : Result A E) (old mid new a b : List ℕ) → mid ≡ old ++ a → OnErr r (new ≡ mid) → OnErr r (AppendsPrefix old new (a ++ b))
then_none (Ok x) old mid new a b first same = tt
then_none (Err e) old mid new a b first same = all_appended old new a b (same ∙ first)

-- what holds anyway holds where a call failed
pub on_err : {A E : Type 0} {P : Type 0} (r : Result A E) → P → OnErr r P
on_err (Ok x) p = tt
on_err (Err e) p = p

-- what holds anyway holds where a call did not
pub on_ok : {A E : Type 0} {P : Type 0} (r : Result A E) → P → OnOk r P
on_ok (Ok x) p = p
on_ok (Err e) p = tt

-- the pieces of the first line
pub header_parts : (q r n : ℕ) → header_text q r n ++ 10 ∷ [] ≡ (codes "matrix " ++ decimal q) ++ ((codes " " ++ decimal r) ++ ((codes " " ++ decimal n) ++ 10 ∷ []))
header_parts q r n = simp append_assoc

-- the pieces of a block
pub block_parts : (a : Grid) → block_text a ≡ (header_text (order a.field) (height a) a.cols ++ 10 ∷ []) ++ (text_of_lines (map numbers_text a.rows) ++ (codes "end" ++ 10 ∷ []))
block_parts a = ap (λ w. (header_text (order a.field) (height a) a.cols ++ 10 ∷ []) ++ w) (lines-append (map numbers_text a.rows) (codes "end" ∷ []))

-- the lines of rows, round one of them
pub rows_parts : (rows : List (List ℕ)) (i : ℕ) → i < length rows
    → text_of_lines (map numbers_text rows) ≡ text_of_lines (map numbers_text (take i rows)) ++ ((numbers_text (get_or rows i []) ++ 10 ∷ []) ++ text_of_lines (map numbers_text (drop (suc i) rows)))
rows_parts [] i lt = absurd (omega arith)
rows_parts (x ∷ rows) zero lt = refl
rows_parts (x ∷ rows) (suc i) lt =
    ap (λ w. (numbers_text x ++ 10 ∷ []) ++ w) (rows_parts rows i (omega arith))
    ∙ sym (append_assoc (numbers_text x ++ 10 ∷ []) (text_of_lines (map numbers_text (take i rows))) ((numbers_text (get_or rows i []) ++ 10 ∷ []) ++ text_of_lines (map numbers_text (drop (suc i) rows))))

-- the lines of one row more
pub rows_push : (rows : List (List ℕ)) (i : ℕ) → i < length rows → text_of_lines (map numbers_text (take (i + 1) rows)) ≡ text_of_lines (map numbers_text (take i rows)) ++ (numbers_text (get_or rows i []) ++ 10 ∷ [])
rows_push [] i lt = absurd (omega arith)
rows_push (x ∷ rows) zero lt = append-nil (numbers_text x ++ 10 ∷ [])
rows_push (x ∷ rows) (suc i) lt =
    ap (λ k. text_of_lines (map numbers_text (take k (x ∷ rows)))) (let e : suc i + 1 ≡ suc (i + 1) = omega arith in e)
    ∙ ap (λ w. (numbers_text x ++ 10 ∷ []) ++ w) (rows_push rows i (omega arith))
    ∙ sym (append_assoc (numbers_text x ++ 10 ∷ []) (text_of_lines (map numbers_text (take i rows))) (numbers_text (get_or rows i []) ++ 10 ∷ []))

-- the numbers before one of them, it, and those after it
row_parts : (row : List ℕ) (j : ℕ) → j < length row → (tail : List ℕ) × (numbers_text row ≡ numbers_text (take j row) ++ (next_element (nat_eq j 0) (get_or row j 0) ++ tail))
row_parts [] j lt = absurd (omega arith)
row_parts (x ∷ []) zero lt = ([], sym (append-nil (decimal x)))
row_parts (x ∷ []) (suc j) lt = absurd (omega arith)
row_parts (x ∷ y ∷ ys) zero lt = (32 ∷ numbers_text (y ∷ ys), refl)
row_parts (x ∷ y ∷ ys) (suc zero) lt =
    let rest = row_parts (y ∷ ys) zero (omega arith) in
    (rest.0, ap (λ w. decimal x ++ 32 ∷ w) rest.1)
row_parts (x ∷ y ∷ ys) (suc (suc j)) lt =
    let rest = row_parts (y ∷ ys) (suc j) (omega arith) in
    let here : nat_eq (suc (suc j)) 0 ≡ false = grind (arith, nat_tests) in
    let there : nat_eq (suc j) 0 ≡ false = grind (arith, nat_tests) in
    let e = get_or ys j 0 in (
      rest.0,
      ap (λ w. decimal x ++ 32 ∷ w) (rest.1 ∙ ap (λ b. numbers_text (y ∷ take j ys) ++ (next_element b e ++ rest.0)) there)
          ∙ sym (append_assoc (decimal x) (32 ∷ numbers_text (y ∷ take j ys)) (next_element false e ++ rest.0))
          ∙ ap (λ b. numbers_text (x ∷ y ∷ take j ys) ++ (next_element b e ++ rest.0)) (sym here),
    )

-- the first numbers of a row, and one more
row_push : (row : List ℕ) (j : ℕ) → j < length row → numbers_text (take (j + 1) row) ≡ numbers_text (take j row) ++ next_element (nat_eq j 0) (get_or row j 0)
row_push [] j lt = absurd (omega arith)
row_push (x ∷ row) zero lt = refl
row_push (x ∷ row) (suc j) lt =
    let here : nat_eq (suc j) 0 ≡ false = grind (arith, nat_tests) in
    ap numbers_text (take_more (x ∷ row) (suc j) 0 lt) ∙ numbers_text-push x (take j row) (get_or row j 0)
    ∙ ap (λ b. numbers_text (x ∷ take j row) ++ next_element b (get_or row j 0)) (sym here)

-- one number more was written
pub row_on : (row : List ℕ) (j : ℕ) (b : Bool) (v : ℕ) (old mid new : List ℕ) → j < length row → b ≡ nat_eq j 0 → v ≡ get_or row j 0 → mid ≡ old ++ numbers_text (take j row) → new ≡ mid ++ next_element b v → new ≡ old ++ numbers_text (take (j + 1) row)
row_on row j b v old mid new lt test value before step =
    then old mid new (numbers_text (take j row)) (next_element b v) before step
    ∙ ap (λ w. old ++ (numbers_text (take j row) ++ w)) (ap (λ c. next_element c v) test ∙ ap (next_element (nat_eq j 0)) value)
    ∙ ap (λ w. old ++ w) (sym (row_push row j lt))

-- a number was cut
pub row_cut : (row : List ℕ) (j : ℕ) (b : Bool) (v : ℕ) (old mid new : List ℕ) → j < length row → b ≡ nat_eq j 0 → v ≡ get_or row j 0 → mid ≡ old ++ numbers_text (take j row) → AppendsPrefix mid new (next_element b v) → AppendsPrefix old new (numbers_text row ++ 10 ∷ [])
row_cut row j b v old mid new lt test value before cut =
    let parts = row_parts row j lt in
    let there : AppendsPrefix mid new (next_element (nat_eq j 0) (get_or row j 0)) = subst (AppendsPrefix mid new) (ap (λ c. next_element c v) test ∙ ap (next_element (nat_eq j 0)) value) cut in
    part_appended old new (numbers_text row) (10 ∷ []) (subst (AppendsPrefix old new) (sym parts.1)
    (more_appended old mid new (numbers_text (take j row)) (next_element (nat_eq j 0) (get_or row j 0) ++ parts.0) before (part_appended mid new (next_element (nat_eq j 0) (get_or row j 0)) parts.0 there)))

-- the whole row was written
pub row_whole : (row : List ℕ) (j : ℕ) (old mid : List ℕ) → length row ≤ j → mid ≡ old ++ numbers_text (take j row) → mid ≡ old ++ numbers_text row
row_whole row j old mid end before = before ∙ ap (λ (w : List ℕ). old ++ numbers_text w) (take_all j row end)

-- one row more was written
pub rows_on : (rows : List (List ℕ)) (i : ℕ) (old mid new : List ℕ) → i < length rows → mid ≡ old ++ text_of_lines (map numbers_text (take i rows)) → new ≡ mid ++ (numbers_text (get_or rows i []) ++ 10 ∷ []) → new ≡ old ++ text_of_lines (map numbers_text (take (i + 1) rows))
rows_on rows i old mid new lt before step = then old mid new (text_of_lines (map numbers_text (take i rows))) (numbers_text (get_or rows i []) ++ 10 ∷ []) before step ∙ ap (λ w. old ++ w) (sym (rows_push rows i lt))

-- a row was cut
pub rows_cut : (rows : List (List ℕ)) (i : ℕ) (old mid new : List ℕ) → i < length rows → mid ≡ old ++ text_of_lines (map numbers_text (take i rows)) → AppendsPrefix mid new (numbers_text (get_or rows i []) ++ 10 ∷ []) → AppendsPrefix old new (text_of_lines (map numbers_text rows))
rows_cut rows i old mid new lt before cut = subst (AppendsPrefix old new) (sym (rows_parts rows i lt))
    (more_appended old mid new (text_of_lines (map numbers_text (take i rows))) ((numbers_text (get_or rows i []) ++ 10 ∷ []) ++ text_of_lines (map numbers_text (drop (suc i) rows))) before
    (part_appended mid new (numbers_text (get_or rows i []) ++ 10 ∷ []) (text_of_lines (map numbers_text (drop (suc i) rows))) cut))

-- all rows were written
pub rows_whole : (rows : List (List ℕ)) (i : ℕ) (old mid : List ℕ) → length rows ≤ i → mid ≡ old ++ text_of_lines (map numbers_text (take i rows)) → mid ≡ old ++ text_of_lines (map numbers_text rows)
rows_whole rows i old mid end before = before ∙ ap (λ (w : List (List ℕ)). old ++ text_of_lines (map numbers_text w)) (take_all i rows end)

-- the first line was cut in its order
pub header_cut_first : (q p r n : ℕ) (old new : List ℕ) → p ≡ q → AppendsPrefix old new (codes "matrix " ++ decimal p) → AppendsPrefix old new (header_text q r n ++ 10 ∷ [])
header_cut_first q p r n old new same cut = subst (AppendsPrefix old new) (sym (header_parts q r n))
    (part_appended old new (codes "matrix " ++ decimal q) ((codes " " ++ decimal r) ++ ((codes " " ++ decimal n) ++ 10 ∷ [])) (subst (λ v. AppendsPrefix old new (codes "matrix " ++ decimal v)) same cut))

-- in its number of rows
pub header_cut_second : (q p r s n : ℕ) (old o1 new : List ℕ) → p ≡ q → s ≡ r → o1 ≡ old ++ (codes "matrix " ++ decimal p) → AppendsPrefix o1 new (codes " " ++ decimal s) → AppendsPrefix old new (header_text q r n ++ 10 ∷ [])
header_cut_second q p r s n old o1 new same rows first cut = subst (AppendsPrefix old new) (sym (header_parts q r n))
    (more_appended old o1 new (codes "matrix " ++ decimal q) ((codes " " ++ decimal r) ++ ((codes " " ++ decimal n) ++ 10 ∷ [])) (first ∙ ap (λ v. old ++ (codes "matrix " ++ decimal v)) same)
    (part_appended o1 new (codes " " ++ decimal r) ((codes " " ++ decimal n) ++ 10 ∷ []) (subst (λ v. AppendsPrefix o1 new (codes " " ++ decimal v)) rows cut)))

-- in its number of columns
pub header_cut_third : (q p r s n m : ℕ) (old o1 o2 new : List ℕ) → p ≡ q → s ≡ r → m ≡ n → o1 ≡ old ++ (codes "matrix " ++ decimal p) → o2 ≡ o1 ++ (codes " " ++ decimal s) → AppendsPrefix o2 new (codes " " ++ decimal m) → AppendsPrefix old new (header_text q r n ++ 10 ∷ [])
header_cut_third q p r s n m old o1 o2 new same rows cols first second cut = subst (AppendsPrefix old new) (sym (header_parts q r n))
    (more_appended old o1 new (codes "matrix " ++ decimal q) ((codes " " ++ decimal r) ++ ((codes " " ++ decimal n) ++ 10 ∷ [])) (first ∙ ap (λ v. old ++ (codes "matrix " ++ decimal v)) same)
    (more_appended o1 o2 new (codes " " ++ decimal r) ((codes " " ++ decimal n) ++ 10 ∷ []) (second ∙ ap (λ v. o1 ++ (codes " " ++ decimal v)) rows)
    (part_appended o2 new (codes " " ++ decimal n) (10 ∷ []) (subst (λ v. AppendsPrefix o2 new (codes " " ++ decimal v)) cols cut))))

-- before its newline
pub header_cut_end : {A E : Type 0} (res : Result A E) (q p r s n m : ℕ) (old o1 o2 o3 new : List ℕ) → p ≡ q → s ≡ r → m ≡ n → o1 ≡ old ++ (codes "matrix " ++ decimal p) → o2 ≡ o1 ++ (codes " " ++ decimal s) → o3 ≡ o2 ++ (codes " " ++ decimal m) → OnErr res (new ≡ o3)
    → OnErr res (AppendsPrefix old new (header_text q r n ++ 10 ∷ []))
header_cut_end (Ok x) q p r s n m old o1 o2 o3 new same rows cols first second third cut = tt
header_cut_end (Err e) q p r s n m old o1 o2 o3 new same rows cols first second third cut =
    header_cut_third q p r s n m old o1 o2 new same rows cols first second (subst (AppendsPrefix o2 new) (append-nil (codes " " ++ decimal m)) (all_appended o2 new (codes " " ++ decimal m) [] (cut ∙ third)))

-- the block was cut in its first line
pub block_cut_header : (a : Grid) (old new : List ℕ) → AppendsPrefix old new (header_text (order a.field) (height a) a.cols ++ 10 ∷ []) → AppendsPrefix old new (block_text a)
block_cut_header a old new cut = subst (AppendsPrefix old new) (sym (block_parts a)) (part_appended old new (header_text (order a.field) (height a) a.cols ++ 10 ∷ []) (text_of_lines (map numbers_text a.rows) ++ (codes "end" ++ 10 ∷ [])) cut)

-- in its rows
pub block_cut_rows : (a : Grid) (old mid new : List ℕ) → mid ≡ old ++ (header_text (order a.field) (height a) a.cols ++ 10 ∷ []) → AppendsPrefix mid new (text_of_lines (map numbers_text a.rows)) → AppendsPrefix old new (block_text a)
block_cut_rows a old mid new first cut = subst (AppendsPrefix old new) (sym (block_parts a))
    (more_appended old mid new (header_text (order a.field) (height a) a.cols ++ 10 ∷ []) (text_of_lines (map numbers_text a.rows) ++ (codes "end" ++ 10 ∷ [])) first (part_appended mid new (text_of_lines (map numbers_text a.rows)) (codes "end" ++ 10 ∷ []) cut))

-- before its last line
pub block_cut_end : {A E : Type 0} (r : Result A E) (a : Grid) (old o1 o2 new : List ℕ) → o1 ≡ old ++ (header_text (order a.field) (height a) a.cols ++ 10 ∷ []) → o2 ≡ o1 ++ text_of_lines (map numbers_text a.rows) → OnErr r (new ≡ o2) → OnErr r (AppendsPrefix old new (block_text a))
block_cut_end (Ok x) a old o1 o2 new first second cut = tt
block_cut_end (Err e) a old o1 o2 new first second cut = block_cut_rows a old o1 new first (subst (AppendsPrefix o1 new) (append-nil (text_of_lines (map numbers_text a.rows))) (all_appended o1 new (text_of_lines (map numbers_text a.rows)) [] (cut ∙ second)))

-- the block was written
pub block_written : {A E : Type 0} (r : Result A E) (a : Grid) (old o1 o2 new : List ℕ) → o1 ≡ old ++ (header_text (order a.field) (height a) a.cols ++ 10 ∷ []) → o2 ≡ o1 ++ text_of_lines (map numbers_text a.rows) → OnOk r (new ≡ o2 ++ (codes "end" ++ 10 ∷ [])) → OnOk r (new ≡ old ++ block_text a)
block_written (Ok x) a old o1 o2 new first second last =
    then old o1 new (header_text (order a.field) (height a) a.cols ++ 10 ∷ []) (text_of_lines (map numbers_text a.rows) ++ (codes "end" ++ 10 ∷ [])) first
    (then o1 o2 new (text_of_lines (map numbers_text a.rows)) (codes "end" ++ 10 ∷ []) second last) ∙ ap (λ w. old ++ w) (sym (block_parts a))
block_written (Err e) a old o1 o2 new first second last = tt

-- the length of a row of a matrix
pub row_length : (a : Grid) → IsGrid a → (i : ℕ) → i < height a → length (get_or a.rows i []) ≡ a.cols
row_length a grid i lt = (grid.each i [] lt).size
