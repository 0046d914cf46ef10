-- A line of a matrix block spells one value.
use Rattle.std.proofs.Common.{◌≡◌, ℕ, zero, suc, ◌<◌, List, [], ◌∷◌, ◌++◌, refl, sym, ap, ◌∙◌, arith, codes}
use Rattle.std.specs.Prelude.{All}
use Rattle.std.proofs.lemmas.List.{append_cancel_left}
use Rattle.mr_field.specs.Gf.{Gf, order}
use Rattle.mr_set.proofs.Sorted.{all_cons, all_none}
use Rattle.mr_text.specs.declared.TheConstants.{NUMBERS}
use Rattle.mr_text.specs.Text.{numbers_text}
use Rattle.mr_text.specs.Private.Sharp.{IsSharpTable, IsSharp}
use Rattle.mr_file.specs.declared.fault.Measure.{Measure}
use Rattle.mr_file.specs.declared.fault.Measure.TheVariants.{Elements, Rank, Sets, Nonbases}
use Rattle.mr_matrix.specs.Block.{ShapeExceeds, IsHeaderLine, row_table, row_lines}
use Rattle.mr_matrix.specs.Reading.{whole_block}
use Rattle.mr_matrix.specs.Private.Reading.{from_rows}
use Rattle.mr_matrix.specs.declared.shape.Shape.{Shape}
use Rattle.mr_matrix.proofs.NumberLines.{same_listing}
use Rattle.mr_matrix.proofs.Blocks.{order_small}

-- a shape is too large by one measure
shape_one : (s : Shape) (m n : Measure) → ShapeExceeds s m → ShapeExceeds s n → m ≡ n
shape_one s Elements Elements p q = refl
shape_one s Elements Rank p q = let h = q.0 in absurd (omega arith)
shape_one s Elements Sets p q = let h = q.0 in absurd (omega arith)
shape_one s Elements Nonbases p q = absurd q
shape_one s Rank Elements p q = let h = p.0 in absurd (omega arith)
shape_one s Rank Rank p q = refl
shape_one s Rank Sets p q = let h = p.1 in let g = q.1 in absurd (omega arith)
shape_one s Rank Nonbases p q = absurd q
shape_one s Sets Elements p q = let h = p.0 in absurd (omega arith)
shape_one s Sets Rank p q = let h = p.1 in let g = q.1 in absurd (omega arith)
shape_one s Sets Sets p q = refl
shape_one s Sets Nonbases p q = absurd q
shape_one s Nonbases n p q = absurd p

-- a first line names one shape
pub header_one : (q : ℕ) (line : List ℕ) (s t : Shape) → q < NUMBERS → IsHeaderLine q line s → IsHeaderLine q line t → s ≡ t
header_one q line s t small one two =
    let same = same_listing (q ∷ s.rows ∷ s.cols ∷ []) (q ∷ t.rows ∷ t.cols ∷ []) refl (three s.rows s.cols one.rows one.cols) (three t.rows t.cols two.rows two.cols)
    (append_cancel_left (codes "matrix ") (numbers_text (q ∷ s.rows ∷ s.cols ∷ [])) (numbers_text (q ∷ t.rows ∷ t.cols ∷ [])) (sym one.text ∙ two.text)) in
    let rows : s.rows ≡ t.rows = cc in
    let cols : s.cols ≡ t.cols = cc in
    ap (λ r. let u : Shape = record { rows = r; cols = s.cols } in u) rows ∙ ap (λ n. let u : Shape = record { rows = t.rows; cols = n } in u) cols
  where
    three : (r n : ℕ) → r < NUMBERS → n < NUMBERS → All (λ v. v < NUMBERS) (q ∷ r ∷ n ∷ [])
    three r n a b = all_cons (λ v. v < NUMBERS) q (r ∷ n ∷ []) small (all_cons (λ v. v < NUMBERS) r (n ∷ []) a (all_cons (λ v. v < NUMBERS) n [] b (all_none (λ v. v < NUMBERS))))

-- a line is one row
row_sharp : (f : Gf) (n : ℕ) → IsSharpTable (row_table f n)
row_sharp f n = record {
  one_value = λ line x y p q.
      let small = order_small f in
      same_listing x y (p.of_field.size ∙ sym q.of_field.size) (λ k d l. let h = p.of_field.elements k d l in omega arith) (λ k d l. let h = q.of_field.elements k d l in omega arith) (sym p.text ∙ q.text);
  one_measure = λ a m k p q. absurd p;
}

-- the lines of rows
pub rows_sharp : (f : Gf) (n k : ℕ) (rows : List (List ℕ)) → IsSharp (from_rows f n k rows)
unfolding row_lines
rows_sharp f n zero rows = (record { one_value = λ line a b p q. refl; one_measure = λ a m k p q. absurd p }, λ line a spelled fits. tt)
rows_sharp f n (suc k) rows = (row_sharp f n, λ line row spelled fits. rows_sharp f n k (rows ++ row ∷ []))

-- the lines of a matrix block
pub block_sharp : (f : Gf) → IsSharp (whole_block f)
block_sharp f = (
  record { one_value = λ line s t p q. header_one (order f) line s t (order_small f) p q; one_measure = shape_one },
  λ line s spelled fits. rows_sharp f s.cols s.rows [],
)
