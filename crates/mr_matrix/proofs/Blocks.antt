-- The text of a whole block.
use Rattle.std.proofs.Common.{◌≡◌, ℕ, zero, suc, ◌+◌, ◌<◌, ◌≤◌, List, [], ◌∷◌, ◌++◌, length, map, refl, sym, ap, subst, ◌∙◌, ⊎_elim, arith, append_assoc, append-nil, codes}
use Rattle.std.specs.Prelude.{All}
use Rattle.std.proofs.lemmas.Bool.{cases_lt}
use Rattle.mr_field.specs.Gf.{Gf, gf2, gf3, gf4, gf5, gf7, gf8, gf9, order}
use Rattle.mr_set.specs.Subsets.{choose}
use Rattle.mr_set.specs.declared.TheConstants.{ELEMENTS, SETS}
use Rattle.mr_set.proofs.Sorted.{all_cons, all_none}
use Rattle.mr_text.specs.declared.TheConstants.{NUMBERS}
use Rattle.mr_text.specs.Text.{numbers_text, text_of_lines, BeginsWith}
use Rattle.mr_text.proofs.Formats.{lacks-append}
use Rattle.mr_text.specs.Format.{StandsFor}
use Rattle.mr_linear.specs.Matrix.{Grid, height, IsMatrixRow, IsGrid}
use Rattle.mr_file.specs.declared.fault.Measure.TheVariants.{Elements, Rank, Sets}
use Rattle.mr_matrix.specs.Block.{header_text, grid_with, row_lines, block_text, IsHeldGrid}
use Rattle.mr_matrix.specs.Reading.{whole_block}
use Rattle.mr_matrix.specs.Private.Reading.{from_rows}
use Rattle.mr_matrix.proofs.NumberLines.{no_newline}
use Rattle.mr_matrix.proofs.Headers.{shape_fits}

-- orders have one digit
pub order_small : (f : Gf) → order f < NUMBERS
order_small gf2 = omega arith
order_small gf3 = omega arith
order_small gf4 = omega arith
order_small gf5 = omega arith
order_small gf7 = omega arith
order_small gf8 = omega arith
order_small gf9 = omega arith

-- a line, the rest and what follows
line_text : (line rest tail : List ℕ) → line ++ 10 ∷ (rest ++ tail) ≡ ((line ++ 10 ∷ []) ++ rest) ++ tail
line_text line rest tail = sym (append_assoc (line ++ 10 ∷ []) rest tail ∙ append_assoc line (10 ∷ []) (rest ++ tail))

-- of no rows
rows_none : (f : Gf) (n : ℕ) → All (IsMatrixRow f n) []
rows_none f n k d l = absurd (omega arith)

-- of the first row and the others
rows_cons : (f : Gf) (n : ℕ) (row : List ℕ) (rows : List (List ℕ)) → IsMatrixRow f n row → All (IsMatrixRow f n) rows → All (IsMatrixRow f n) (row ∷ rows)
rows_cons f n row rows here rest zero d l = here
rows_cons f n row rows here rest (suc k) d l = rest k d (omega arith)

-- the rows that lines stand for
pub record RowsRead (f : Gf) (n k : ℕ) (rows : List (List ℕ)) (number : ℕ) (bytes : List ℕ) (a : Grid) (rest : List ℕ) (next : ℕ) : Type 0 where
  pub more : List (List ℕ)
  pub whole : a ≡ grid_with f n (rows ++ more)
  pub count : length more ≡ k
  pub each : All (IsMatrixRow f n) more
  pub text : bytes ≡ text_of_lines (map numbers_text more ++ codes "end" ∷ []) ++ rest

-- the lines of rows and the last line were those of a block
pub rows_read : (f : Gf) (n k : ℕ) (rows : List (List ℕ)) (number : ℕ) (bytes : List ℕ) (a : Grid) (rest : List ℕ) (next : ℕ) → StandsFor (from_rows f n k rows) number bytes a rest next → RowsRead f n k rows number bytes a rest next
unfolding row_lines
rows_read f n zero rows number bytes a rest next (u, after, line, (is, same, at)) = record {
  more = [];
  whole = is ∙ ap (grid_with f n) (sym (append-nil rows));
  count = refl;
  each = rows_none f n;
  text = line.begins.text ∙ ap (λ w. w ++ 10 ∷ after) line.spelled ∙ ap (λ w. codes "end" ++ 10 ∷ w) (sym same);
}
rows_read f n (suc k) rows number bytes a rest next (row, after, line, more) =
    let tail = rows_read f n k (rows ++ row ∷ []) (number + 1) after a rest next more in
    record {
      more = row ∷ tail.more;
      whole = tail.whole ∙ ap (grid_with f n) (append_assoc rows (row ∷ []) tail.more);
      count = ap suc tail.count;
      each = rows_cons f n row tail.more line.spelled.of_field tail.each;
      text = line.begins.text ∙ ap (λ w. w ++ 10 ∷ after) line.spelled.text ∙ ap (λ w. numbers_text row ++ 10 ∷ w) tail.text ∙ line_text (numbers_text row) (text_of_lines (map numbers_text tail.more ++ codes "end" ∷ [])) rest;
    }

-- what a block stands for, and its text
pub record BlockRead (f : Gf) (bytes : List ℕ) (a : Grid) (rest : List ℕ) : Type 0 where
  pub field : a.field ≡ f
  pub held : IsHeldGrid a
  pub text : bytes ≡ block_text a ++ rest

-- what isn't greater is at most as great
at_most : (a b : ℕ) → (a < b → ⊥) → b ≤ a
at_most a b no_less = ⊎_elim (λ (lt : a < b). absurd (no_less lt)) (λ (le : b ≤ a). le) (cases_lt a b)

-- the lines of a block were its text
pub block_read : (f : Gf) (number : ℕ) (bytes : List ℕ) (a : Grid) (rest : List ℕ) (next : ℕ) → StandsFor (whole_block f) number bytes a rest next → BlockRead f bytes a rest
block_read f number bytes a rest next (s, after, line, lines) =
    let r = rows_read f s.cols s.rows [] (number + 1) after a rest next lines in
    let wide : s.cols ≤ ELEMENTS = at_most ELEMENTS s.cols (line.fits Elements) in
    let flat : s.rows ≤ s.cols = at_most s.cols s.rows (λ less. line.fits Rank (wide, less)) in
    let few : choose s.cols s.rows ≤ SETS = at_most SETS (choose s.cols s.rows) (λ less. line.fits Sets (wide, flat, less)) in
    let same : length r.more ≡ s.rows = r.count in
    subst (λ (g : Grid). BlockRead f bytes g rest) (sym r.whole) (record {
      field = refl;
      held = record {
        grid = record { each = r.each; rows = omega arith };
        wide = wide;
        few = subst (λ k. choose s.cols k ≤ SETS) (sym same) few;
      };
      text = line.begins.text ∙ ap (λ w. w ++ 10 ∷ after) line.spelled.text ∙ ap (λ k. header_text (order f) k s.cols ++ 10 ∷ after) (sym same)
          ∙ ap (λ w. header_text (order f) (length r.more) s.cols ++ 10 ∷ w) r.text
          ∙ line_text (header_text (order f) (length r.more) s.cols) (text_of_lines (map numbers_text r.more ++ codes "end" ∷ [])) rest;
    })

-- a line that has no newline, and what follows it
split_line : (line text rest : List ℕ) → ((line ++ 10 ∷ []) ++ text) ++ rest ≡ line ++ 10 ∷ (text ++ rest)
split_line line text rest = sym (line_text line text rest)

-- the text of rows and the last line stands for the matrix
pub rows_stand : (f : Gf) (n k : ℕ) (rows more : List (List ℕ)) (number : ℕ) (rest : List ℕ) → length more ≡ k → All (IsMatrixRow f n) more
    → StandsFor (from_rows f n k rows) number (text_of_lines (map numbers_text more ++ codes "end" ∷ []) ++ rest) (grid_with f n (rows ++ more)) rest (number + k + 1)
unfolding row_lines
rows_stand f n zero rows [] number rest count each = (
  tt,
  rest,
  record { line = codes "end"; begins = record { text = split_line (codes "end") [] rest; whole = refl }; spelled = refl; fits = λ m h. h },
  (ap (grid_with f n) (append-nil rows), refl, (let e : number + 0 + 1 ≡ number + 1 = omega arith in e)),
)
rows_stand f n zero rows (row ∷ more) number rest count each = absurd (omega arith)
rows_stand f n (suc k) rows [] number rest count each = absurd (omega arith)
rows_stand f n (suc k) rows (row ∷ more) number rest count each =
    let here : IsMatrixRow f n row = each 0 row (omega arith) in
    let tail = rows_stand f n k (rows ++ row ∷ []) more (number + 1) rest (omega arith) (λ i d l. each (suc i) d (omega arith)) in
    let small = order_small f in (
      row,
      text_of_lines (map numbers_text more ++ codes "end" ∷ []) ++ rest,
      record {
        line = numbers_text row;
        begins = record { text = split_line (numbers_text row) (text_of_lines (map numbers_text more ++ codes "end" ∷ [])) rest; whole = no_newline row (λ i d l. let h = here.elements i d l in omega arith) };
        spelled = record { of_field = here; text = refl };
        fits = λ m h. h;
      },
      subst (λ (g : Grid). StandsFor (from_rows f n k (rows ++ row ∷ [])) (number + 1) (text_of_lines (map numbers_text more ++ codes "end" ∷ []) ++ rest) g rest (number + suc k + 1)) (ap (grid_with f n) (append_assoc rows (row ∷ []) more))
          (subst (λ j. StandsFor (from_rows f n k (rows ++ row ∷ [])) (number + 1) (text_of_lines (map numbers_text more ++ codes "end" ∷ []) ++ rest) (grid_with f n ((rows ++ row ∷ []) ++ more)) rest j) (let e : number + 1 + k + 1 ≡ number + suc k + 1 = omega arith in e) tail),
    )

-- the text of a block begins with its first line
pub header_begins : (a : Grid) (rest : List ℕ) → a.cols < NUMBERS → IsGrid a → BeginsWith (block_text a ++ rest) (header_text (order a.field) (height a) a.cols) (text_of_lines (map numbers_text a.rows ++ codes "end" ∷ []) ++ rest)
header_begins a rest wide grid =
    let flat = grid.rows in
    record {
      text = split_line (header_text (order a.field) (height a) a.cols) (text_of_lines (map numbers_text a.rows ++ codes "end" ∷ [])) rest;
      whole = lacks-append 10 (codes "matrix ") (numbers_text (order a.field ∷ height a ∷ a.cols ∷ [])) refl (no_newline (order a.field ∷ height a ∷ a.cols ∷ [])
          (all_cons (λ v. v < NUMBERS) (order a.field) (height a ∷ a.cols ∷ []) (order_small a.field) (all_cons (λ v. v < NUMBERS) (height a) (a.cols ∷ []) (omega arith) (all_cons (λ v. v < NUMBERS) a.cols [] wide (all_none (λ v. v < NUMBERS))))));
    }

-- the text of a block stands for its matrix
pub block_stands : (a : Grid) (number : ℕ) (rest : List ℕ) → IsHeldGrid a → StandsFor (whole_block a.field) number (block_text a ++ rest) a rest (number + 1 + height a + 1)
block_stands a number rest held =
    let wide = held.wide in
    let flat = held.grid.rows in (
      record { rows = height a; cols = a.cols },
      text_of_lines (map numbers_text a.rows ++ codes "end" ∷ []) ++ rest,
      record {
        line = header_text (order a.field) (height a) a.cols;
        begins = header_begins a rest (omega arith) held.grid;
        spelled = record { rows = omega arith; cols = omega arith; text = refl };
        fits = shape_fits (record { rows = height a; cols = a.cols }) held.wide held.grid.rows held.few;
      },
      rows_stand a.field a.cols (height a) [] a.rows (number + 1) rest refl held.grid.each,
    )
