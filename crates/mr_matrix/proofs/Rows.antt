-- From one row of a block to the next, and to its end.
use Rattle.std.proofs.Common.{◌≡◌, ℕ, zero, suc, ◌+◌, ◌≤◌, List, [], ◌∷◌, ◌++◌, take, set, refl, sym, ap, subst, ◌∙◌, arith, codes, length-set}
use Rattle.mr_field.specs.Gf.{Gf}
use Rattle.mr_text.specs.Format.{Format, done, IsLineOf, IsLineFault, IsFirstFault, StandsFor}
use Rattle.mr_text.specs.Tables.{fixed}
use Rattle.mr_text.proofs.Leads.{Leads, leads_on, leads_fault}
use Rattle.mr_file.specs.Reading.{Names}
use Rattle.mr_file.proofs.Outcomes.{names_map}
use Rattle.mr_file.specs.declared.fault.Measure.{Measure}
use Rattle.mr_file.specs.declared.fault.FileFault.{FileFault}
use Rattle.mr_linear.specs.Matrix.{Grid, height, grid_of}
use Rattle.std.proofs.lemmas.List.{take_all}
use Rattle.mr_linear.proofs.Grids.{SameShape, height-grid_of}
use Rattle.mr_matrix.specs.Block.{row_table, row_lines, grid_with}
use Rattle.mr_matrix.specs.Private.Reading.{end_line, from_rows}

-- the rows, one after another
abbrev pub Start : Gf → ℕ → ℕ → Format Measure Grid
Start f r n = from_rows f n r []

-- one row more was read
pub rows_lead : (f : Gf) (r n k j : ℕ) (number : ℕ) (bytes : List ℕ) (rows more : List (List ℕ)) (at : ℕ) (rest row after : List ℕ)
    → k ≡ suc j → more ≡ rows ++ row ∷ [] → Leads (Start f r n) number bytes (from_rows f n k rows) at rest → IsLineOf (row_table f n) rest row after → Leads (Start f r n) number bytes (from_rows f n j more) (at + 1) after
unfolding row_lines
rows_lead f r n zero j number bytes rows more at rest row after is pushed leads line = absurd (omega arith)
rows_lead f r n (suc k) j number bytes rows more at rest row after is pushed leads line =
    let same : k ≡ j = omega arith in
    subst (λ (s : List (List ℕ)). Leads (Start f r n) number bytes (from_rows f n j s) (at + 1) after) (sym pushed)
    (subst (λ i. Leads (Start f r n) number bytes (from_rows f n i (rows ++ row ∷ [])) (at + 1) after) same
    (leads_on (Start f r n) number bytes (row_table f n) (λ x. from_rows f n k (rows ++ x ∷ [])) at rest row after leads line))

-- the fault of a line of a row
pub rows_fault : (f : Gf) (r n k j : ℕ) (number : ℕ) (bytes : List ℕ) (rows : List (List ℕ)) (at : ℕ) (rest : List ℕ) (e : FileFault)
    → k ≡ suc j → Leads (Start f r n) number bytes (from_rows f n k rows) at rest → Names (IsLineFault (row_table f n) at rest) e → Names (IsFirstFault (Start f r n) number bytes) e
unfolding row_lines
rows_fault f r n zero j number bytes rows at rest e is leads h = absurd (omega arith)
rows_fault f r n (suc k) j number bytes rows at rest e is leads h =
    names_map (IsLineFault (row_table f n) at rest) (IsFirstFault (Start f r n) number bytes) e
    (λ g. leads_fault (Start f r n) number bytes (row_table f n) (λ x. from_rows f n k (rows ++ x ∷ [])) at rest g leads) h

-- after the last row
rows_end : (f : Gf) (r n k : ℕ) (number : ℕ) (bytes : List ℕ) (rows : List (List ℕ)) (at : ℕ) (rest : List ℕ)
    → k ≡ 0 → Leads (Start f r n) number bytes (from_rows f n k rows) at rest → Leads (Start f r n) number bytes (end_line f n rows) at rest
unfolding row_lines
rows_end f r n zero number bytes rows at rest is leads = leads
rows_end f r n (suc k) number bytes rows at rest is leads = absurd (omega arith)

-- the fault of the last line
pub rows_end_fault : (f : Gf) (r n k : ℕ) (number : ℕ) (bytes : List ℕ) (rows : List (List ℕ)) (at : ℕ) (rest : List ℕ) (e : FileFault)
    → k ≡ 0 → Leads (Start f r n) number bytes (from_rows f n k rows) at rest → Names (IsLineFault (fixed {M = Measure} (codes "end")) at rest) e → Names (IsFirstFault (Start f r n) number bytes) e
rows_end_fault f r n k number bytes rows at rest e is leads =
    names_map (IsLineFault (fixed {M = Measure} (codes "end")) at rest) (IsFirstFault (Start f r n) number bytes) e
    (λ g. leads_fault (Start f r n) number bytes (fixed (codes "end")) (λ _. done (grid_with f n rows)) at rest g (rows_end f r n k number bytes rows at rest is leads))

-- the last line ends the block
pub rows_value : (f : Gf) (r n k : ℕ) (number : ℕ) (bytes : List ℕ) (rows : List (List ℕ)) (at : ℕ) (rest after : List ℕ) (a : Grid)
    → k ≡ 0 → a ≡ grid_with f n rows → Leads (Start f r n) number bytes (from_rows f n k rows) at rest → IsLineOf (fixed {M = Measure} (codes "end")) rest tt after → StandsFor (Start f r n) number bytes a after (at + 1)
rows_value f r n k number bytes rows at rest after a is same leads line =
    let last = rows_end f r n k number bytes rows at rest is leads in
    last.values a after (at + 1) (tt, after, line, (same, refl, refl))

-- what holds at equal numbers
pub at_row : (P : Gf → ℕ → Type 0) (f g : Gf) (n m : ℕ) → g ≡ f → m ≡ n → P g m → P f n
at_row P f g n m same size h = subst (P f) size (subst (λ k. P k m) same h)

-- what holds of a matrix of zeros holds of its numbers
pub at_shape : (P : Gf → ℕ → ℕ → Type 0) (a : Grid) (f : Gf) (r n : ℕ) (t : ℕ → ℕ → ℕ) → a ≡ grid_of f r n t → P a.field (height a) a.cols → P f r n
at_shape P a f r n t is h = subst (λ k. P f k n) (height-grid_of f r n t) (subst (λ (b : Grid). P b.field (height b) b.cols) is h)

-- the matrix once all rows are there
pub whole_grid : (a : Grid) (f : Gf) (n i : ℕ) → a.field ≡ f → a.cols ≡ n → height a ≤ i → a ≡ grid_with f n (take i a.rows)
whole_grid a f n i same size end =
    ap (λ (rows : List (List ℕ)). grid_with a.field a.cols rows) (sym (take_all i a.rows end))
    ∙ ap (λ g. grid_with g a.cols (take i a.rows)) same ∙ ap (λ m. grid_with f m (take i a.rows)) size

-- a matrix with another row has the same shape
pub row_shape : (a b c : Grid) (i : ℕ) (row : List ℕ) → b ≡ grid_with a.field a.cols (set a.rows i row) → SameShape a c → SameShape b c
row_shape a b c i row is shape = subst (λ (g : Grid). SameShape g c) (sym is) (record { field = shape.field; rows = length-set a.rows i row ∙ shape.rows; cols = shape.cols })
