-- The text of a matroid and a matrix.
use Rattle.std.proofs.Common.{◌≡◌, ℕ, zero, suc, ◌+◌, ◌<◌, List, [], ◌∷◌, ◌++◌, length, map, refl, sym, ap, subst, ◌∙◌, inl, inr, arith, codes, append-nil, append_assoc, Result, Ok, Err}
use Rattle.std.specs.Prelude.{MatchResult}
use Rattle.std.specs.Borrow.{Bor}
use Rattle.mr_field.specs.Gf.{Gf, order}
use Rattle.mr_set.specs.Matroid.{Presentation, IsPresentation, IsMatroid}
use Rattle.mr_matroid.specs.Exchange.{IsWithinLimits, HasNoBasis, IsFirstFailure}
use Rattle.mr_text.specs.declared.TheConstants.{NUMBERS}
use Rattle.mr_text.specs.Format.{FirstFault, grammar, size, done, line_of, IsLineOf, IsLineFault, IsFirstFault, StandsFor, IsTextOf, IsFirstFaultOf}
use Rattle.mr_text.specs.Text.{numbers_text, text_of_lines}
use Rattle.mr_text.specs.Tables.{fixed}
use Rattle.mr_text.specs.Private.Sharp.{IsSharp}
use Rattle.mr_text.proofs.OneOutcome.{one_value, no_fault_of}
use Rattle.mr_file.specs.File.{file_text}
use Rattle.mr_file.specs.Reading.{Names, IsRefused, whole_file, listing}
use Rattle.mr_file.specs.declared.fault.Measure.{Measure}
use Rattle.mr_file.specs.declared.fault.FileFault.{FileFault}
use Rattle.mr_file.specs.declared.fault.FileFault.TheVariants.{Grammar, Size, NoBasis, Exchange, Memory}
use Rattle.mr_file.proofs.Outcomes.{names_map}
use Rattle.mr_file.proofs.Whole.{file_read, file_stands}
use Rattle.mr_linear.specs.Matrix.{Grid, height, IsGrid}
use Rattle.mr_linear.specs.Representation.{FitsMatroid}
use Rattle.mr_matrix.specs.Block.{header_text, row_lines, row_lines_of, grid_with, block_text}
use Rattle.mr_matrix.specs.Private.Block.{header_words}
use Rattle.mr_matrix.specs.Private.Reading.{from_rows}
use Rattle.mr_matrix.specs.Pairs.{sized_block, pair, pair_format, IsPairOf, IsPairRefusal}
use Rattle.mr_matrix.specs.Private.Pairs.{found_pair}
use Rattle.mr_matrix.specs.declared.shape.Shape.{Shape}
use Rattle.mr_matrix.specs.declared.pair.Pair.{Pair}
use Rattle.mr_matrix.specs.declared.pair.Found.{Found}
use Rattle.mr_matrix.proofs.Blocks.{order_small, rows_read, rows_stand, header_begins}
use Rattle.mr_matrix.proofs.SharpBlock.{header_one, rows_sharp}
use Rattle.mr_file.proofs.AfterFile.{FileThen, file_leads, file_faults, file_then, file_then_sharp}

-- a first line of this shape
pub sized_line : (q r n : ℕ) (bytes : List ℕ) (s : Shape) (rest : List ℕ) → s.rows ≡ r → s.cols ≡ n → IsLineOf (header_words q) bytes s rest → IsLineOf (fixed {M = Measure} (header_text q r n)) bytes tt rest
sized_line q r n bytes s rest rows cols line = record {
  line = line.line;
  begins = line.begins;
  spelled = line.spelled.text ∙ ap (λ k. header_text q k s.cols) rows ∙ ap (λ k. header_text q r k) cols;
  fits = λ m h. h;
}

-- a first line of another shape
pub other_size : (q r n : ℕ) (number : ℕ) (bytes : List ℕ) (s : Shape) (rest : List ℕ) → q < NUMBERS → r < NUMBERS → n < NUMBERS → (s.rows ≡ r → s.cols ≡ n → ⊥) → IsLineOf (header_words q) bytes s rest
    → IsLineFault (fixed {M = Measure} (header_text q r n)) number bytes (grammar number)
other_size q r n number bytes s rest small few wide other line = (
  refl,
  inr (record {
    line = line.line;
    rest = rest;
    begins = line.begins;
    stray = λ u is.
        let same = header_one q line.line s (record { rows = r; cols = n }) small line.spelled (record { rows = few; cols = wide; text = is }) in
        other (ap (λ (t : Shape). t.rows) same) (ap (λ (t : Shape). t.cols) same);
  }),
)

-- a fault of the first line whatever the shape is one for this shape
header_fault : (q r n : ℕ) (number : ℕ) (bytes : List ℕ) (fault : FirstFault Measure) → r < NUMBERS → n < NUMBERS → IsLineFault (header_words q) number bytes fault → IsLineFault (fixed {M = Measure} (header_text q r n)) number bytes fault
header_fault q r n number bytes (grammar l) few wide (is, inl short) = (is, inl short)
header_fault q r n number bytes (grammar l) few wide (is, inr s) = (
  is,
  inr (record { line = s.line; rest = s.rest; begins = s.begins; stray = λ u text. s.stray (record { rows = r; cols = n }) (record { rows = few; cols = wide; text = text }) }),
)
header_fault q r n number bytes (size l m) few wide (is, large) = absurd large.exceeds

-- a refusal of the first line
pub header_refused : (f : Gf) (q r n : ℕ) (number : ℕ) (bytes : List ℕ) (e : FileFault) → q ≡ order f → r < NUMBERS → n < NUMBERS → Names (IsLineFault (header_words q) number bytes) e → Names (IsFirstFault (sized_block f r n done) number bytes) e
header_refused f q r n number bytes e same few wide = names_map (IsLineFault (header_words q) number bytes) (IsFirstFault (sized_block f r n done) number bytes) e
    (λ g h. inl (subst (λ k. IsLineFault (fixed (header_text k r n)) number bytes g) same (header_fault q r n number bytes g few wide h)))

-- a first line of another shape is a refusal
pub size_refused : (f : Gf) (q r n : ℕ) (number : ℕ) (bytes : List ℕ) (s : Shape) (rest : List ℕ) → q ≡ order f → r < NUMBERS → n < NUMBERS → ((s.rows ≡ r) × (s.cols ≡ n) → ⊥) → IsLineOf (header_words q) bytes s rest → IsFirstFault (sized_block f r n done) number bytes (grammar number)
size_refused f q r n number bytes s rest same few wide other line = inl (subst (λ k. IsLineFault (fixed {M = Measure} (header_text k r n)) number bytes (grammar number)) same
    (other_size q r n number bytes s rest (let small = order_small f in omega arith) few wide (λ rows cols. other (rows, cols)) line))

-- the rows after a first line of this shape
pub size_then : (f : Gf) (q r n : ℕ) (number : ℕ) (bytes : List ℕ) (s : Shape) (rest : List ℕ) (res : Result (Grid × Bor (List ℕ) × ℕ) FileFault) → q ≡ order f → (s.rows ≡ r) × (s.cols ≡ n) → IsLineOf (header_words q) bytes s rest
    → MatchResult res (λ x. StandsFor (row_lines_of f r n done) (number + 1) rest x.0 x.1.now x.2) (Names (IsFirstFault (row_lines_of f r n done) (number + 1) rest))
    → MatchResult res (λ x. StandsFor (sized_block f r n done) number bytes x.0 x.1.now x.2) (Names (IsFirstFault (sized_block f r n done) number bytes))
size_then f q r n number bytes s rest (Ok x) same sized line h = (tt, rest, subst (λ k. IsLineOf (fixed {M = Measure} (header_text k r n)) bytes tt rest) same (sized_line q r n bytes s rest sized.0 sized.1 line), h)
size_then f q r n number bytes s rest (Err e) same sized line h =
    names_map (IsFirstFault (row_lines_of f r n done) (number + 1) rest) (IsFirstFault (sized_block f r n done) number bytes) e
    (λ g fault. inr (tt, rest, subst (λ k. IsLineOf (fixed {M = Measure} (header_text k r n)) bytes tt rest) same (sized_line q r n bytes s rest sized.0 sized.1 line), fault)) h

-- the rows whatever is made of them
rows_map : {X : Type 0} (f : Gf) (n k : ℕ) (rows : List (List ℕ)) (g : Grid → X) (number : ℕ) (bytes : List ℕ) (a : Grid) (rest : List ℕ) (next : ℕ) → StandsFor (from_rows f n k rows) number bytes a rest next
    → StandsFor (row_lines f n k rows (λ all. line_of (fixed (codes "end")) (λ _. done (g (grid_with f n all))))) number bytes (g a) rest next
unfolding row_lines
rows_map f n zero rows g number bytes a rest next (u, after, line, (is, same, at)) = (u, after, line, (ap g is, same, at))
rows_map f n (suc k) rows g number bytes a rest next (row, after, line, more) = (row, after, line, rows_map f n k (rows ++ row ∷ []) g (number + 1) after a rest next more)

-- and their faults
rows_faults : {X : Type 0} (f : Gf) (n k : ℕ) (rows : List (List ℕ)) (g : Grid → X) (number : ℕ) (bytes : List ℕ) (fault : FirstFault Measure) → IsFirstFault (from_rows f n k rows) number bytes fault
    → IsFirstFault (row_lines f n k rows (λ all. line_of (fixed (codes "end")) (λ _. done (g (grid_with f n all))))) number bytes fault
unfolding row_lines
rows_faults f n zero rows g number bytes fault (inl h) = inl h
rows_faults f n zero rows g number bytes fault (inr (u, after, line, h)) = absurd h
rows_faults f n (suc k) rows g number bytes fault (inl h) = inl h
rows_faults f n (suc k) rows g number bytes fault (inr (row, after, line, h)) = inr (row, after, line, rows_faults f n k (rows ++ row ∷ []) g (number + 1) after fault h)

-- the rows were read whatever is made of them
rows_back : {X : Type 0} (f : Gf) (n k : ℕ) (rows : List (List ℕ)) (g : Grid → X) (number : ℕ) (bytes : List ℕ) (x : X) (rest : List ℕ) (next : ℕ)
    → StandsFor (row_lines f n k rows (λ all. line_of (fixed (codes "end")) (λ _. done (g (grid_with f n all))))) number bytes x rest next → (a : Grid) × (x ≡ g a) × StandsFor (from_rows f n k rows) number bytes a rest next
unfolding row_lines
rows_back f n zero rows g number bytes x rest next (u, after, line, (is, same, at)) = (grid_with f n rows, is, (u, after, line, (refl, same, at)))
rows_back f n (suc k) rows g number bytes x rest next (row, after, line, more) =
    let tail = rows_back f n k (rows ++ row ∷ []) g (number + 1) after x rest next more in
    (tail.0, tail.1, (row, after, line, tail.2))

-- the same of the block
sized_map : {X : Type 0} (f : Gf) (r n : ℕ) (g : Grid → X) (number : ℕ) (bytes : List ℕ) (a : Grid) (rest : List ℕ) (next : ℕ) → StandsFor (sized_block f r n done) number bytes a rest next → StandsFor (sized_block f r n (λ b. done (g b))) number bytes (g a) rest next
sized_map f r n g number bytes a rest next (u, after, line, more) = (u, after, line, rows_map f n r [] g (number + 1) after a rest next more)

-- and of its faults
sized_faults : {X : Type 0} (f : Gf) (r n : ℕ) (g : Grid → X) (number : ℕ) (bytes : List ℕ) (fault : FirstFault Measure) → IsFirstFault (sized_block f r n done) number bytes fault → IsFirstFault (sized_block f r n (λ b. done (g b))) number bytes fault
sized_faults f r n g number bytes fault (inl h) = inl h
sized_faults f r n g number bytes fault (inr (u, after, line, more)) = inr (u, after, line, rows_faults f n r [] g (number + 1) after fault more)

-- the file and the block were read
pub pair_value : (f : Gf) (number : ℕ) (bytes : List ℕ) (m : Presentation) (rest : List ℕ) (at : ℕ) (a : Grid) (after : List ℕ) (next : ℕ) → StandsFor whole_file number bytes m rest at → StandsFor (sized_block f m.rank m.elements done) at rest a after next
    → StandsFor (pair_format f) number bytes (pair m a) after next
pair_value f number bytes m rest at a after next first second =
    let leads = file_leads (λ k. sized_block f k.rank k.elements (λ b. done (pair k b))) number bytes m rest at first in
    leads.values (pair m a) after next (sized_map f m.rank m.elements (pair m) at rest a after next second)

-- a refusal of the file
pub file_refused : (f : Gf) (number : ℕ) (bytes : List ℕ) (e : FileFault) → Names (IsFirstFault whole_file number bytes) e → Names (IsFirstFault (pair_format f) number bytes) e
file_refused f number bytes e = names_map (IsFirstFault whole_file number bytes) (IsFirstFault (pair_format f) number bytes) e (file_faults (λ k. sized_block f k.rank k.elements (λ b. done (pair k b))) number bytes)

-- a refusal of the block
pub block_refused : (f : Gf) (number : ℕ) (bytes : List ℕ) (m : Presentation) (rest : List ℕ) (at : ℕ) (e : FileFault) → StandsFor whole_file number bytes m rest at → Names (IsFirstFault (sized_block f m.rank m.elements done) at rest) e
    → Names (IsFirstFault (pair_format f) number bytes) e
block_refused f number bytes m rest at e first =
    let leads = file_leads (λ k. sized_block f k.rank k.elements (λ b. done (pair k b))) number bytes m rest at first in
    names_map (IsFirstFault (sized_block f m.rank m.elements done) at rest) (IsFirstFault (pair_format f) number bytes) e (λ g h. leads.faults g (sized_faults f m.rank m.elements (pair m) at rest g h))

-- what the text of a pair says, but that its file is a matroid's
pub record PairRead (f : Gf) (bytes : List ℕ) (p : Pair) : Type 0 where
  pub presentation : IsPresentation p.matroid
  pub limits : IsWithinLimits p.matroid
  pub field : p.matrix.field ≡ f
  pub fits : FitsMatroid p.matroid p.matrix
  pub text : bytes ≡ file_text p.matroid ++ block_text p.matrix

-- the lines of a pair were its text
pub pair_read : (f : Gf) (bytes : List ℕ) (p : Pair) → IsTextOf (pair_format f) bytes p → PairRead f bytes p
pair_read f bytes p (next, stands) = by_file (file_then (λ k. sized_block f k.rank k.elements (λ b. done (pair k b))) 1 bytes p [] next stands)
  where
    by_file : FileThen (λ k. sized_block f k.rank k.elements (λ b. done (pair k b))) 1 bytes p [] next → PairRead f bytes p
    by_file t =
        let read = file_read 1 bytes t.m t.after t.at t.file in
        let u = t.then in
        let back = rows_back f t.m.elements t.m.rank [] (pair t.m) (t.at + 1) u.1 p [] next u.3 in
        let r = rows_read f t.m.elements t.m.rank [] (t.at + 1) u.1 back.0 [] next back.2 in
        let is : p ≡ pair t.m (grid_with f t.m.elements r.more) = back.1 ∙ ap (pair t.m) r.whole in
        let count = r.count in
        let flat = read.presentation.rank in
        subst (λ (x : Pair). PairRead f bytes x) (sym is) (record {
          presentation = read.presentation;
          limits = read.limits;
          field = refl;
          fits = record { grid = record { each = r.each; rows = omega arith }; rows = r.count; cols = refl };
          text = read.text ∙ ap (λ w. file_text t.m ++ w)
              (u.2.begins.text ∙ ap (λ w. w ++ 10 ∷ u.1) u.2.spelled ∙ ap (λ k. header_text (order f) k t.m.elements ++ 10 ∷ u.1) (sym r.count)
              ∙ ap (λ w. header_text (order f) (length r.more) t.m.elements ++ 10 ∷ w) (r.text ∙ append-nil _)
              ∙ sym (append_assoc (header_text (order f) (length r.more) t.m.elements) (10 ∷ []) _));
        })

-- the text of a block stands for its matrix, where the size is known
sized_stands : (a : Grid) (number : ℕ) (rest : List ℕ) → a.cols < NUMBERS → IsGrid a → StandsFor (sized_block a.field (height a) a.cols done) number (block_text a ++ rest) a rest (number + 1 + height a + 1)
sized_stands a number rest wide grid = (
  tt,
  text_of_lines (map numbers_text a.rows ++ codes "end" ∷ []) ++ rest,
  record { line = header_text (order a.field) (height a) a.cols; begins = header_begins a rest wide grid; spelled = refl; fits = λ m h. h },
  rows_stand a.field a.cols (height a) [] a.rows (number + 1) rest refl grid.each,
)

-- the text of a pair stands for it
pub pair_stands : (f : Gf) (bytes : List ℕ) (p : Pair) → IsPairOf f bytes p → IsTextOf (pair_format f) bytes p
pair_stands f bytes p is =
    let first = file_stands 1 p.matroid (block_text p.matrix) is.matroid.presentation is.limits in
    let next = 1 + 1 + 1 + 1 + 1 + length p.matroid.nonbases + 1 in
    let leads = file_leads (λ k. sized_block f k.rank k.elements (λ b. done (pair k b))) 1 (file_text p.matroid ++ block_text p.matrix) p.matroid (block_text p.matrix) next first in
    let block = sized_stands p.matrix next [] (let wide = is.limits.elements in let cols = is.fits.cols in omega arith) is.fits.grid in
    let sized : StandsFor (sized_block f p.matroid.rank p.matroid.elements done) next (block_text p.matrix) p.matrix [] (next + 1 + height p.matrix + 1) =
    subst (λ (w : List ℕ). StandsFor (sized_block f p.matroid.rank p.matroid.elements done) next w p.matrix [] (next + 1 + height p.matrix + 1)) (append-nil (block_text p.matrix))
    (subst (λ n. StandsFor (sized_block f p.matroid.rank n done) next (block_text p.matrix ++ []) p.matrix [] (next + 1 + height p.matrix + 1)) is.fits.cols
    (subst (λ r. StandsFor (sized_block f r p.matrix.cols done) next (block_text p.matrix ++ []) p.matrix [] (next + 1 + height p.matrix + 1)) is.fits.rows
    (subst (λ g. StandsFor (sized_block g (height p.matrix) p.matrix.cols done) next (block_text p.matrix ++ []) p.matrix [] (next + 1 + height p.matrix + 1)) is.field block))) in (
      next + 1 + height p.matrix + 1,
      subst (λ (w : List ℕ). StandsFor (pair_format f) 1 w p [] (next + 1 + height p.matrix + 1)) (sym is.text)
          (leads.values p [] (next + 1 + height p.matrix + 1) (sized_map f p.matroid.rank p.matroid.elements (pair p.matroid) next (block_text p.matrix) p.matrix [] (next + 1 + height p.matrix + 1) sized)),
    )

-- the rows spell one value whatever is made of them
rows_then_sharp : {X : Type 0} (f : Gf) (n k : ℕ) (rows : List (List ℕ)) (g : Grid → X) → IsSharp (from_rows f n k rows) → IsSharp (row_lines f n k rows (λ all. line_of (fixed (codes "end")) (λ _. done (g (grid_with f n all)))))
unfolding row_lines
rows_then_sharp f n zero rows g sharp = (sharp.0, λ line a spelled fits. tt)
rows_then_sharp f n (suc k) rows g sharp = (sharp.0, λ line row spelled fits. rows_then_sharp f n k (rows ++ row ∷ []) g (sharp.1 line row spelled fits))

-- each line of a pair spells one value
pub pair_sharp : (f : Gf) → IsSharp (pair_format f)
pair_sharp f = file_then_sharp (λ m. sized_block f m.rank m.elements (λ a. done (pair m a))) (λ m small. (
  record { one_value = λ line a b p q. refl; one_measure = λ a k l p q. absurd p },
  λ line u spelled fits. rows_then_sharp f m.elements m.rank [] (pair m) (rows_sharp f m.elements m.rank []),
))

-- the text of a pair stands for one
pub one_pair : (f : Gf) (bytes : List ℕ) (p q : Pair) → IsTextOf (pair_format f) bytes p → IsTextOf (pair_format f) bytes q → p ≡ q
one_pair f bytes p q one two = (one_value (pair_format f) (pair_sharp f) 1 bytes p q [] [] one.0 two.0 one.1 two.1).0

-- what is read is a pair
pub pair_ok : (f : Gf) (bytes : List ℕ) (x : Found) (m : Presentation) → IsTextOf (pair_format f) bytes (found_pair x) → (m ≡ listing x.listed) × IsMatroid m → IsPairOf f bytes (pair m x.matrix)
pair_ok f bytes x m text made =
    let there : IsTextOf (pair_format f) bytes (pair m x.matrix) = subst (λ (k : Presentation). IsTextOf (pair_format f) bytes (pair k x.matrix)) (sym made.0) text in
    let read = pair_read f bytes (pair m x.matrix) there in
    record { matroid = made.1; limits = read.limits; field = read.field; fits = read.fits; text = read.text }

-- what is made of a pair's parts is that pair
pub pair_only : (f : Gf) (bytes : List ℕ) (x : Found) (m : Presentation) (p : Pair) → IsTextOf (pair_format f) bytes (found_pair x) → m ≡ listing x.listed → IsPairOf f bytes p → pair m x.matrix ≡ p
pair_only f bytes x m p text made is = ap (λ (k : Presentation). pair k x.matrix) made ∙ one_pair f bytes (found_pair x) p text (pair_stands f bytes p is)

-- a refusal of the lines
pub lines_refusal : (f : Gf) (bytes : List ℕ) (e : FileFault) → Names (IsFirstFaultOf (pair_format f) bytes) e → IsPairRefusal f bytes e
lines_refusal f bytes (Grammar line) h = h
lines_refusal f bytes (Size line what) h = h
lines_refusal f bytes NoBasis h = absurd h
lines_refusal f bytes (Exchange b1 b2 x) h = absurd h
lines_refusal f bytes Memory h = h

-- a refusal of the numbers and sets
pub sets_refusal : (f : Gf) (bytes : List ℕ) (x : Found) (e : FileFault) → IsTextOf (pair_format f) bytes (found_pair x) → IsRefused (listing x.listed) e → IsPairRefusal f bytes e
sets_refusal f bytes x (Grammar line) text h = absurd h
sets_refusal f bytes x (Size line what) text h = absurd h
sets_refusal f bytes x NoBasis text h = (listing x.listed, (x.matrix, text), h)
sets_refusal f bytes x (Exchange b1 b2 y) text h = (listing x.listed, (x.matrix, text), h)
sets_refusal f bytes x Memory text h = h

-- the text of a pair is not refused, unless memory runs out
pub pair_never_refused : (f : Gf) (bytes : List ℕ) (p : Pair) (e : FileFault) → IsPairOf f bytes p → IsPairRefusal f bytes e → e ≡ Memory
pair_never_refused f bytes p (Grammar line) is h = absurd (no_fault_of (pair_format f) (pair_sharp f) bytes p (grammar line) (pair_stands f bytes p is) h)
pair_never_refused f bytes p (Size line what) is h = absurd (no_fault_of (pair_format f) (pair_sharp f) bytes p (size line what) (pair_stands f bytes p is) h)
pair_never_refused f bytes p NoBasis is (m, (a, text), none) =
    let same : m ≡ p.matroid = ap (λ (x : Pair). x.matroid) (one_pair f bytes (pair m a) p text (pair_stands f bytes p is)) in
    let basis = is.matroid.basis in
    absurd (subst HasNoBasis same none basis.0 basis.1)
pair_never_refused f bytes p (Exchange b1 b2 x) is (m, (a, text), failure) =
    let same : m ≡ p.matroid = ap (λ (y : Pair). y.matroid) (one_pair f bytes (pair m a) p text (pair_stands f bytes p is)) in
    let there = subst (λ (k : Presentation). IsFirstFailure k b1 b2 x) same failure in
    absurd (is.matroid.exchange b1 b2 x there.fails)
pair_never_refused f bytes p Memory is h = refl
