-- One exit and one text are due of an input that is read, or that is refused.
use Rattle.std.proofs.Common.{◌≡◌, ◌≢◌, ◌⊎◌, ℕ, List, refl, sym, ap, subst, ◌∙◌, inl, inr}
use Rattle.mr_field.specs.Gf.{Gf}
use Rattle.mr_set.specs.Matroid.{Presentation}
use Rattle.mr_matroid.specs.Exchange.{HasNoBasis, IsFirstFailure}
use Rattle.mr_matroid.proofs.Verdicts.{one_first_failure, basis_of_failure}
use Rattle.mr_text.specs.Format.{FirstFault, grammar, size, IsTextOf, IsFirstFaultOf}
use Rattle.mr_text.proofs.OneOutcome.{one_fault_of, no_fault_of}
use Rattle.mr_file.specs.File.{IsFileOf}
use Rattle.mr_file.specs.Reading.{IsRefusal, IsFileRefusal}
use Rattle.mr_file.specs.declared.fault.Measure.{Measure}
use Rattle.mr_file.specs.declared.fault.FileFault.{FileFault}
use Rattle.mr_file.specs.declared.fault.FileFault.TheVariants as file
use Rattle.mr_file.proofs.Accepting.{same_matroid, text_of_file, never_refused}
use Rattle.mr_file.proofs.Refusals.{one_refusal}
use Rattle.mr_linear.specs.Matrix.{Grid}
use Rattle.mr_matrix.specs.Block.{IsBlockOf}
use Rattle.mr_matrix.specs.Reading.{IsMatrixRefusal}
use Rattle.mr_matrix.specs.Pairs.{pair, pair_format, IsPairOf, IsPairRefusal}
use Rattle.mr_matrix.specs.declared.pair.Pair.{Pair}
use Rattle.mr_matrix.specs.declared.fault.MatrixFault.{MatrixFault}
use Rattle.mr_matrix.specs.declared.fault.MatrixFault.TheVariants as matrix
use Rattle.mr_matrix.proofs.AcceptingBlock.{one_block, block_never_refused}
use Rattle.mr_matrix.proofs.BlockLaws.{one_pair_text, one_refusal as one_matrix_refusal}
use Rattle.mr_matrix.proofs.PairText.{pair_sharp, one_pair, pair_never_refused}
use Rattle.matrep.specs.Texts.{refusal_text}
use Rattle.matrep.specs.Result.{IsFileFault, IsMatrixFault, OfInput, OfFile}
use Rattle.matrep.specs.declared.outcome.Exit.{Exit}
use Rattle.matrep.specs.declared.outcome.Exit.TheVariants.{Refused}
use Rattle.matrep.specs.declared.outcome.Fault.{Fault}
use Rattle.matrep.specs.declared.outcome.Fault.TheVariants.{TooLong, Grammar, Size, NoBasis, Exchange, Stranger, RankShort}

-- the exits are one, and the texts too, unless the exit is such that they may differ
abbrev pub AreOne : (Exit → Type 0) → Exit → Exit → List ℕ → List ℕ → Type 0
AreOne MayDiffer exit end text line = (exit ≡ end) × (MayDiffer exit ⊎ (text ≡ line))

-- the fault of a refusal of a file
abbrev as_fault : FileFault → Fault
as_fault (file.Grammar line) = Grammar line
as_fault (file.Size line what) = Size line what
as_fault file.NoBasis = NoBasis
as_fault (file.Exchange b1 b2 x) = Exchange b1 b2 x
as_fault file.Memory = TooLong

-- a fault of a file is that of a refusal
of_file : (Names : FileFault → Type 0) (fault : Fault) → IsFileFault Names fault → (e : FileFault) × (e ≢ file.Memory) × Names e × (fault ≡ as_fault e)
of_file Names TooLong names = absurd names
of_file Names (Grammar line) names = (file.Grammar line, (λ is. cc), names, refl)
of_file Names (Size line what) names = (file.Size line what, (λ is. cc), names, refl)
of_file Names NoBasis names = (file.NoBasis, (λ is. cc), names, refl)
of_file Names (Exchange b1 b2 x) names = (file.Exchange b1 b2 x, (λ is. cc), names, refl)
of_file Names (Stranger e) names = absurd names
of_file Names (RankShort rank) names = absurd names

-- where there is one refusal there is one fault
module _ (Names : FileFault → Type 0) where
  one_file_fault : ((e g : FileFault) → e ≢ file.Memory → g ≢ file.Memory → Names e → Names g → e ≡ g) → (a b : Fault) → IsFileFault Names a → IsFileFault Names b → a ≡ b
  one_file_fault one a b first second =
      let x = of_file Names a first in
      let y = of_file Names b second in
      x.3 ∙ ap as_fault (one x.0 y.0 x.1 y.1 x.2 y.2) ∙ sym y.3

  -- and where there is none there is none
  no_file_fault : ((e : FileFault) → Names e → e ≡ file.Memory) → (fault : Fault) → IsFileFault Names fault → ⊥
  no_file_fault none fault names = let x = of_file Names fault names in x.1 (none x.0 x.2)

-- the fault of a refusal of a matrix
abbrev as_matrix : MatrixFault → Fault
as_matrix (matrix.Grammar line) = Grammar line
as_matrix (matrix.Size line what) = Size line what
as_matrix matrix.Memory = TooLong

-- a fault of a matrix is that of a refusal
of_matrix : (Names : MatrixFault → Type 0) (fault : Fault) → IsMatrixFault Names fault → (e : MatrixFault) × (e ≢ matrix.Memory) × Names e × (fault ≡ as_matrix e)
of_matrix Names TooLong names = absurd names
of_matrix Names (Grammar line) names = (matrix.Grammar line, (λ is. cc), names, refl)
of_matrix Names (Size line what) names = (matrix.Size line what, (λ is. cc), names, refl)
of_matrix Names NoBasis names = absurd names
of_matrix Names (Exchange b1 b2 x) names = absurd names
of_matrix Names (Stranger e) names = absurd names
of_matrix Names (RankShort rank) names = absurd names

-- where there is one refusal there is one fault
module _ (Names : MatrixFault → Type 0) where
  one_matrix_fault : ((e g : MatrixFault) → e ≢ matrix.Memory → g ≢ matrix.Memory → Names e → Names g → e ≡ g) → (a b : Fault) → IsMatrixFault Names a → IsMatrixFault Names b → a ≡ b
  one_matrix_fault one a b first second =
      let x = of_matrix Names a first in
      let y = of_matrix Names b second in
      x.3 ∙ ap as_matrix (one x.0 y.0 x.1 y.1 x.2 y.2) ∙ sym y.3

  -- and where there is none there is none
  no_matrix_fault : ((e : MatrixFault) → Names e → e ≡ matrix.Memory) → (fault : Fault) → IsMatrixFault Names fault → ⊥
  no_matrix_fault none fault names = let x = of_matrix Names fault names in x.1 (none x.0 x.2)

-- the refusal that names a fault of the lines
abbrev named : FirstFault Measure → FileFault
named (grammar line) = file.Grammar line
named (size line what) = file.Size line what

-- the numbers and sets have no basis, or an exchange fails
abbrev Fails : Presentation → FileFault → Type 0
Fails m e = (HasNoBasis m × (e ≡ file.NoBasis)) ⊎ ((b1 : List ℕ) × (b2 : List ℕ) × (x : ℕ) × IsFirstFailure m b1 b2 x × (e ≡ file.Exchange b1 b2 x))

-- a fault of the lines, or of the numbers and sets that they stand for
abbrev Kinds : (FirstFault Measure → Type 0) → (Presentation → Type 0) → FileFault → Type 0
Kinds First Is e = ((fault : FirstFault Measure) × First fault × (e ≡ named fault)) ⊎ ((m : Presentation) × Is m × Fails m e)

-- a refusal is of one of these kinds
kinds : (First : FirstFault Measure → Type 0) (Is : Presentation → Type 0) (e : FileFault) → e ≢ file.Memory → IsRefusal First Is e → Kinds First Is e
kinds First Is (file.Grammar line) some first = inl (grammar line, first, refl)
kinds First Is (file.Size line what) some first = inl (size line what, first, refl)
kinds First Is file.NoBasis some (m, is, none) = inr (m, is, inl (none, refl))
kinds First Is (file.Exchange b1 b2 x) some (m, is, failure) = inr (m, is, inr (b1, b2, x, failure, refl))
kinds First Is file.Memory some refused = absurd (some refl)

-- numbers and sets fail for one cause
one_failure : (m : Presentation) (e g : FileFault) → Fails m e → Fails m g → e ≡ g
one_failure m e g (inl (none, is)) (inl (also, other)) = is ∙ sym other
one_failure m e g (inl (none, is)) (inr (b1, b2, x, failure, other)) = absurd (basis_of_failure m b1 b2 x none failure)
one_failure m e g (inr (b1, b2, x, failure, is)) (inl (none, other)) = absurd (basis_of_failure m b1 b2 x none failure)
one_failure m e g (inr (b1, b2, x, failure, is)) (inr (c1, c2, y, later, other)) =
    let same = one_first_failure m b1 b2 c1 c2 x y failure later in
    let first = same.0 in
    let second = same.1 in
    let element = same.2 in
    cc

-- the text of a pair is refused for one cause
module _ (f : Gf) (bytes : List ℕ) where
  -- a pair of this matroid is what the text stands for
  abbrev IsListed : Presentation → Type 0
  IsListed m = (a : Grid) × IsTextOf (pair_format f) bytes (pair m a)

  one_kind : (e g : FileFault) → Kinds (IsFirstFaultOf (pair_format f) bytes) IsListed e → Kinds (IsFirstFaultOf (pair_format f) bytes) IsListed g → e ≡ g
  one_kind e g (inl (p, first, is)) (inl (q, also, other)) = is ∙ ap named (one_fault_of (pair_format f) (pair_sharp f) bytes p q first also) ∙ sym other
  one_kind e g (inl (p, first, is)) (inr (m, (a, text), fails)) = absurd (no_fault_of (pair_format f) (pair_sharp f) bytes (pair m a) p text first)
  one_kind e g (inr (m, (a, text), fails)) (inl (p, first, is)) = absurd (no_fault_of (pair_format f) (pair_sharp f) bytes (pair m a) p text first)
  one_kind e g (inr (m, (a, text), fails)) (inr (k, (b, also), other)) =
      one_failure m e g fails (subst (λ (w : Presentation). Fails w g) (ap (λ (p : Pair). p.matroid) (one_pair f bytes (pair k b) (pair m a) also text)) other)

  one_pair_refusal : (e g : FileFault) → e ≢ file.Memory → g ≢ file.Memory → IsPairRefusal f bytes e → IsPairRefusal f bytes g → e ≡ g
  one_pair_refusal e g some other first second =
      one_kind e g (kinds (IsFirstFaultOf (pair_format f) bytes) IsListed e some first) (kinds (IsFirstFaultOf (pair_format f) bytes) IsListed g other second)

-- one exit and one text are due of an input that is one of those read, or at one fault, and never both
module _ (X : Type 0) (Is : X → Type 0) (IsFault : Fault → Type 0) (one : (x y : X) → Is x → Is y → x ≡ y) (apart : (x : X) (fault : Fault) → Is x → IsFault fault → ⊥) where
  one_of_input : ((a b : Fault) → IsFault a → IsFault b → a ≡ b) → (Due : X → Exit → List ℕ → Type 0) (MayDiffer : Exit → Type 0) (exit end : Exit) (text line : List ℕ) →
      ((x : X) → Due x exit text → Due x end line → AreOne MayDiffer exit end text line) → OfInput Is IsFault Due exit text → OfInput Is IsFault Due end line → AreOne MayDiffer exit end text line
  one_of_input cause Due MayDiffer exit end text line due (inl (x, is, here)) (inl (y, also, there)) = due x here (subst (λ (z : X). Due z end line) (one y x also is) there)
  one_of_input cause Due MayDiffer exit end text line due (inl (x, is, here)) (inr (fault, at, exit_is, text_is)) = absurd (apart x fault is at)
  one_of_input cause Due MayDiffer exit end text line due (inr (fault, at, exit_is, text_is)) (inl (x, is, here)) = absurd (apart x fault is at)
  one_of_input cause Due MayDiffer exit end text line due (inr (a, first, exit_is, text_is)) (inr (b, second, end_is, line_is)) =
      let same : a ≡ b = cause a b first second in
      (exit_is ∙ ap Refused same ∙ sym end_is, inr (text_is ∙ ap refusal_text same ∙ sym line_is))

  -- where it is one of those read, it is what is due of this one
  due_of_input : (x : X) (Due : X → Exit → List ℕ → Type 0) (exit : Exit) (text : List ℕ) → Is x → OfInput Is IsFault Due exit text → Due x exit text
  due_of_input x Due exit text is (inl (y, also, due)) = subst (λ (z : X). Due z exit text) (one y x also is) due
  due_of_input x Due exit text is (inr (fault, at, exit_is, text_is)) = absurd (apart x fault is at)

-- of the file of a matroid
module _ (bytes : List ℕ) where
  -- it is that of one, and at no fault
  one_file_read : (m k : Presentation) → IsFileOf bytes m → IsFileOf bytes k → m ≡ k
  one_file_read m k is also = same_matroid bytes m k (text_of_file bytes m is) (text_of_file bytes k also)

  file_apart : (m : Presentation) (fault : Fault) → IsFileOf bytes m → IsFileFault (IsFileRefusal bytes) fault → ⊥
  file_apart m fault is at = no_file_fault (IsFileRefusal bytes) (λ e refused. never_refused bytes m e is refused) fault at

  pub one_of_file : (Due : Presentation → Exit → List ℕ → Type 0) (MayDiffer : Exit → Type 0) (exit end : Exit) (text line : List ℕ) → ((m : Presentation) → Due m exit text → Due m end line → AreOne MayDiffer exit end text line) →
      OfFile bytes Due exit text → OfFile bytes Due end line → AreOne MayDiffer exit end text line
  one_of_file = one_of_input Presentation (IsFileOf bytes) (IsFileFault (IsFileRefusal bytes)) one_file_read file_apart (one_file_fault (IsFileRefusal bytes) (one_refusal bytes))

  pub due_of_file : (m : Presentation) (Due : Presentation → Exit → List ℕ → Type 0) (exit : Exit) (text : List ℕ) → IsFileOf bytes m → OfFile bytes Due exit text → Due m exit text
  due_of_file = due_of_input Presentation (IsFileOf bytes) (IsFileFault (IsFileRefusal bytes)) one_file_read file_apart

-- of a matroid and a matrix
module _ (f : Gf) (bytes : List ℕ) where
  -- they are at no fault
  pair_apart : (p : Pair) (fault : Fault) → IsPairOf f bytes p → IsFileFault (IsPairRefusal f bytes) fault → ⊥
  pair_apart p fault is at = no_file_fault (IsPairRefusal f bytes) (λ e refused. pair_never_refused f bytes p e is refused) fault at

  pub one_of_pair : (Due : Pair → Exit → List ℕ → Type 0) (MayDiffer : Exit → Type 0) (exit end : Exit) (text line : List ℕ) → ((p : Pair) → Due p exit text → Due p end line → AreOne MayDiffer exit end text line) →
      OfInput (IsPairOf f bytes) (IsFileFault (IsPairRefusal f bytes)) Due exit text → OfInput (IsPairOf f bytes) (IsFileFault (IsPairRefusal f bytes)) Due end line → AreOne MayDiffer exit end text line
  one_of_pair = one_of_input Pair (IsPairOf f bytes) (IsFileFault (IsPairRefusal f bytes)) (one_pair_text f bytes) pair_apart (one_file_fault (IsPairRefusal f bytes) (one_pair_refusal f bytes))

  pub due_of_pair : (p : Pair) (Due : Pair → Exit → List ℕ → Type 0) (exit : Exit) (text : List ℕ) → IsPairOf f bytes p → OfInput (IsPairOf f bytes) (IsFileFault (IsPairRefusal f bytes)) Due exit text → Due p exit text
  due_of_pair = due_of_input Pair (IsPairOf f bytes) (IsFileFault (IsPairRefusal f bytes)) (one_pair_text f bytes) pair_apart

  -- and of a matrix, which is at none either
  matrix_apart : (a : Grid) (fault : Fault) → IsBlockOf f bytes a → IsMatrixFault (IsMatrixRefusal f bytes) fault → ⊥
  matrix_apart a fault is at = no_matrix_fault (IsMatrixRefusal f bytes) (λ e refused. block_never_refused f bytes a e is refused) fault at

  pub one_of_matrix : (Due : Grid → Exit → List ℕ → Type 0) (MayDiffer : Exit → Type 0) (exit end : Exit) (text line : List ℕ) → ((a : Grid) → Due a exit text → Due a end line → AreOne MayDiffer exit end text line) →
      OfInput (IsBlockOf f bytes) (IsMatrixFault (IsMatrixRefusal f bytes)) Due exit text → OfInput (IsBlockOf f bytes) (IsMatrixFault (IsMatrixRefusal f bytes)) Due end line → AreOne MayDiffer exit end text line
  one_of_matrix = one_of_input Grid (IsBlockOf f bytes) (IsMatrixFault (IsMatrixRefusal f bytes)) (one_block f bytes) matrix_apart (one_matrix_fault (IsMatrixRefusal f bytes) (one_matrix_refusal f bytes))

  pub due_of_matrix : (a : Grid) (Due : Grid → Exit → List ℕ → Type 0) (exit : Exit) (text : List ℕ) → IsBlockOf f bytes a → OfInput (IsBlockOf f bytes) (IsMatrixFault (IsMatrixRefusal f bytes)) Due exit text → Due a exit text
  due_of_matrix = due_of_input Grid (IsBlockOf f bytes) (IsMatrixFault (IsMatrixRefusal f bytes)) (one_block f bytes) matrix_apart
