-- A text is refused for one cause.
use Rattle.std.proofs.Common.{◌≡◌, ◌≢◌, ℕ, List, refl, sym, ap, subst}
use Rattle.mr_set.specs.Matroid.{Presentation}
use Rattle.mr_matroid.specs.Exchange.{HasNoBasis, IsFirstFailure}
use Rattle.mr_matroid.proofs.Verdicts.{one_first_failure, basis_of_failure}
use Rattle.mr_text.specs.Format.{FirstFault, grammar, size, StandsFor, IsTextOf, IsFirstFault, IsFirstFaultOf}
use Rattle.mr_text.proofs.OneOutcome.{one_value, no_fault, one_fault, no_fault_of, one_fault_of}
use Rattle.mr_file.specs.Reading.{whole_file, IsRefusal}
use Rattle.mr_file.specs.Laws.{OneRefusal, OnePartRefusal}
use Rattle.mr_file.specs.declared.fault.Measure.{Measure}
use Rattle.mr_file.specs.declared.fault.FileFault.{FileFault}
use Rattle.mr_file.specs.declared.fault.FileFault.TheVariants.{Grammar, Size, NoBasis, Exchange, Memory}
use Rattle.mr_file.proofs.Accepting.{same_matroid}
use Rattle.mr_file.proofs.SharpFile.{file_sharp}

-- the refusal that names a fault
abbrev named : FirstFault Measure → FileFault
named (grammar line) = Grammar line
named (size line what) = Size line what

-- a text has one first fault or stands for one value
record IsOneOutcome (First : FirstFault Measure → Type 0) (Is : Presentation → Type 0) : Type 0 where
  pub fault : (e f : FirstFault Measure) → First e → First f → e ≡ f
  pub never_both : (m : Presentation) (e : FirstFault Measure) → Is m → First e → ⊥
  pub value : (m k : Presentation) → Is m → Is k → m ≡ k

-- what has no basis has no failing exchange
basis_or_failure : {A : Type 0} (m k : Presentation) (b1 b2 : List ℕ) (x : ℕ) → m ≡ k → HasNoBasis m → IsFirstFailure k b1 b2 x → A
basis_or_failure m k b1 b2 x same none failure =
    absurd (basis_of_failure m b1 b2 x none (subst (λ (w : Presentation). IsFirstFailure w b1 b2 x) (sym same) failure))

-- then it is refused for one cause
refused_once : (First : FirstFault Measure → Type 0) (Is : Presentation → Type 0) → IsOneOutcome First Is → (e f : FileFault) → e ≢ Memory → f ≢ Memory → IsRefusal First Is e → IsRefusal First Is f → e ≡ f
refused_once First Is one (Grammar l) (Grammar k) some other p q = ap named (one.fault (grammar l) (grammar k) p q)
refused_once First Is one (Grammar l) (Size k m) some other p q = ap named (one.fault (grammar l) (size k m) p q)
refused_once First Is one (Grammar l) NoBasis some other p (m, is, none) = absurd (one.never_both m (grammar l) is p)
refused_once First Is one (Grammar l) (Exchange b1 b2 x) some other p (m, is, failure) = absurd (one.never_both m (grammar l) is p)
refused_once First Is one (Grammar l) Memory some other p q = absurd (other refl)
refused_once First Is one (Size l m) (Grammar k) some other p q = ap named (one.fault (size l m) (grammar k) p q)
refused_once First Is one (Size l m) (Size k n) some other p q = ap named (one.fault (size l m) (size k n) p q)
refused_once First Is one (Size l m) NoBasis some other p (k, is, none) = absurd (one.never_both k (size l m) is p)
refused_once First Is one (Size l m) (Exchange b1 b2 x) some other p (k, is, failure) = absurd (one.never_both k (size l m) is p)
refused_once First Is one (Size l m) Memory some other p q = absurd (other refl)
refused_once First Is one NoBasis (Grammar k) some other (m, is, none) q = absurd (one.never_both m (grammar k) is q)
refused_once First Is one NoBasis (Size k n) some other (m, is, none) q = absurd (one.never_both m (size k n) is q)
refused_once First Is one NoBasis NoBasis some other p q = refl
refused_once First Is one NoBasis (Exchange b1 b2 x) some other (m, is, none) (k, also, failure) = basis_or_failure m k b1 b2 x (one.value m k is also) none failure
refused_once First Is one NoBasis Memory some other p q = absurd (other refl)
refused_once First Is one (Exchange b1 b2 x) (Grammar k) some other (m, is, failure) q = absurd (one.never_both m (grammar k) is q)
refused_once First Is one (Exchange b1 b2 x) (Size k n) some other (m, is, failure) q = absurd (one.never_both m (size k n) is q)
refused_once First Is one (Exchange b1 b2 x) NoBasis some other (m, is, failure) (k, also, none) = basis_or_failure k m b1 b2 x (one.value k m also is) none failure
refused_once First Is one (Exchange b1 b2 x) (Exchange c1 c2 y) some other (m, is, failure) (k, also, later) =
    let there : IsFirstFailure m c1 c2 y = subst (λ (w : Presentation). IsFirstFailure w c1 c2 y) (one.value k m also is) later in
    let same = one_first_failure m b1 b2 c1 c2 x y failure there in
    let first = same.0 in
    let second = same.1 in
    let element = same.2 in
    cc
refused_once First Is one (Exchange b1 b2 x) Memory some other p q = absurd (other refl)
refused_once First Is one Memory f some other p q = absurd (some refl)

-- a whole file is refused for one cause
pub one_refusal : OneRefusal
one_refusal bytes = refused_once (IsFirstFaultOf whole_file bytes) (IsTextOf whole_file bytes) (record {
  fault = one_fault_of whole_file file_sharp bytes;
  never_both = no_fault_of whole_file file_sharp bytes;
  value = same_matroid bytes;
})

-- so is a file that begins a text
pub one_part_refusal : OnePartRefusal
one_part_refusal number bytes = refused_once (IsFirstFault whole_file number bytes) (λ m. (rest : List ℕ) × (next : ℕ) × StandsFor whole_file number bytes m rest next) (record {
  fault = one_fault whole_file file_sharp number bytes;
  never_both = λ m e is first. no_fault whole_file file_sharp number bytes m is.0 is.1 e is.2 first;
  value = λ m k is also. (one_value whole_file file_sharp number bytes m k is.0 also.0 is.1 also.1 is.2 also.2).0;
})
