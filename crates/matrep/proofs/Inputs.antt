-- What is told of an input that is read or refused.
use Rattle.std.proofs.Common.{◌≡◌, ℕ, List, sym, subst, inl, inr, Result, Ok, Err}
use Rattle.std.specs.Prelude.{IfOk}
use Rattle.mr_field.specs.Gf.{Gf, order}
use Rattle.mr_file.specs.declared.fault.FileFault.{FileFault}
use Rattle.mr_matrix.specs.declared.fault.MatrixFault.{MatrixFault}
use Rattle.matrep.specs.Texts.{refusal_text}
use Rattle.matrep.specs.Result.{IsFileFault, IsMatrixFault, Refuses, OfInput}
use Rattle.matrep.specs.declared.outcome.Fault.{Fault}
use Rattle.matrep.specs.declared.outcome.Fault.TheVariants.{TooLong, Grammar, Size, NoBasis, Exchange, Stranger, RankShort}
use Rattle.matrep.specs.declared.outcome.Exit.{Exit}
use Rattle.matrep.specs.declared.outcome.Exit.TheVariants.{Refused}

-- what is said of the refusal of a file holds of the fault that it is told as
pub file_fault : (Names : FileFault → Type 0) (e : FileFault) (fault : Fault) → Names e → IsFileFault (λ x. x ≡ e) fault → IsFileFault Names fault
file_fault Names e TooLong named is = absurd is
file_fault Names e (Grammar line) named is = subst Names (sym is) named
file_fault Names e (Size line what) named is = subst Names (sym is) named
file_fault Names e NoBasis named is = subst Names (sym is) named
file_fault Names e (Exchange b1 b2 x) named is = subst Names (sym is) named
file_fault Names e (Stranger x) named is = absurd is
file_fault Names e (RankShort rank) named is = absurd is

-- the same of the refusal of a matrix
pub matrix_fault : (Names : MatrixFault → Type 0) (e : MatrixFault) (fault : Fault) → Names e → IsMatrixFault (λ x. x ≡ e) fault → IsMatrixFault Names fault
matrix_fault Names e TooLong named is = absurd is
matrix_fault Names e (Grammar line) named is = subst Names (sym is) named
matrix_fault Names e (Size line what) named is = subst Names (sym is) named
matrix_fault Names e NoBasis named is = absurd is
matrix_fault Names e (Exchange b1 b2 x) named is = absurd is
matrix_fault Names e (Stranger x) named is = absurd is
matrix_fault Names e (RankShort rank) named is = absurd is

-- an outcome that tells a fault
pub refuses : {A E : Type 0} (exit : A → Exit) (text : A → List ℕ) (IsFault : Fault → Type 0) (fault : Fault) (r : Result A E) → IsFault fault
    → IfOk r (λ o. exit o ≡ Refused fault) → IfOk r (λ o. text o ≡ refusal_text fault) → IfOk r (λ o. Refuses IsFault (exit o) (text o))
refuses exit text IsFault fault (Ok o) is exit_is text_is = (fault, is, exit_is, text_is)
refuses exit text IsFault fault (Err e) is exit_is text_is = tt

-- an input that was read
pub input_read : {A E X : Type 0} (exit : A → Exit) (text : A → List ℕ) (Is : X → Type 0) (IsFault : Fault → Type 0) (Due : X → Exit → List ℕ → Type 0) (x : X) (r : Result A E) → Is x
    → IfOk r (λ o. Due x (exit o) (text o)) → IfOk r (λ o. OfInput Is IsFault Due (exit o) (text o))
input_read exit text Is IsFault Due x (Ok o) is due = inl (x, is, due)
input_read exit text Is IsFault Due x (Err e) is due = tt

-- one that was refused
pub input_refused : {A E X : Type 0} (exit : A → Exit) (text : A → List ℕ) (Is : X → Type 0) (IsFault : Fault → Type 0) (Due : X → Exit → List ℕ → Type 0) (r : Result A E)
    → IfOk r (λ o. Refuses IsFault (exit o) (text o)) → IfOk r (λ o. OfInput Is IsFault Due (exit o) (text o))
input_refused exit text Is IsFault Due (Ok o) refused = inr refused
input_refused exit text Is IsFault Due (Err e) refused = tt

-- one that was refused as a file is
pub refused_as_file : {A E : Type 0} (exit : A → Exit) (text : A → List ℕ) (Names : FileFault → Type 0) (e : FileFault) (r : Result A E) → Names e
    → IfOk r (λ o. Refuses (IsFileFault (λ x. x ≡ e)) (exit o) (text o)) → IfOk r (λ o. Refuses (IsFileFault Names) (exit o) (text o))
refused_as_file exit text Names e (Ok o) named refused = (refused.0, file_fault Names e refused.0 named refused.1, refused.2, refused.3)
refused_as_file exit text Names e (Err f) named refused = tt

-- what holds over a field holds over one with as many elements
pub over_field : {A E : Type 0} (P : Gf → A → Type 0) (f : Gf) (q : ℕ) (r : Result A E) → order f ≡ q → IfOk r (P f) → IfOk r (λ o. (g : Gf) × (order g ≡ q) × P g o)
over_field P f q (Ok o) over holds = (f, over, holds)
over_field P f q (Err e) over holds = tt
