-- The matroid of what was read.
use Rattle.std.proofs.Common.{◌≡◌, ℕ, ◌-◌, ◌≤◌, List, [], ◌∷◌, ◌++◌, length, drop, refl, sym, ap, subst, ◌∙◌, arith, Result, Ok, Err, length-append, length-drop, take, append_assoc}
use Rattle.std.specs.Prelude.{MatchResult, IfOk, IfErr}
use Rattle.std.proofs.lemmas.List.{drop_at, take-append-drop}
use Rattle.mr_set.specs.Matroid.{Presentation, IsMatroid}
use Rattle.mr_matroid.specs.Answers.{IsMatroidVerdict}
use Rattle.mr_matroid.specs.declared.fault.MatroidFault.{MatroidFault}
use Rattle.mr_matroid.specs.declared.fault.MatroidFault.TheVariants as matroid
use Rattle.mr_text.specs.Format.{FirstFault, StandsFor, IsTextOf, IsFirstFault, IsFirstFaultOf}
use Rattle.mr_file.specs.declared.fault.Measure.{Measure}
use Rattle.mr_text.proofs.Formats.{front_of}
use Rattle.mr_file.specs.Reading.{Names, IsRefused, IsRefusal, IsFileRefusal, IsPartRefusal, whole_file}
use Rattle.mr_file.specs.Private.Reading.{as_file_fault}
use Rattle.mr_file.specs.Part.{IsPart}
use Rattle.mr_file.specs.declared.fault.FileFault.{FileFault}
use Rattle.mr_file.specs.declared.fault.FileFault.TheVariants.{Grammar, Size, NoBasis, Exchange, Memory}

-- a refusal of the matroid's maker is one of the file
pub refused : (m : Presentation) (fault : MatroidFault) → IsMatroidVerdict m (Err fault) → IsRefused m (as_file_fault fault)
refused m matroid.NoBasis h = h
refused m (matroid.Exchange b1 b2 x) h = h
refused m matroid.Memory h = h

-- the answer for what a matroid was made of
abbrev pub Made : Presentation → Result Presentation FileFault → Type 0
Made m r = MatchResult r (λ x. (x ≡ m) × IsMatroid x) (IsRefused m)

-- a rest of no bytes
pub empty : (rest : List ℕ) → length rest ≡ 0 → rest ≡ []
empty [] is = refl
empty (b ∷ rest) is = absurd (omega arith)

-- what was made is what the whole text stands for
pub made_ok : (bytes : List ℕ) (m : Presentation) (rest : List ℕ) (next : ℕ) (r : Result Presentation FileFault) → StandsFor whole_file 1 bytes m rest next → rest ≡ [] → Made m r → IfOk r (λ x. IsTextOf whole_file bytes x × IsMatroid x)
made_ok bytes m rest next (Ok x) stands none made = ((next, subst (λ (y : Presentation). StandsFor whole_file 1 bytes y [] next) (sym made.0) (subst (λ z. StandsFor whole_file 1 bytes m z next) none stands)), made.1)
made_ok bytes m rest next (Err e) stands none made = tt

-- a refusal of what the text stands for
pub refusal : (P : FirstFault Measure → Type 0) (Is : Presentation → Type 0) (m : Presentation) (e : FileFault) → Is m → IsRefused m e → IsRefusal P Is e
refusal P Is m (Grammar line) is h = absurd h
refusal P Is m (Size line what) is h = absurd h
refusal P Is m NoBasis is h = (m, is, h)
refusal P Is m (Exchange b1 b2 x) is h = (m, is, h)
refusal P Is m Memory is h = h

-- a refusal of the whole text
pub made_refusal : (bytes : List ℕ) (m : Presentation) (rest : List ℕ) (next : ℕ) (r : Result Presentation FileFault) → StandsFor whole_file 1 bytes m rest next → rest ≡ [] → Made m r → IfErr r (IsFileRefusal bytes)
made_refusal bytes m rest next (Ok x) stands none made = tt
made_refusal bytes m rest next (Err e) stands none made = refusal (IsFirstFaultOf whole_file bytes) (IsTextOf whole_file bytes) m e (next, subst (λ z. StandsFor whole_file 1 bytes m z next) none stands) made

-- where a part ends
pub ends_at : (bytes : List ℕ) (start number : ℕ) (m : Presentation) (rest : List ℕ) (next : ℕ) → start ≤ length bytes → StandsFor whole_file number (drop start bytes) m rest next → (length rest ≤ length bytes) × (drop (length bytes - length rest) bytes ≡ rest)
ends_at bytes start number m rest next within stands =
    let front = front_of whole_file number (drop start bytes) m rest next stands in
    let size = ap length front.1 in
    let long = length-append front.0 rest in
    let cut = length-drop start bytes in
    let whole : bytes ≡ (take start bytes ++ front.0) ++ rest = sym (take-append-drop start bytes) ∙ ap (λ w. take start bytes ++ w) front.1 ∙ sym (append_assoc (take start bytes) front.0 rest) in
    let total = ap length whole in
    let sum = length-append (take start bytes ++ front.0) rest in
    (omega arith, ap (drop (length bytes - length rest)) whole ∙ drop_at (take start bytes ++ front.0) rest (length bytes - length rest) (omega arith))

-- a fault of the lines is a refusal of the part
pub part_refusal : (number : ℕ) (bytes : List ℕ) (e : FileFault) → Names (IsFirstFault whole_file number bytes) e → IsPartRefusal number bytes e
part_refusal number bytes (Grammar line) h = h
part_refusal number bytes (Size line what) h = h
part_refusal number bytes NoBasis h = absurd h
part_refusal number bytes (Exchange b1 b2 x) h = absurd h
part_refusal number bytes Memory h = h

-- what was made is a part of the text
pub part_is : (bytes : List ℕ) (start number : ℕ) (m given : Presentation) (rest : List ℕ) (next : ℕ) → start ≤ length bytes → StandsFor whole_file number (drop start bytes) m rest next → (given ≡ m) × IsMatroid given
    → IsPart bytes start number (record { matroid = given; after = length bytes - length rest; next_line = next })
part_is bytes start number m given rest next within stands made =
    let end = ends_at bytes start number m rest next within stands in
    record {
      file = subst (λ (p : Presentation). StandsFor whole_file number (drop start bytes) p (drop (length bytes - length rest) bytes) next) (sym made.0)
          (subst (λ z. StandsFor whole_file number (drop start bytes) m z next) (sym end.1) stands);
      matroid = made.1;
      within = omega arith;
    }
