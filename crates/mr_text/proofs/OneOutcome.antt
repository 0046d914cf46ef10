-- A text stands for one value or has one first fault.
use Rattle.std.proofs.Common.{◌≡◌, ℕ, ◌+◌, List, [], sym, ap, subst, ◌∙◌, inl, inr}
use Rattle.mr_text.specs.Format.{FirstFault, grammar, size, Table, Format, done, line_of, IsLineOf, IsLineFault, IsFirstFault, StandsFor, IsTextOf, IsFirstFaultOf}
use Rattle.mr_text.specs.Private.Sharp.{IsSharpTable, IsSharp}
use Rattle.mr_text.proofs.Formats.{same_line, not_cut_short}

-- a first line stands for one value
one_line : {M A : Type 0} (table : Table M A) → IsSharpTable table → (bytes : List ℕ) (a b : A) (r s : List ℕ) → IsLineOf table bytes a r → IsLineOf table bytes b s → (a ≡ b) × (r ≡ s)
one_line table sharp bytes a b r s p q =
    let same = same_line bytes p.line q.line r s p.begins q.begins in
    (sharp.one_value q.line a b (subst (λ w. table.spells w a) same.0 p.spelled) q.spelled, same.1)

-- a first line with a value has no fault
no_line_fault : {M A : Type 0} (table : Table M A) → IsSharpTable table → (number : ℕ) (bytes : List ℕ) (a : A) (r : List ℕ) (fault : FirstFault M) → IsLineOf table bytes a r → IsLineFault table number bytes fault → ⊥
no_line_fault table sharp number bytes a r (grammar l) line (is, inl short) = not_cut_short bytes line.line r line.begins short
no_line_fault table sharp number bytes a r (grammar l) line (is, inr s) =
    let same = same_line bytes line.line s.line r s.rest line.begins s.begins in
    s.stray a (subst (λ w. table.spells w a) same.0 line.spelled)
no_line_fault table sharp number bytes a r (size l m) line (is, large) =
    let same = same_line bytes line.line large.line r large.rest line.begins large.begins in
    let value = sharp.one_value large.line a large.value (subst (λ w. table.spells w a) same.0 line.spelled) large.spelled in
    line.fits m (subst (λ v. table.exceeds v m) (sym value) large.exceeds)

-- a first line has one fault
one_line_fault : {M A : Type 0} (table : Table M A) → IsSharpTable table → (number : ℕ) (bytes : List ℕ) (e f : FirstFault M) → IsLineFault table number bytes e → IsLineFault table number bytes f → e ≡ f
one_line_fault table sharp number bytes (grammar k) (grammar l) p q = ap grammar (p.0 ∙ sym q.0)
one_line_fault table sharp number bytes (grammar k) (size l m) (is, inl short) q = absurd (not_cut_short bytes q.1.line q.1.rest q.1.begins short)
one_line_fault table sharp number bytes (grammar k) (size l m) (is, inr s) q =
    let same = same_line bytes s.line q.1.line s.rest q.1.rest s.begins q.1.begins in
    absurd (s.stray q.1.value (subst (λ w. table.spells w q.1.value) (sym same.0) q.1.spelled))
one_line_fault table sharp number bytes (size k m) (grammar l) p (is, inl short) = absurd (not_cut_short bytes p.1.line p.1.rest p.1.begins short)
one_line_fault table sharp number bytes (size k m) (grammar l) p (is, inr s) =
    let same = same_line bytes s.line p.1.line s.rest p.1.rest s.begins p.1.begins in
    absurd (s.stray p.1.value (subst (λ w. table.spells w p.1.value) (sym same.0) p.1.spelled))
one_line_fault table sharp number bytes (size k m) (size l n) p q =
    let same = same_line bytes p.1.line q.1.line p.1.rest q.1.rest p.1.begins q.1.begins in
    let value = sharp.one_value q.1.line p.1.value q.1.value (subst (λ w. table.spells w p.1.value) same.0 p.1.spelled) q.1.spelled in
    let measure = sharp.one_measure q.1.value m n (subst (λ v. table.exceeds v m) value p.1.exceeds) q.1.exceeds in
    ap (λ j. size j m) (p.0 ∙ sym q.0) ∙ ap (size l) measure

-- the lines stand for one value
pub one_value : {M X : Type 0} (format : Format M X) → IsSharp format → (number : ℕ) (bytes : List ℕ) (x y : X) (r s : List ℕ) (k l : ℕ) → StandsFor format number bytes x r k → StandsFor format number bytes y s l → (x ≡ y) × (r ≡ s) × (k ≡ l)
one_value (done z) sharp number bytes x y r s k l p q = (p.0 ∙ sym q.0, p.1 ∙ sym q.1, p.2 ∙ sym q.2)
one_value (line_of {A} table due) sharp number bytes x y r s k l (a, after, line, more) (b, after2, line2, more2) =
    let same = one_line table sharp.0 bytes a b after after2 line line2 in
    one_value (due b) (sharp.1 line2.line b line2.spelled line2.fits) (number + 1) after2 x y r s k l
    (subst (λ (w : List ℕ). StandsFor (due b) (number + 1) w x r k) same.1 (subst (λ (c : A). StandsFor (due c) (number + 1) after x r k) same.0 more)) more2

-- and then they have no fault
pub no_fault : {M X : Type 0} (format : Format M X) → IsSharp format → (number : ℕ) (bytes : List ℕ) (x : X) (r : List ℕ) (k : ℕ) (fault : FirstFault M) → StandsFor format number bytes x r k → IsFirstFault format number bytes fault → ⊥
no_fault (done z) sharp number bytes x r k fault p q = q
no_fault (line_of {A} table due) sharp number bytes x r k fault (a, after, line, more) (inl here) = no_line_fault table sharp.0 number bytes a after fault line here
no_fault (line_of {A} table due) sharp number bytes x r k fault (a, after, line, more) (inr (b, after2, line2, later)) =
    let same = one_line table sharp.0 bytes a b after after2 line line2 in
    no_fault (due b) (sharp.1 line2.line b line2.spelled line2.fits) (number + 1) after2 x r k fault
    (subst (λ (w : List ℕ). StandsFor (due b) (number + 1) w x r k) same.1 (subst (λ (c : A). StandsFor (due c) (number + 1) after x r k) same.0 more)) later

-- there is one first fault
pub one_fault : {M X : Type 0} (format : Format M X) → IsSharp format → (number : ℕ) (bytes : List ℕ) (e f : FirstFault M) → IsFirstFault format number bytes e → IsFirstFault format number bytes f → e ≡ f
one_fault (done z) sharp number bytes e f p q = absurd p
one_fault (line_of {A} table due) sharp number bytes e f (inl p) (inl q) = one_line_fault table sharp.0 number bytes e f p q
one_fault (line_of {A} table due) sharp number bytes e f (inl p) (inr (a, after, line, later)) = absurd (no_line_fault table sharp.0 number bytes a after e line p)
one_fault (line_of {A} table due) sharp number bytes e f (inr (a, after, line, later)) (inl q) = absurd (no_line_fault table sharp.0 number bytes a after f line q)
one_fault (line_of {A} table due) sharp number bytes e f (inr (a, after, line, later)) (inr (b, after2, line2, later2)) =
    let same = one_line table sharp.0 bytes a b after after2 line line2 in
    one_fault (due b) (sharp.1 line2.line b line2.spelled line2.fits) (number + 1) after2 e f
    (subst (λ (w : List ℕ). IsFirstFault (due b) (number + 1) w e) same.1 (subst (λ (c : A). IsFirstFault (due c) (number + 1) after e) same.0 later)) later2

-- a whole text has no fault where it stands for a value
pub no_fault_of : {M X : Type 0} (format : Format M X) → IsSharp format → (bytes : List ℕ) (x : X) (fault : FirstFault M) → IsTextOf format bytes x → IsFirstFaultOf format bytes fault → ⊥
no_fault_of format sharp bytes x fault (next, stands) (inl first) = no_fault format sharp 1 bytes x [] next fault stands first
no_fault_of format sharp bytes x fault (next, stands) (inr (y, rest, k, other, some, is)) = some (sym (one_value format sharp 1 bytes x y [] rest next k stands other).1)

-- a whole text has one first fault
pub one_fault_of : {M X : Type 0} (format : Format M X) → IsSharp format → (bytes : List ℕ) (e f : FirstFault M) → IsFirstFaultOf format bytes e → IsFirstFaultOf format bytes f → e ≡ f
one_fault_of format sharp bytes e f (inl p) (inl q) = one_fault format sharp 1 bytes e f p q
one_fault_of format sharp bytes e f (inl p) (inr (y, rest, k, stands, some, is)) = absurd (no_fault format sharp 1 bytes y rest k e stands p)
one_fault_of format sharp bytes e f (inr (y, rest, k, stands, some, is)) (inl q) = absurd (no_fault format sharp 1 bytes y rest k f stands q)
one_fault_of format sharp bytes e f (inr (x, r, j, p, some, is)) (inr (y, rest, k, q, more, at)) =
    is ∙ ap grammar (one_value format sharp 1 bytes x y r rest j k p q).2 ∙ sym at
