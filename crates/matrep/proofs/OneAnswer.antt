-- One exit and one text are due of what a command reads.
use Rattle.std.proofs.Common.{◌≡◌, ◌⊎◌, ℕ, Bool, true, false, List, [], length, refl, sym, ap, ap₂, subst, ◌∙◌, inl, inr, arith}
use Rattle.std.specs.Prelude.{if◌then◌else◌, ◌==◌}
use Rattle.mr_field.specs.Gf.{Gf, gf2, gf3, gf4, gf5, gf7, gf8, gf9, order}
use Rattle.mr_set.specs.Subsets.{IsSetOf}
use Rattle.mr_set.specs.Matroid.{Presentation}
use Rattle.mr_file.specs.File.{file_text}
use Rattle.mr_linear.specs.Matrix.{Grid, height}
use Rattle.mr_linear.specs.Representation.{IsAnswer}
use Rattle.mr_linear.proofs.Unique.{one-answer, one-rank}
use Rattle.mr_matrix.specs.Confirmation.{IsConfirmation}
use Rattle.mr_matrix.specs.Represented.{IsMatroidOf, IsRankShort}
use Rattle.mr_matrix.specs.declared.answer.Confirm.{Confirm}
use Rattle.mr_matrix.specs.declared.answer.Confirm.TheVariants.{Confirmed, Differs}
use Rattle.mr_matrix.specs.declared.pair.Pair.{Pair}
use Rattle.mr_matrix.proofs.Single.{one-matroid, one-confirmation, one-plane}
use Rattle.mr_minor.specs.declared.masks.TheConstants.{BITS}
use Rattle.mr_minor.specs.Dual.{IsDual}
use Rattle.mr_minor.specs.Minor.{IsMinor}
use Rattle.mr_minor.proofs.Determined.{one-dual, one-minor}
use Rattle.mr_set.specs.Elements.{elements_below}
use Rattle.mr_check.proofs.Rejections.{accepted_is_not_rejected, rejected_once}
use Rattle.matrep.specs.Texts.{classes_text, orbits_text, refusal_text, confirmed_text, differs_text, rejected_text, plane_line}
use Rattle.matrep.specs.Solving.{ListsClasses, ListsOrbits, Refutes, Solves}
use Rattle.matrep.specs.Answering.{AcceptsLog, RejectsLog, Checks, Confirms, FindsMatroid, WritesDual, IsStranger, WritesMinor, IsPlaneMatroid, CountsPlane, CountsClasses}
use Rattle.matrep.specs.Laws.{IsStopped}
use Rattle.matrep.specs.declared.outcome.Exit.{Exit}
use Rattle.matrep.specs.declared.outcome.Exit.TheVariants.{Done, Negative, Refused, Usage, Stopped, Memory, ReadFault, WriteFault}
use Rattle.matrep.specs.declared.outcome.Fault.TheVariants.{TooLong, Grammar, Size, NoBasis, Exchange, Stranger, RankShort}
use Rattle.matrep.proofs.OneOrbits.{one_list_of_leasts, one_list_of_sizes, no_orbits}

-- the field of so many elements
abbrev field_of : ℕ → Gf
field_of q = if q == 2 then gf2 else if q == 3 then gf3 else if q == 4 then gf4 else if q == 5 then gf5 else if q == 7 then gf7 else if q == 8 then gf8 else gf9

-- each field is that of its order
field_of-order : (f : Gf) → field_of (order f) ≡ f
field_of-order gf2 = refl
field_of-order gf3 = refl
field_of-order gf4 = refl
field_of-order gf5 = refl
field_of-order gf7 = refl
field_of-order gf8 = refl
field_of-order gf9 = refl

-- so fields of one order are one
pub same_field : (f g : Gf) → order f ≡ order g → f ≡ g
same_field f g same = sym (field_of-order f) ∙ ap (λ (q : ℕ). field_of q) same ∙ field_of-order g

-- the text lists the classes, or the orbits where these are asked for
abbrev pub Lists : Bool → Gf → ℕ → Presentation → List ℕ → Type 0
Lists false = ListsClasses
Lists true = ListsOrbits

-- a solve that isn't stopped lists what it found, or refutes
abbrev pub Solved : Bool → Gf → ℕ → Presentation → Exit → List ℕ → Type 0
Solved orbits f nodes m exit text = ((exit ≡ Done) × Lists orbits f nodes m text) ⊎ ((exit ≡ Negative) × Refutes f nodes m text)

pub solved : (f : Gf) (nodes split : ℕ) (orbits : Bool) (m : Presentation) (exit : Exit) (text : List ℕ) → ¬ (IsStopped exit) → Solves f nodes split orbits m exit text → Solved orbits f nodes m exit text
solved f nodes split false m Done text goes lists = inl (refl, lists)
solved f nodes split true m Done text goes lists = inl (refl, lists)
solved f nodes split false m Negative text goes refutes = inr (refl, refutes)
solved f nodes split true m Negative text goes refutes = inr (refl, refutes)
solved f nodes split false m (Stopped opened) text goes out = absurd (goes (opened, refl))
solved f nodes split true m (Stopped opened) text goes out = absurd (goes (opened, refl))
solved f nodes split false m (Refused fault) text goes none = absurd none
solved f nodes split true m (Refused fault) text goes none = absurd none
solved f nodes split false m (Usage word) text goes none = absurd none
solved f nodes split true m (Usage word) text goes none = absurd none
solved f nodes split false m Memory text goes none = absurd none
solved f nodes split true m Memory text goes none = absurd none
solved f nodes split false m ReadFault text goes none = absurd none
solved f nodes split true m ReadFault text goes none = absurd none
solved f nodes split false m WriteFault text goes none = absurd none
solved f nodes split true m WriteFault text goes none = absurd none

-- a matroid has one list
one_listing : (orbits : Bool) (f : Gf) (nodes : ℕ) (m : Presentation) (text line : List ℕ) → Lists orbits f nodes m text → Lists orbits f nodes m line → text ≡ line
one_listing false f nodes m text line p q = p.text_is ∙ ap (classes_text f) (one-answer m f p.answer q.answer p.is_answer q.is_answer) ∙ sym q.text_is
one_listing true f nodes m text line p q =
    let leasts = one_list_of_leasts m f p.leasts q.leasts p.sizes q.sizes p.are_orbits q.are_orbits in
    let sizes = one_list_of_sizes m f p.leasts q.leasts p.sizes q.sizes p.are_orbits q.are_orbits in
    p.text_is ∙ ap₂ (orbits_text f) leasts sizes ∙ sym q.text_is

-- where something is listed the answer isn't empty
pub not_empty : (orbits : Bool) (f : Gf) (nodes : ℕ) (m : Presentation) (text : List ℕ) → Lists orbits f nodes m text → IsAnswer m f [] → ⊥
not_empty false f nodes m text lists empty = lists.some (one-answer m f lists.answer [] lists.is_answer empty)
not_empty true f nodes m text lists empty = lists.some (no_orbits m f lists.leasts lists.sizes lists.are_orbits empty)

-- a solve has one end, but for the text of a log
pub one_solved : (f : Gf) (nodes split : ℕ) (orbits : Bool) (m : Presentation) (exit end : Exit) (text line : List ℕ) → ¬ (IsStopped exit) → ¬ (IsStopped end) →
    Solves f nodes split orbits m exit text → Solves f nodes split orbits m end line → (exit ≡ end) × ((exit ≡ Negative) ⊎ (text ≡ line))
one_solved f nodes split orbits m exit end text line goes on p q = by (solved f nodes split orbits m exit text goes p) (solved f nodes split orbits m end line on q)
  where
    by : Solved orbits f nodes m exit text → Solved orbits f nodes m end line → (exit ≡ end) × ((exit ≡ Negative) ⊎ (text ≡ line))
    by (inl (done, lists)) (inl (also, other)) = (done ∙ sym also, inr (one_listing orbits f nodes m text line lists other))
    by (inl (done, lists)) (inr (also, refuted)) = absurd (not_empty orbits f nodes m text lists refuted.empty)
    by (inr (negative, refuted)) (inl (also, lists)) = absurd (not_empty orbits f nodes m line lists refuted.empty)
    by (inr (negative, refuted)) (inr (also, other)) = (negative ∙ sym also, inl negative)

-- a log is accepted or rejected
abbrev pub Checked : Gf → List ℕ → Exit → List ℕ → Type 0
Checked f bytes exit text = ((exit ≡ Done) × AcceptsLog f bytes text) ⊎ ((exit ≡ Negative) × RejectsLog f bytes text)

pub checked : (f : Gf) (bytes : List ℕ) (exit : Exit) (text : List ℕ) → Checks f bytes exit text → Checked f bytes exit text
checked f bytes Done text accepts = inl (refl, accepts)
checked f bytes Negative text rejects = inr (refl, rejects)
checked f bytes (Refused fault) text none = absurd none
checked f bytes (Usage word) text none = absurd none
checked f bytes (Stopped opened) text none = absurd none
checked f bytes Memory text none = absurd none
checked f bytes ReadFault text none = absurd none
checked f bytes WriteFault text none = absurd none

-- a check has one end
pub one_checked : (f : Gf) (bytes : List ℕ) (exit end : Exit) (text line : List ℕ) → Checks f bytes exit text → Checks f bytes end line → (exit ≡ end) × (text ≡ line)
one_checked f bytes exit end text line p q = by (checked f bytes exit text p) (checked f bytes end line q)
  where
    by : Checked f bytes exit text → Checked f bytes end line → (exit ≡ end) × (text ≡ line)
    by (inl (done, accepts)) (inl (also, other)) = (done ∙ sym also, accepts.text_is ∙ sym other.text_is)
    by (inl (done, accepts)) (inr (also, rejects)) = absurd (accepted_is_not_rejected f bytes accepts.log rejects.line rejects.why accepts.accepted rejects.rejected)
    by (inr (negative, rejects)) (inl (also, accepts)) = absurd (accepted_is_not_rejected f bytes accepts.log rejects.line rejects.why accepts.accepted rejects.rejected)
    by (inr (negative, rejects)) (inr (also, other)) =
        let once = rejected_once f bytes rejects.line other.line rejects.why other.why rejects.rejected other.rejected in
        (negative ∙ sym also, rejects.text_is ∙ ap₂ rejected_text once.0 once.1 ∙ sym other.text_is)

-- the exit of a confirmation
abbrev exit_of : Confirm → Exit
exit_of Confirmed = Done
exit_of (Differs x) = Negative

-- its text
abbrev text_of : Confirm → List ℕ
text_of Confirmed = confirmed_text
text_of (Differs x) = differs_text x

-- what is said of a matroid and a matrix is a confirmation
confirmed : (p : Pair) (exit : Exit) (text : List ℕ) → Confirms p exit text → (c : Confirm) × IsConfirmation p.matroid p.matrix c × (exit ≡ exit_of c) × (text ≡ text_of c)
confirmed p Done text (represents, is) = (Confirmed, represents, refl, is)
confirmed p Negative text (x, first, is) = (Differs x, first, refl, is)
confirmed p (Refused fault) text none = absurd none
confirmed p (Usage word) text none = absurd none
confirmed p (Stopped opened) text none = absurd none
confirmed p Memory text none = absurd none
confirmed p ReadFault text none = absurd none
confirmed p WriteFault text none = absurd none

-- a matroid and a matrix have one
pub one_confirmed : (p : Pair) (exit end : Exit) (text line : List ℕ) → Confirms p exit text → Confirms p end line → (exit ≡ end) × (text ≡ line)
one_confirmed p exit end text line here there =
    let c = confirmed p exit text here in
    let d = confirmed p end line there in
    let same = one-confirmation p.matroid p.matrix c.0 d.0 c.1 d.1 in
    (c.2 ∙ ap exit_of same ∙ sym d.2, c.3 ∙ ap text_of same ∙ sym d.3)

-- a matrix has a matroid, or too small a rank
abbrev pub Found : Grid → Exit → List ℕ → Type 0
Found a exit text = ((m : Presentation) × IsMatroidOf a m × (exit ≡ Done) × (text ≡ file_text m)) ⊎ ((k : ℕ) × IsRankShort a k × (exit ≡ Refused (RankShort k)) × (text ≡ refusal_text (RankShort k)))

pub found : (a : Grid) (exit : Exit) (text : List ℕ) → FindsMatroid a exit text → Found a exit text
found a Done text (m, is, text_is) = inl (m, is, refl, text_is)
found a (Refused (RankShort k)) text (short, text_is) = inr (k, short, refl, text_is)
found a (Refused TooLong) text none = absurd none
found a (Refused (Grammar line)) text none = absurd none
found a (Refused (Size line what)) text none = absurd none
found a (Refused NoBasis) text none = absurd none
found a (Refused (Exchange b1 b2 x)) text none = absurd none
found a (Refused (Stranger e)) text none = absurd none
found a Negative text none = absurd none
found a (Usage word) text none = absurd none
found a (Stopped opened) text none = absurd none
found a Memory text none = absurd none
found a ReadFault text none = absurd none
found a WriteFault text none = absurd none

-- the matroid of a matrix has a basis of as many elements as there are rows, so the rank isn't below their number
not_short : (a : Grid) (m : Presentation) (k : ℕ) → IsMatroidOf a m → IsRankShort a k → ⊥
not_short a m k is short =
    let basis = is.matroid.basis in
    let there : IsSetOf a.cols (height a) basis.0 = subst (λ (n : ℕ). IsSetOf n (height a) basis.0) is.elements (subst (λ (r : ℕ). IsSetOf m.elements r basis.0) is.rank basis.1.0) in
    let most = short.rank.greatest basis.0 there.set ((is.bases basis.0 there).0 basis.1) in
    let size = there.size in
    let less = short.short in
    omega arith

-- a matrix has one matroid or one rank
pub one_found : (a : Grid) (exit end : Exit) (text line : List ℕ) → FindsMatroid a exit text → FindsMatroid a end line → (exit ≡ end) × (text ≡ line)
one_found a exit end text line p q = by (found a exit text p) (found a end line q)
  where
    by : Found a exit text → Found a end line → (exit ≡ end) × (text ≡ line)
    by (inl (m, is, done, text_is)) (inl (k, other, also, line_is)) = (done ∙ sym also, text_is ∙ ap file_text (one-matroid a m k is other) ∙ sym line_is)
    by (inl (m, is, done, text_is)) (inr (k, short, also, line_is)) = absurd (not_short a m k is short)
    by (inr (k, short, refused, text_is)) (inl (m, is, also, line_is)) = absurd (not_short a m k is short)
    by (inr (k, short, refused, text_is)) (inr (j, other, also, line_is)) =
        let same = one-rank a k j short.rank other.rank in
        (refused ∙ ap (λ (r : ℕ). Refused (RankShort r)) same ∙ sym also, text_is ∙ ap (λ (r : ℕ). refusal_text (RankShort r)) same ∙ sym line_is)

-- a matroid's dual is written
pub written : (m : Presentation) (exit : Exit) (text : List ℕ) → WritesDual m exit text → (dual : Presentation) × IsDual m dual × (exit ≡ Done) × (text ≡ file_text dual)
written m Done text (dual, is, text_is) = (dual, is, refl, text_is)
written m Negative text none = absurd none
written m (Refused fault) text none = absurd none
written m (Usage word) text none = absurd none
written m (Stopped opened) text none = absurd none
written m Memory text none = absurd none
written m ReadFault text none = absurd none
written m WriteFault text none = absurd none

-- and it has one
pub one_dual : (m : Presentation) (exit end : Exit) (text line : List ℕ) → WritesDual m exit text → WritesDual m end line → (exit ≡ end) × (text ≡ line)
one_dual m exit end text line p q =
    let x = written m exit text p in
    let y = written m end line q in
    (x.2 ∙ sym y.2, x.3 ∙ ap file_text (one-dual m x.0 y.0 x.1 y.1) ∙ sym y.3)

-- elements are deleted and contracted, or one of the numbers is no element
abbrev pub Taken : ℕ → ℕ → Presentation → Exit → List ℕ → Type 0
Taken d c m exit text =
    ((minor : Presentation) × ((e : ℕ) → ¬ (IsStranger d c m e)) × IsMinor m (elements_below BITS d) (elements_below BITS c) minor × (exit ≡ Done) × (text ≡ file_text minor))
    ⊎ ((e : ℕ) × IsStranger d c m e × (exit ≡ Refused (Stranger e)) × (text ≡ refusal_text (Stranger e)))

pub taken : (d c : ℕ) (m : Presentation) (exit : Exit) (text : List ℕ) → WritesMinor d c m exit text → Taken d c m exit text
taken d c m Done text (minor, none, is, text_is) = inl (minor, none, is, refl, text_is)
taken d c m (Refused (Stranger e)) text (stranger, text_is) = inr (e, stranger, refl, text_is)
taken d c m (Refused TooLong) text none = absurd none
taken d c m (Refused (Grammar line)) text none = absurd none
taken d c m (Refused (Size line what)) text none = absurd none
taken d c m (Refused NoBasis) text none = absurd none
taken d c m (Refused (Exchange b1 b2 x)) text none = absurd none
taken d c m (Refused (RankShort k)) text none = absurd none
taken d c m Negative text none = absurd none
taken d c m (Usage word) text none = absurd none
taken d c m (Stopped opened) text none = absurd none
taken d c m Memory text none = absurd none
taken d c m ReadFault text none = absurd none
taken d c m WriteFault text none = absurd none

-- there is one minor or one first stranger
pub one_taken : (d c : ℕ) (m : Presentation) (exit end : Exit) (text line : List ℕ) → WritesMinor d c m exit text → WritesMinor d c m end line → (exit ≡ end) × (text ≡ line)
one_taken d c m exit end text line p q = by (taken d c m exit text p) (taken d c m end line q)
  where
    by : Taken d c m exit text → Taken d c m end line → (exit ≡ end) × (text ≡ line)
    by (inl (a, none, is, done, text_is)) (inl (b, also_none, other, also, line_is)) = (done ∙ sym also, text_is ∙ ap file_text (one-minor m (elements_below BITS d) (elements_below BITS c) a b is other) ∙ sym line_is)
    by (inl (a, none, is, done, text_is)) (inr (e, stranger, also, line_is)) = absurd (none e stranger)
    by (inr (e, stranger, refused, text_is)) (inl (a, none, is, also, line_is)) = absurd (none e stranger)
    by (inr (e, stranger, refused, text_is)) (inr (k, other, also, line_is)) =
        let le = stranger.least k other.listed other.stranger in
        let ge = other.least e stranger.listed stranger.stranger in
        let same : e ≡ k = omega arith in
        (refused ∙ ap (λ (x : ℕ). Refused (Stranger x)) same ∙ sym also, text_is ∙ ap (λ (x : ℕ). refusal_text (Stranger x)) same ∙ sym line_is)

-- the classes of a plane are counted, unless the search was stopped
pub counted : (f : Gf) (exit : Exit) (text : List ℕ) → ¬ (IsStopped exit) → CountsClasses f exit text → (exit ≡ Done) × CountsPlane f text
counted f Done text goes counts = (refl, counts)
counted f (Stopped opened) text goes out = absurd (goes (opened, refl))
counted f Negative text goes none = absurd none
counted f (Refused fault) text goes none = absurd none
counted f (Usage word) text goes none = absurd none
counted f Memory text goes none = absurd none
counted f ReadFault text goes none = absurd none
counted f WriteFault text goes none = absurd none

-- a field has one plane
one_plane_matroid : (f : Gf) (m k : Presentation) → IsPlaneMatroid f m → IsPlaneMatroid f k → m ≡ k
one_plane_matroid f m k p q =
    let same = one-plane f q.matrix p.matrix q.plane p.plane in
    one-matroid p.matrix m k p.of_matrix (subst (λ (a : Grid). IsMatroidOf a k) same q.of_matrix)

-- with one number of classes
pub one_counted : (f : Gf) (exit end : Exit) (text line : List ℕ) → ¬ (IsStopped exit) → ¬ (IsStopped end) → CountsClasses f exit text → CountsClasses f end line → (exit ≡ end) × (text ≡ line)
one_counted f exit end text line goes on p q =
    let x = counted f exit text goes p in
    let y = counted f end line on q in
    let here = x.1 in
    let there = y.1 in
    let plane : there.plane ≡ here.plane = one_plane_matroid f there.plane here.plane there.is_plane here.is_plane in
    let answer : there.answer ≡ here.answer = one-answer here.plane f there.answer here.answer (subst (λ (m : Presentation). IsAnswer m f there.answer) plane there.is_answer) here.is_answer in
    (x.0 ∙ sym y.0, here.text_is ∙ sym (ap₂ (λ (m : Presentation) (answer : List Grid). plane_line f m.elements (length m.nonbases) (length answer)) plane answer) ∙ sym there.text_is)
