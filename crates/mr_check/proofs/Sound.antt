-- The matroid of an accepted log has no form.
use Rattle.std.proofs.Common.{◌≡◌, ℕ, zero, suc, ◌+◌, ◌<◌, List, [], ◌∷◌, Some, take, sym, subst, ◌∙◌, arith}
use Rattle.std.specs.Prelude.{slice_get}
use Rattle.std.proofs.lemmas.Option.{slice_get_past}
use Rattle.mr_linear.specs.Representation.{Represents}
use Rattle.mr_assign.specs.Assign.{no_values}
use Rattle.mr_frame.specs.Frame.{Framed, IsFrame}
use Rattle.mr_frame.specs.Completion.{IsCompletion}
use Rattle.mr_nogood.specs.declared.row.Cite.{Cite}
use Rattle.mr_nogood.specs.declared.row.Cite.TheVariants.{Nothing, Test, Slot}
use Rattle.mr_nogood.specs.declared.row.Row.{Row}
use Rattle.mr_nogood.specs.Follows.{in_list, Excludes}
use Rattle.mr_nogood.proofs.Excluding.{fails_more, completes_part, rows_that_follow_exclude}
use Rattle.mr_class.proofs.LawsOfForms.{each_has_one_form}
use Rattle.mr_check.specs.Accepted.{StepFollows, IsEnd}
use Rattle.mr_check.specs.Laws.{AcceptedLogsRefute}

-- what stands at a place of a front stands there in the list, and the place is within the front
from_front : {A : Type 0} (n s : ℕ) (xs : List A) (x : A) → slice_get (take n xs) s ≡ Some x → (s < n) × (slice_get xs s ≡ Some x)
from_front {A = A} zero s xs x is = let none = slice_get_past {X = A} (take 0 xs) s (omega arith) in cc
from_front {A = A} (suc n) s [] x is = let none = slice_get_past {X = A} [] s (omega arith) in cc
from_front (suc n) zero (y ∷ ys) x is = (omega arith, is)
from_front (suc n) (suc s) (y ∷ ys) x is = let h = from_front n s ys x is in let lt = h.0 in (omega (arith, lt), h.1)

-- the steps exclude all completions, the first n of them
steps_exclude : (f : Framed) (steps : List Row) → IsFrame f → ((j : ℕ) → StepFollows f steps j) → (n j : ℕ) (row : Row) → j < n → slice_get steps j ≡ Some row → Excludes f row
steps_exclude f steps frame follows zero j row lt is = absurd (omega arith)
steps_exclude f steps frame follows (suc n) j row lt is =
    rows_that_follow_exclude f (in_list (take j steps)) row frame (follows j row is)
    (λ s r given less. let there = from_front j s steps r given in let before = there.0 in steps_exclude f steps frame follows n s r (omega (arith, before)) there.1)

-- an end leaves no completion
pub end_excludes : (f : Framed) (steps : List Row) (last : Cite) (c : List ℕ) → IsFrame f → ((j : ℕ) → StepFollows f steps j) → IsEnd f steps last → IsCompletion f no_values c → ⊥
end_excludes f steps Nothing c frame follows end done = end
end_excludes f steps (Test x) c frame follows end done = done.holds x (fails_more f no_values c x frame done end)
end_excludes f steps (Slot s) c frame follows (row, is, empty) done =
    steps_exclude f steps frame follows (s + 1) s row (omega arith) is c (completes_part f no_values row.clause c done (λ p some. absurd (some (empty p))))

-- no matrix over the field represents the matroid of an accepted log: its form would be a completion
pub refutes : AcceptedLogsRefute
refutes field bytes l accepted a size represents =
    let r = accepted.refutation in
    let over : a.field ≡ r.frame.field = size ∙ sym r.is_frame.over in
    let done = each_has_one_form r.frame a r.is_frame.frame over (subst (Represents a) (sym r.is_frame.matroid) represents) in
    end_excludes r.frame l.steps l.last done.form r.is_frame.frame r.steps r.end done.is.is_form
