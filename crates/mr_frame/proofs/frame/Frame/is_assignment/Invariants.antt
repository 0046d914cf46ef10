-- the positions before this one have values of the field, or none
use Rattle.std.proofs.Common.{ℕ, ◌<◌, ◌≡◌, get_or, length}
use Rattle.mr_field.specs.Gf.{order}
use Rattle.mr_frame.proofs.frame.Frame.is_assignment.Given as goal

abbrev pub invariant-loop-p : goal.invariant-loop-p
invariant-loop-p l = (q : ℕ) → q < l.p → (get_or l.a q 0 ≡ 0 → ⊥) → (q < length l.self.places) × (get_or l.a q 0 < order l.self.field)
