-- past the last position there is no value
use Rattle.std.proofs.Common.{◌≤◌, refl, ⊎_elim, arith}
use Rattle.std.specs.Prelude.{◌<◌}
use Rattle.std.proofs.lemmas.Bool.{cases_lt}
use Rattle.std.proofs.lemmas.List.{get_or_past}
use Rattle.mr_assign.specs.declared.TheConstants.{POSITIONS}
use Rattle.mr_frame.proofs.frame.Frame.is_assignment.Goals as goal

pub returns : goal.returns
returns c = (
  λ _ p some. ⊎_elim
      (λ (lt : p < POSITIONS). c.loop-p.invariant p (omega arith) some)
      (λ (le : POSITIONS ≤ p). absurd (some (get_or_past c.args.a.now p 0 (let size = c.words-words.ensures.assign.positions in omega arith))))
      (cases_lt p POSITIONS),
  λ _. refl,
)
