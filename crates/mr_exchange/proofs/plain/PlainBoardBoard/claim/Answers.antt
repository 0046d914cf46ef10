-- A claim gives the number of the cubes, or an end.
use Rattle.std.proofs.Common.{true≢false, refl, ap, ◌∙◌, arith}
use Rattle.mr_exchange.specs.Plain.{PlainIs}
use Rattle.mr_exchange.proofs.OneBoard.{plain_facts, after_cube, gains_cube, claims_none}
use Rattle.mr_exchange.proofs.plain.PlainBoardBoard.claim.Goals as goal

pub overflow_cast-cube : goal.overflow_cast-cube
overflow_cast-cube c = let few = (plain_facts _ c.self.invariant.0).few_cubes in omega arith

pub invariant_of-self : goal.invariant_of-self
invariant_of-self c = let none = ap (λ (p : PlainIs). p.claim_ends) c.self.view_is ∙ c.requires in (
  after_cube _ c.self.invariant.0 none c.len-cube.result _ (omega arith) c.if-cube-self.true c.push_reserved.ensures.items,
  omega arith,
  omega arith,
)

pub invariant_of-self-else-cube-self : goal.invariant_of-self-else-cube-self
invariant_of-self-else-cube-self c = let none = ap (λ (p : PlainIs). p.claim_ends) c.self.view_is ∙ c.requires in (
  claims_none _ c.self.invariant.0 none (omega arith),
  c.self.invariant.1,
  c.self.invariant.2,
)

pub returns-then-cube-self-clause-moves : goal.returns-then-cube-self-clause-moves
returns-then-cube-self-clause-moves c = rw (← c.self.view_is) (gains_cube _ c.self.invariant.0 c.len-cube.result _ (omega arith) c.if-cube-self.true c.push_reserved.ensures.items)

pub returns-then-cube-self-clause-none : goal.returns-then-cube-self-clause-none
returns-then-cube-self-clause-none c = rw (← c.self.view_is) ((λ none. absurd (true≢false none)), (λ all. absurd (omega (arith, all))))

pub returns-else-cube-self-clause-none : goal.returns-else-cube-self-clause-none
returns-else-cube-self-clause-none c = let few = (plain_facts _ c.self.invariant.0).few_cubes in rw (← c.self.view_is) ((λ _. omega arith), (λ _. refl))
