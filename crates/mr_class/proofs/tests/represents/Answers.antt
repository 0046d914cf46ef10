-- the sets are gone through in order
use Rattle.std.proofs.Common.{List, ℕ, ◌↔◌, ◌∙◌, sym, subst}
use Rattle.mr_set.specs.Subsets.{IsNext, IsLast}
use Rattle.mr_set.specs.Matroid.{IsIndependent}
use Rattle.mr_linear.specs.Matrix.{AreIndependent}
use Rattle.mr_linear.proofs.LawsOfMatrices.{bases-decide}
use Rattle.mr_matroid.proofs.Walk.{seen_next, seen_last, next_set, next_falls}
use Rattle.mr_class.proofs.tests.represents.Goals as goal

pub sets-smaller : goal.sets-smaller
sets-smaller c =
    next_falls c.args.m.now.elements c.args.m.now.rank c.sets.x c.in-Some.next c.elements-n.ensures.limits.elements c.sets.invariant.0 (subst (λ (n : ℕ). IsNext n c.sets.x c.in-Some.next) c.elements-n.ensures.value c.in-Some.ensures)

pub sets-preserved : goal.sets-preserved
sets-preserved c =
    let next : IsNext c.args.m.now.elements c.sets.x c.in-Some.next = subst (λ (n : ℕ). IsNext n c.sets.x c.in-Some.next) c.elements-n.ensures.value c.in-Some.ensures in (
      next_set c.args.m.now.elements c.args.m.now.rank c.sets.x c.in-Some.next c.sets.invariant.0 next,
      seen_next c.args.m.now.elements c.args.m.now.rank c.sets.x c.in-Some.next (λ (z : List ℕ). AreIndependent c.args.a.now z ↔ IsIndependent c.args.m.now z) c.sets.invariant.0 next c.sets.invariant.1 (c.agrees.ensures c.if-not-agrees.false),
    )

pub returns-in-None : goal.returns-in-None
returns-in-None c = λ _.
    let last : IsLast c.args.m.now.elements c.sets.x = subst (λ (n : ℕ). IsLast n c.sets.x) c.elements-n.ensures.value c.in-None.ensures in
    bases-decide c.args.m.now c.args.a.now c.elements-n.ensures.matroid (record {
      fits = record {
        grid = c.rows.ensures.grid;
        rows = sym c.rows.ensures.value ∙ c.if-rows-r.false ∙ c.rank-r.ensures;
        cols = sym c.cols.ensures.value ∙ c.if-cols-n.false ∙ c.elements-n.ensures.value;
      };
      agrees = λ x set. seen_last c.args.m.now.elements c.args.m.now.rank c.sets.x (λ (z : List ℕ). AreIndependent c.args.a.now z ↔ IsIndependent c.args.m.now z) c.sets.invariant.0 last c.sets.invariant.1 (c.agrees.ensures c.if-not-agrees.false) x set;
    })
