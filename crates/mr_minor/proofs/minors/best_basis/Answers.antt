-- One basis more, and the last.
use Rattle.std.proofs.Common.{◌≤◌, subst, arith}
use Rattle.mr_set.specs.Subsets.{IsNext, IsLast}
use Rattle.mr_set.specs.Matroid.{IsBasis}
use Rattle.mr_matroid.proofs.Walk.{seen_next, seen_last, next_set}
use Rattle.mr_minor.specs.Private.Best.{score}
use Rattle.mr_minor.proofs.Collecting.{walk_falls}
use Rattle.mr_minor.proofs.minors.best_basis.Goals as goal

pub bases-smaller : goal.bases-smaller
bases-smaller c = walk_falls c.args.m.now.elements c.args.m.now.rank c.elements-n.result c.bases.b c.in-Some.next c.elements-n.ensures.value c.elements-n.ensures.limits.elements c.bases.invariant.0 c.in-Some.ensures

pub bases-preserved : goal.bases-preserved
bases-preserved c =
    let next = subst (λ n. IsNext n c.bases.b c.in-Some.next) c.elements-n.ensures.value c.in-Some.ensures in (
      next_set c.args.m.now.elements c.args.m.now.rank c.bases.b c.in-Some.next c.bases.invariant.0 next,
      c.better-best.ensures.basis,
      seen_next c.args.m.now.elements c.args.m.now.rank c.bases.b c.in-Some.next (λ y. IsBasis c.args.m.now y → score c.args.kept c.args.contracted y ≤ score c.args.kept c.args.contracted c.better-best.result) c.bases.invariant.0 next
          (λ z size less basis. let le = c.bases.invariant.2 z size less basis in let keeps = c.better-best.ensures.keeps in omega (arith, le, keeps)) c.better-best.ensures.covers,
    )

pub returns-in-None : goal.returns-in-None
returns-in-None c = record {
  basis = c.better-best.ensures.basis;
  most = λ y basis.
      seen_last c.args.m.now.elements c.args.m.now.rank c.bases.b (λ z. IsBasis c.args.m.now z → score c.args.kept c.args.contracted z ≤ score c.args.kept c.args.contracted c.better-best.result) c.bases.invariant.0
      (subst (λ n. IsLast n c.bases.b) c.elements-n.ensures.value c.in-None.ensures)
      (λ z size less there. let le = c.bases.invariant.2 z size less there in let keeps = c.better-best.ensures.keeps in omega (arith, le, keeps)) c.better-best.ensures.covers y basis.0 basis;
}
