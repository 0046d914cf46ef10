-- The sets whose complements are no bases are those of a matroid.
use Rattle.std.proofs.Common.{◌-◌, arith, subst, sym}
use Rattle.mr_set.specs.Matroid.{Presentation, IsMatroid}
use Rattle.mr_matroid.specs.Exchange.{IsWithinLimits}
use Rattle.mr_minor.specs.Dual.{HasCobasis}
use Rattle.mr_minor.specs.Private.Collected.{AreNonbases}
use Rattle.mr_minor.proofs.DualBases.{dual_is, dual_within, dual_made, as_dual}
use Rattle.mr_minor.proofs.duals.dual.Goals as goal

pub matroid_with-requires-clause-matroid : goal.matroid_with-requires-clause-matroid
matroid_with-requires-clause-matroid c =
    let same = as_dual c.args.m.now c.elements-n.result (c.elements-n.result - c.rank.result) c.as_slice.result.now c.elements-n.ensures.value (let n = c.elements-n.ensures.value in let r = c.rank.ensures in omega arith) in
    let are = subst (AreNonbases c.args.m.now.elements (c.args.m.now.elements - c.args.m.now.rank) (HasCobasis c.args.m.now)) (sym c.as_slice.ensures.value) c.in_ok-nonbases.ensures in
    subst (λ (p : Presentation). IsMatroid p) (sym same) (dual_is c.args.m.now c.as_slice.result.now c.elements-n.ensures.matroid are).matroid

pub matroid_with-requires-clause-limits : goal.matroid_with-requires-clause-limits
matroid_with-requires-clause-limits c =
    let same = as_dual c.args.m.now c.elements-n.result (c.elements-n.result - c.rank.result) c.as_slice.result.now c.elements-n.ensures.value (let n = c.elements-n.ensures.value in let r = c.rank.ensures in omega arith) in
    subst (λ (p : Presentation). IsWithinLimits p) (sym same) (dual_within c.args.m.now c.as_slice.result.now c.elements-n.ensures.matroid c.elements-n.ensures.limits)

pub returns : goal.returns
returns c =
    let are = subst (AreNonbases c.args.m.now.elements (c.args.m.now.elements - c.args.m.now.rank) (HasCobasis c.args.m.now)) (sym c.as_slice.ensures.value) c.in_ok-nonbases.ensures in
    dual_made c.matroid_with.result c.args.m.now c.elements-n.result (c.elements-n.result - c.rank.result) c.as_slice.result.now c.elements-n.ensures.value (let n = c.elements-n.ensures.value in let r = c.rank.ensures in omega arith)
    (dual_is c.args.m.now c.as_slice.result.now c.elements-n.ensures.matroid are) c.matroid_with.ensures
