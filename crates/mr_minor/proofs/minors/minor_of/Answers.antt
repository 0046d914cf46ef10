-- The sets that are completed to bases by the best basis are the bases of the minor.
use Rattle.std.proofs.Common.{◌-◌, List, ℕ, length, ap, sym, subst, arith}
use Rattle.mr_set.specs.Elements.{IsSet}
use Rattle.mr_set.specs.Matroid.{Presentation, IsMatroid}
use Rattle.mr_matroid.specs.Exchange.{IsWithinLimits}
use Rattle.mr_minor.specs.Private.Best.{IsCompleted}
use Rattle.mr_minor.specs.Private.Collected.{AreNonbases}
use Rattle.mr_minor.proofs.MinorBases.{kept_set, fixed_set, fixed_small, kept_small, minor_flat, minor_within, minor_matroid, minor_is, as_minor, minor_made}
use Rattle.mr_minor.proofs.minors.minor_of.Goals as goal

pub nonbases_of_minor-requires-clause-kept : goal.nonbases_of_minor-requires-clause-kept
nonbases_of_minor-requires-clause-kept c = kept_set c.args.m.now c.args.deleted c.args.contracted c.others-kept.result c.best_basis-best.result (record { matroid = c.elements-elements.ensures.matroid; contracted = c.requires; kept_are = c.others-kept.ensures; best = c.best_basis-best.ensures })

pub nonbases_of_minor-requires-clause-fixed : goal.nonbases_of_minor-requires-clause-fixed
nonbases_of_minor-requires-clause-fixed c = subst (IsSet c.args.m.now.elements) (sym c.minus-fixed.ensures) (fixed_set c.args.m.now c.args.deleted c.args.contracted c.others-kept.result c.best_basis-best.result (record { matroid = c.elements-elements.ensures.matroid; contracted = c.requires; kept_are = c.others-kept.ensures; best = c.best_basis-best.ensures }))

pub nonbases_of_minor-requires-clause-size : goal.nonbases_of_minor-requires-clause-size
nonbases_of_minor-requires-clause-size c =
    let small = fixed_small c.args.m.now c.args.deleted c.args.contracted c.others-kept.result c.best_basis-best.result (record { matroid = c.elements-elements.ensures.matroid; contracted = c.requires; kept_are = c.others-kept.ensures; best = c.best_basis-best.ensures }) in
    let is = ap length c.minus-fixed.ensures in
    omega (arith, small, is)

pub nonbases_of_minor-requires-clause-flat : goal.nonbases_of_minor-requires-clause-flat
nonbases_of_minor-requires-clause-flat c =
    let flat = minor_flat c.args.m.now c.args.deleted c.args.contracted c.others-kept.result c.best_basis-best.result (record { matroid = c.elements-elements.ensures.matroid; contracted = c.requires; kept_are = c.others-kept.ensures; best = c.best_basis-best.ensures }) in
    let is = ap length c.minus-fixed.ensures in
    omega (arith, flat, is)

pub nonbases_of_minor-requires-clause-limit : goal.nonbases_of_minor-requires-clause-limit
nonbases_of_minor-requires-clause-limit c =
    let small = kept_small c.args.m.now c.args.deleted c.args.contracted c.others-kept.result c.best_basis-best.result (record { matroid = c.elements-elements.ensures.matroid; contracted = c.requires; kept_are = c.others-kept.ensures; best = c.best_basis-best.ensures }) in
    let limit = c.elements-elements.ensures.limits.elements in
    omega (arith, small, limit)

pub overflow_sub-rank : goal.overflow_sub-rank
overflow_sub-rank c =
    let small = fixed_small c.args.m.now c.args.deleted c.args.contracted c.others-kept.result c.best_basis-best.result (record { matroid = c.elements-elements.ensures.matroid; contracted = c.requires; kept_are = c.others-kept.ensures; best = c.best_basis-best.ensures }) in
    let is = ap length c.minus-fixed.ensures in
    let rank = c.rank.ensures in
    let fixed = c.len-2.ensures in
    omega (arith, small, is, rank, fixed)

pub matroid_with-requires-clause-matroid : goal.matroid_with-requires-clause-matroid
matroid_with-requires-clause-matroid c =
    let are = subst (λ (f : List ℕ). AreNonbases (length c.others-kept.result) (c.args.m.now.rank - length f) (IsCompleted c.args.m.now c.others-kept.result f) c.as_slice.result.now) c.minus-fixed.ensures
    (subst (AreNonbases (length c.others-kept.result) (c.args.m.now.rank - length c.minus-fixed.result) (IsCompleted c.args.m.now c.others-kept.result c.minus-fixed.result)) (sym c.as_slice.ensures.value) c.in_ok-nonbases.ensures) in
    let same = as_minor c.args.m.now c.others-kept.result c.best_basis-best.result c.len.result (c.rank.result - c.len-2.result) c.as_slice.result.now c.len.ensures
    (let is = ap length c.minus-fixed.ensures in let rank = c.rank.ensures in let fixed = c.len-2.ensures in omega (arith, is, rank, fixed)) in
    subst (λ (p : Presentation). IsMatroid p) (sym same) (minor_matroid c.args.m.now c.args.deleted c.args.contracted c.others-kept.result c.best_basis-best.result (record { matroid = c.elements-elements.ensures.matroid; contracted = c.requires; kept_are = c.others-kept.ensures; best = c.best_basis-best.ensures }) c.as_slice.result.now are)

pub matroid_with-requires-clause-limits : goal.matroid_with-requires-clause-limits
matroid_with-requires-clause-limits c =
    let same = as_minor c.args.m.now c.others-kept.result c.best_basis-best.result c.len.result (c.rank.result - c.len-2.result) c.as_slice.result.now c.len.ensures
    (let is = ap length c.minus-fixed.ensures in let rank = c.rank.ensures in let fixed = c.len-2.ensures in omega (arith, is, rank, fixed)) in
    subst (λ (p : Presentation). IsWithinLimits p) (sym same) (minor_within c.args.m.now c.args.deleted c.args.contracted c.others-kept.result c.best_basis-best.result (record { matroid = c.elements-elements.ensures.matroid; contracted = c.requires; kept_are = c.others-kept.ensures; best = c.best_basis-best.ensures }) c.as_slice.result.now c.elements-elements.ensures.limits)

pub returns : goal.returns
returns c =
    let are = subst (λ (f : List ℕ). AreNonbases (length c.others-kept.result) (c.args.m.now.rank - length f) (IsCompleted c.args.m.now c.others-kept.result f) c.as_slice.result.now) c.minus-fixed.ensures
    (subst (AreNonbases (length c.others-kept.result) (c.args.m.now.rank - length c.minus-fixed.result) (IsCompleted c.args.m.now c.others-kept.result c.minus-fixed.result)) (sym c.as_slice.ensures.value) c.in_ok-nonbases.ensures) in
    minor_made c.matroid_with.result c.args.m.now c.args.deleted c.args.contracted c.others-kept.result c.best_basis-best.result c.len.result (c.rank.result - c.len-2.result) c.as_slice.result.now c.len.ensures
    (let is = ap length c.minus-fixed.ensures in let rank = c.rank.ensures in let fixed = c.len-2.ensures in omega (arith, is, rank, fixed))
    (minor_is c.args.m.now c.args.deleted c.args.contracted c.others-kept.result c.best_basis-best.result (record { matroid = c.elements-elements.ensures.matroid; contracted = c.requires; kept_are = c.others-kept.ensures; best = c.best_basis-best.ensures }) c.as_slice.result.now are) c.matroid_with.ensures
