-- the sets are gone through in order
use Rattle.std.proofs.Common.{subst, sym}
use Rattle.mr_matroid.proofs.Walk.{next_set, next_falls}
use Rattle.mr_set.specs.Subsets.{IsSetOf}
use Rattle.mr_frame.specs.Private.Building.{AreSets, IsListedBefore, IsListedThrough}
use Rattle.mr_frame.proofs.SetsInOrder.{before_first, before_next, through_more, through_last}
use Rattle.mr_frame.proofs.set_list.all_sets.Goals as goal

pub sets-init : goal.sets-init
sets-init c = (
  c.first_subset-x.ensures.first.subset,
  subst (IsListedBefore c.args.n c.args.r (IsSetOf c.args.n c.args.r) c.first_subset-x.result) (sym c.new-list.ensures)
      (before_first c.args.n c.args.r (IsSetOf c.args.n c.args.r) c.first_subset-x.result c.first_subset-x.ensures.first),
)

pub sets-smaller : goal.sets-smaller
sets-smaller c = next_falls c.args.n c.args.r c.sets.x c.in-Some.next c.requires.elements c.sets.invariant.0 c.in-Some.ensures

pub sets-preserved : goal.sets-preserved
sets-preserved c =
    let through : IsListedThrough c.args.n c.args.r (IsSetOf c.args.n c.args.r) c.sets.x c.take_if.new.self =
    subst (IsListedThrough c.args.n c.args.r (IsSetOf c.args.n c.args.r) c.sets.x) (sym c.in_ok-take_if.ensures)
    (through_more c.args.n c.args.r (IsSetOf c.args.n c.args.r) c.sets.x c.sets.list c.sets.invariant.1 c.sets.invariant.0 c.sets.invariant.0) in (
      next_set c.args.n c.args.r c.sets.x c.in-Some.next c.sets.invariant.0 c.in-Some.ensures,
      before_next c.args.n c.args.r (IsSetOf c.args.n c.args.r) c.sets.x c.in-Some.next c.take_if.new.self c.sets.invariant.0 c.in-Some.ensures through,
    )

pub returns-in-None : goal.returns-in-None
returns-in-None c =
    let through : IsListedThrough c.args.n c.args.r (IsSetOf c.args.n c.args.r) c.sets.x c.take_if.new.self =
    subst (IsListedThrough c.args.n c.args.r (IsSetOf c.args.n c.args.r) c.sets.x) (sym c.in_ok-take_if.ensures)
    (through_more c.args.n c.args.r (IsSetOf c.args.n c.args.r) c.sets.x c.sets.list c.sets.invariant.1 c.sets.invariant.0 c.sets.invariant.0) in
    let all : AreSets c.args.n c.args.r (IsSetOf c.args.n c.args.r) c.take_if.new.self = through_last c.args.n c.args.r (IsSetOf c.args.n c.args.r) c.sets.x c.take_if.new.self c.sets.invariant.0 c.in-None.ensures through in
    record { increasing = all.increasing; exactly = λ x. ((λ h. ((all.exactly x).0 h).0), (λ h. (all.exactly x).1 (h, h))) }
