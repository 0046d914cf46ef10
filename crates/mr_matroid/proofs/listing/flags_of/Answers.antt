-- No set, one set more, and the last.
use Rattle.std.proofs.Common.{◌≡◌, false, [], replicate, sym, subst, arith, List, ℕ}
use Rattle.std.proofs.lemmas.List.{take_all}
use Rattle.mr_set.specs.Subsets.{IsSetOf}
use Rattle.mr_matroid.specs.Private.Table.{AreFlags}
use Rattle.mr_matroid.proofs.Flags.{flags_none, flags_more, place_small}
use Rattle.mr_matroid.proofs.listing.flags_of.Goals as goal

pub loop-s-init : goal.loop-s-init
loop-s-init c =
    let unset : c.in_ok-flags.flags.items ≡ replicate c.count-total.result false = c.in_ok-flags.ensures.items_if_clones_equal (λ y same. same) in
    subst (AreFlags c.args.n c.args.r []) (sym unset) (flags_none c.args.n c.args.r c.count-total.result c.count-total.ensures)

pub index_mut-requires : goal.index_mut-requires
index_mut-requires c =
    let is : IsSetOf c.args.n c.args.r c.s-item.result = subst (IsSetOf c.args.n c.args.r) (sym c.s-item.is) (c.requires.sets.sets c.loop-s.s-index c.s-item.result c.loop-s-test.true) in
    let small = place_small c.args.n c.args.r c.place-at.result c.s-item.result is.size c.place-at.ensures in
    let size = c.loop-s.invariant.size in
    omega arith

pub loop-s-preserved : goal.loop-s-preserved
loop-s-preserved c =
    let is : IsSetOf c.args.n c.args.r c.s-item.result = subst (IsSetOf c.args.n c.args.r) (sym c.s-item.is) (c.requires.sets.sets c.loop-s.s-index c.s-item.result c.loop-s-test.true) in
    flags_more c.args.n c.args.r c.loop-s.s-index c.place-at.result c.args.sets.now c.loop-s.flags.items c.s-item.result c.loop-s-test.true (sym c.s-item.is) is c.place-at.ensures c.loop-s.invariant

pub returns : goal.returns
returns c = subst (λ (sets : List (List ℕ)). AreFlags c.args.n c.args.r sets c.loop-s.flags.items) (take_all c.loop-s.s-index c.args.sets.now c.loop-s-test.false) c.loop-s.invariant
