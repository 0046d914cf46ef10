-- One more answer of those that are left.
use Rattle.std.proofs.Common.{◌≡◌}
use Rattle.std.specs.Vec.Iter.{into_iter_items}
use Rattle.mr_pool.specs.Private.Lists.{with_answers}
use Rattle.mr_pool.proofs.Listing.{put_row, put_low}
use Rattle.mr_pool.proofs.answered.put_all.Goals as goal

pub loop-item-preserved : goal.loop-item-preserved
loop-item-preserved c = record {
  row = put_row c.loop-item.row.items (with_answers c.args.row.now.items c.args.list.items) (into_iter_items c.loop-item.item-iterator) (into_iter_items c.next.new.self) c.in-Some.item c.loop-item.invariant.row c.in-Some.ensures.steps.0;
  low = put_low c.loop-item.row.items (into_iter_items c.loop-item.item-iterator) (into_iter_items c.next.new.self) c.in-Some.item c.loop-item.invariant.low c.in-Some.ensures.steps.0;
}

pub loop-item-preserved-in-Some : goal.loop-item-preserved-in-Some
loop-item-preserved-in-Some c = record {
  row = put_row c.loop-item.row.items (with_answers c.args.row.now.items c.args.list.items) (into_iter_items c.loop-item.item-iterator) (into_iter_items c.next.new.self) c.in-Some.item c.loop-item.invariant.row c.in-Some.ensures.steps.0;
  low = put_low c.loop-item.row.items (into_iter_items c.loop-item.item-iterator) (into_iter_items c.next.new.self) c.in-Some.item c.loop-item.invariant.low c.in-Some.ensures.steps.0;
}

pub loop-item-preserved-in-Some-2 : goal.loop-item-preserved-in-Some-2
loop-item-preserved-in-Some-2 c = record {
  row = put_row c.loop-item.row.items (with_answers c.args.row.now.items c.args.list.items) (into_iter_items c.loop-item.item-iterator) (into_iter_items c.next.new.self) c.in-Some.item c.loop-item.invariant.row c.in-Some.ensures.steps.0;
  low = put_low c.loop-item.row.items (into_iter_items c.loop-item.item-iterator) (into_iter_items c.next.new.self) c.in-Some.item c.loop-item.invariant.low c.in-Some.ensures.steps.0;
}
