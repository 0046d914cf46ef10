-- edge by edge
use Rattle.mr_linear.proofs.Units.{continues-trans}
use Rattle.mr_class.proofs.Sequence.{next_edge, scaled_more}
use Rattle.mr_class.proofs.scale.scale_forest.Goals as goal

pub scale_edge-requires-clause-edge : goal.scale_edge-requires-clause-edge
scale_edge-requires-clause-edge c =
    next_edge c.args.frame.now.matroid c.args.frame.now.basis c.args.edges.now c.loop-k.k (record { row = 0; col = 0 }) c.requires.exchanges c.requires.order c.loop-k-test.true

pub loop-k-preserved : goal.loop-k-preserved
loop-k-preserved c = record {
  leads = continues-trans c.args.work.now c.loop-k.work c.scale_edge.new.work c.args.ops.now c.loop-k.ops c.scale_edge.new.ops c.loop-k.invariant.leads c.in_ok-scale_edge.ensures.leads;
  scaled = scaled_more c.args.frame.now.matroid c.args.frame.now.basis c.args.edges.now c.loop-k.k (record { row = 0; col = 0 }) c.scale_edge.new.work c.loop-k-test.true c.in_ok-scale_edge.ensures.scaled;
}
