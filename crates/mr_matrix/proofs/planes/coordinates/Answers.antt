-- One coordinate after another.
use Rattle.std.proofs.Common.{length, sym, ap, ◌∙◌}
use Rattle.mr_matrix.specs.Private.Points.{coordinate}
use Rattle.mr_matrix.proofs.PlaneRows.{listed-none, coordinates_on}
use Rattle.mr_matrix.proofs.planes.coordinates.Goals as goal

pub loop-j-init : goal.loop-j-init
loop-j-init c = (c.new-list.ensures ∙ sym (listed-none 0 (coordinate c.args.q c.args.i)), ap length c.new-list.ensures)

pub loop-j-preserved : goal.loop-j-preserved
loop-j-preserved c = coordinates_on c.args.q c.args.i c.loop-j.j c.coordinate.result c.loop-j.list.items c.push.new.self.items c.loop-j.invariant.0 c.loop-j.invariant.1 c.coordinate.ensures c.push.ensures.items
