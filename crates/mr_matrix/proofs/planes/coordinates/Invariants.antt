-- The coordinates of the points so far.
use Rattle.std.proofs.Common.{◌≡◌, length}
use Rattle.mr_linear.specs.Matrix.{listed}
use Rattle.mr_matrix.specs.Private.Points.{coordinate}
use Rattle.mr_matrix.proofs.planes.coordinates.Given as goal

abbrev pub invariant-loop-j : goal.invariant-loop-j
invariant-loop-j l = (l.list.items ≡ listed 0 l.j (coordinate l.q l.i)) × (length l.list.items ≡ l.j)
