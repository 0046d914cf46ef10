-- The row of a slot excludes, since a sound state is shown.
use Rattle.mr_exchange.proofs.Closing.{closed_row_excludes}
use Rattle.mr_exchange.proofs.closed.Closed.row.Goals as goal

pub returns-clause-excludes : goal.returns-clause-excludes
returns-clause-excludes c = rw (← c.self.view_is) (closed_row_excludes _ c.args.slot c.row_in.result c.self.invariant c.row_in.ensures)
