-- The rows of a closed board.
use Rattle.std.specs.Prelude.{List, Option}
use Rattle.mr_nogood.specs.declared.row.Row.{Row}
use Rattle.mr_exchange.specs.declared.closed.ClosedRows.{ClosedRows}
use Rattle.mr_exchange.specs.declared.closed.ClosedRows.TheVariants.{Board, Store}

-- wherever they are kept
abbrev pub rows_kept : ClosedRows → List (Option Row)
rows_kept (Board rows) = rows
rows_kept (Store rows) = rows
