-- a row of smaller rank is found, and its clause is looked for in the assignment
use Rattle.std.proofs.Common.{◌≡◌, Some, ap}
use Rattle.std.specs.Prelude.{option_copied}
use Rattle.mr_nogood.proofs.Cites.{by_row}
use Rattle.mr_nogood.proofs.following.holds.Goals as goal

pub returns-then-row-rank : goal.returns-then-row-rank
returns-then-row-rank c =
    let found : option_copied c.args.found ≡ Some c.in-Some.row.now = ap option_copied c.in-Some.is in
    rw c.in-Slot.is (by_row c.args.frame.now (option_copied c.args.found) c.in-Some.row.now c.args.rank c.args.a.now c.in-Slot.field-0 c.contains.result found c.if-row-rank.true c.contains.ensures)
