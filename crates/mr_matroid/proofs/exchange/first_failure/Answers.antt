-- One basis more, and all.
use Rattle.std.proofs.Common.{sym, subst, arith}
use Rattle.mr_set.specs.Matroid.{IsBasis}
use Rattle.mr_matroid.specs.Private.Search.{NoneFrom}
use Rattle.mr_matroid.proofs.BasisLists.{basis_at, each_basis, each_more, none_before_from, failure_from_second}
use Rattle.mr_matroid.proofs.exchange.first_failure.Goals as goal

pub first_second-requires : goal.first_second-requires
first_second-requires c = record {
  basis = subst (IsBasis c.args.table.now) (sym c.b1-item.is) (basis_at c.args.table.now c.unlisted-bases.result.now c.loop-b1.b1-index c.b1-item.result c.unlisted-bases.ensures c.loop-b1-test.true);
  before = none_before_from c.args.table.now c.unlisted-bases.result.now c.loop-b1.b1-index c.b1-item.result c.unlisted-bases.ensures c.loop-b1-test.true (sym c.b1-item.is) c.loop-b1.invariant;
}

pub returns-in-Some : goal.returns-in-Some
returns-in-Some c =
    failure_from_second c.args.table.now c.b1-item.result c.in-Some.found.0 c.in-Some.found.1
    (none_before_from c.args.table.now c.unlisted-bases.result.now c.loop-b1.b1-index c.b1-item.result c.unlisted-bases.ensures c.loop-b1-test.true (sym c.b1-item.is) c.loop-b1.invariant)
    c.in-Some.ensures

pub loop-b1-preserved : goal.loop-b1-preserved
loop-b1-preserved c = each_more c.unlisted-bases.result.now (NoneFrom c.args.table.now) c.loop-b1.b1-index c.b1-item.result c.loop-b1-test.true c.b1-item.is c.loop-b1.invariant c.in_default.ensures

pub returns : goal.returns
returns c b1 b2 x fails =
    each_basis c.args.table.now c.unlisted-bases.result.now (NoneFrom c.args.table.now) c.unlisted-bases.ensures (λ k d lt. c.loop-b1.invariant k d (let end = c.loop-b1-test.false in omega (arith, lt, end)))
    b1 fails.first b2 x fails
