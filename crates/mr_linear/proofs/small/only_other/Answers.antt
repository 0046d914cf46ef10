-- nothing else is left
use Rattle.std.proofs.Common.{sym, ◌∙◌}
use Rattle.mr_linear.proofs.Opening.{none_left}
use Rattle.mr_linear.proofs.Pairs.{only-other}
use Rattle.mr_linear.proofs.small.only_other.Goals as goal

pub returns-in-None : goal.returns-in-None
returns-in-None c =
    only-other c.args.end c.args.x c.without-rest.result c.without.result c.args.first c.in-Some.k c.requires.first.0 c.requires.first.1 c.without-rest.ensures
    (sym c.in-Some.is ∙ c.first.ensures.least) c.if-k-end.false c.without.ensures (none_left c.without.result c.first-2.result c.first-2.ensures.least (λ e is. cc (is, c.in-None.is)))
