-- the cite is looked at with the value of the position
use Rattle.std.proofs.Common.{◌≡◌, ◌+◌, set, ap, ◌∙◌, arith}
use Rattle.std.specs.Prelude.{option_copied}
use Rattle.mr_field.specs.Gf.{order}
use Rattle.mr_nogood.proofs.Cites.{accounts_within}
use Rattle.mr_nogood.proofs.following.accounts.Goals as goal

pub returns : goal.returns
returns c =
    let order_is : c.order.result ≡ order c.args.frame.now.field = c.order.ensures.value ∙ ap order c.field.ensures in
    let assignment : c.with-a.result ≡ set c.args.row.now.clause c.args.row.now.at (c.args.k + 1) = c.with-a.ensures ∙ ap (λ p. set c.args.row.now.clause p (c.args.k + 1)) c.from.ensures in
    accounts_within c.args.frame.now c.args.row.now (option_copied c.args.found) c.args.k c.with-a.result _ c.holds.result (omega arith) assignment c.cite_at-cite.ensures.cite c.holds.ensures
