-- the number is the least rank
use Rattle.std.proofs.Common.{◌≡◌, sym, ap, ◌∙◌, subst, arith, eqb-true, eq-eqb}
use Rattle.std.proofs.lemmas.List.{get_or_default}
use Rattle.mr_nogood.specs.Follows.{in_slots}
use Rattle.mr_nogood.specs.Private.Checking.{cited_row}
use Rattle.mr_nogood.specs.declared.row.Cite.TheVariants.{Nothing}
use Rattle.mr_exchange.specs.Private.Deciding.{rank_past}
use Rattle.mr_exchange.proofs.Scanning.{IsLeastPast, least_of_more, least_is_rank, rank_is_least}
use Rattle.mr_exchange.proofs.state.allowed.has_least_rank.Goals as goal

pub loop-k-preserved : goal.loop-k-preserved
loop-k-preserved c =
    let cite = get_or_default c.args.row.now.cites c.loop-k.k c.index-cites-k.result Nothing (let count = c.type_inv.cites in omega arith) in
    let past = c.past.ensures ∙ ap (λ x. rank_past (cited_row (in_slots c.args.given.now) x)) cite in
    (λ _. c.type_inv.cites, rw c.max-least.ensures (least_of_more (in_slots c.args.given.now) c.args.row.now c.loop-k.k c.loop-k.least c.past.result c.loop-k.invariant.1 past))

pub returns : goal.returns
returns c =
    let last : c.loop-k.k ≡ 8 = omega arith in
    let count = c.loop-k.invariant.0 (omega arith) in
    let least = subst (λ n. IsLeastPast (in_slots c.args.given.now) c.args.row.now n c.loop-k.least) last c.loop-k.invariant.1 in (
      (λ e. least_is_rank (in_slots c.args.given.now) c.args.row.now c.loop-k.least count least (sym c.from.ensures ∙ eqb-true c.from.result c.loop-k.least e)),
      λ rank. eq-eqb c.from.result c.loop-k.least (c.from.ensures ∙ rank_is_least (in_slots c.args.given.now) c.args.row.now c.loop-k.least count least rank),
    )
