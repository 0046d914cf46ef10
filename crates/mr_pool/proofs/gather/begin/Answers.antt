-- What the desk of the first pass has.
use Rattle.std.proofs.Common.{◌≡◌, refl, sym, ap, ◌∙◌, length, None}
use Rattle.mr_store.specs.Cards.{CardIs, mark_of}
use Rattle.mr_pool.specs.declared.gather.Gathered.{Gathered}
use Rattle.mr_pool.specs.Private.Desks.{IsDoneCard}
use Rattle.mr_pool.proofs.Listing.{length-with_answers}
use Rattle.mr_pool.proofs.Gathering.{has_at, done_low, places_of, begun}
use Rattle.mr_pool.proofs.gather.begin.Goals as goal

pub put_all-requires : goal.put_all-requires
put_all-requires c =
    let d = has_at (λ (card : CardIs). IsDoneCard c.args.store.now c.args.desk card × ((mark_of card).number ≡ 0)) c.args.desk.card c.in-Some.card c.in-Some.is c.requires.desk in
    done_low c.args.store.now c.args.desk c.in-Some.card (length c.args.row.items) d.0 c.in-None.is (places_of c.args.store.now c.args.row.items c.requires.row)

pub returns-in-None-clause-gathered : goal.returns-in-None-clause-gathered
returns-in-None-clause-gathered c =
    let d = has_at (λ (card : CardIs). IsDoneCard c.args.store.now c.args.desk card × ((mark_of card).number ≡ 0)) c.args.desk.card c.in-Some.card c.in-Some.is c.requires.desk in
    let gathered : Gathered = record { card = c.in-Some.card; row = c.put_all.new.row; stop = None } in
    begun c.args.store.now c.args.desk c.in-Some.card c.args.row.items gathered d.0 d.1 c.requires.row refl (sym c.in-None.is)
    (ap length c.put_all.ensures ∙ length-with_answers c.args.row.items c.args.desk.list.items) (λ _. c.put_all.ensures)
