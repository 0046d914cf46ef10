-- What is gathered once a further pass was joined.
use Rattle.std.proofs.Common.{◌≡◌, ◌≢◌, refl, sym, ap, ◌∙◌, length}
use Rattle.std.specs.Prelude.{is_some, true}
use Rattle.mr_store.specs.Cards.{CardIs, mark_of}
use Rattle.mr_pool.specs.declared.gather.Gathered.{Gathered}
use Rattle.mr_pool.specs.Private.Desks.{IsDoneCard}
use Rattle.mr_pool.proofs.Listing.{length-with_answers}
use Rattle.mr_pool.proofs.Gathering.{JoinsCard, has_at, done_low, no_stop, no_stop_yet, stop_there, gathered_more}
use Rattle.mr_pool.proofs.gather.take_in.Goals as goal

pub put_all-requires : goal.put_all-requires
put_all-requires c =
    let d = has_at (λ (card : CardIs). IsDoneCard c.args.store.now c.args.desk card × ((mark_of card).number ≢ 0)) c.args.desk.card c.in-Some.card c.in-Some.is c.requires.desk in
    let none = no_stop c.args.gathered.now.stop c.args.desk.stop (sym c.worse-gathered.ensures ∙ no_stop_yet c.worse-gathered.result (sym c.is_some.ensures ∙ c.if-is_some.false)) in
    done_low c.args.store.now c.args.desk c.in-Some.card (length c.args.gathered.now.row.items) d.0 none.1 c.requires.gathered.room

pub returns-then-is_some-clause-gathered : goal.returns-then-is_some-clause-gathered
returns-then-is_some-clause-gathered c =
    let d = has_at (λ (card : CardIs). IsDoneCard c.args.store.now c.args.desk card × ((mark_of card).number ≢ 0)) c.args.desk.card c.in-Some.card c.in-Some.is c.requires.desk in
    let joins : JoinsCard c.args.gathered.now.card c.in-Some.card c.join.new.first = record { mark = c.join.ensures.mark; cubes = c.join.ensures.cubes; tickets = c.join.ensures.tickets; known = c.join.ensures.known; apart = c.join.ensures.other_cubes; ends = c.join.ensures.ends; facts = c.join.ensures.facts } in
    let gathered : Gathered = record { card = c.join.new.first; row = c.args.gathered.now.row; stop = c.worse-gathered.result } in
    let there : is_some c.worse-gathered.result ≡ true = sym c.is_some.ensures ∙ c.if-is_some.true in
    gathered_more c.args.store.now c.args.gathered.now gathered c.args.desk c.in-Some.card c.requires.gathered d.0 joins
    c.worse-gathered.ensures refl (λ e. absurd (stop_there c.worse-gathered.result there e))

pub returns-clause-gathered : goal.returns-clause-gathered
returns-clause-gathered c =
    let d = has_at (λ (card : CardIs). IsDoneCard c.args.store.now c.args.desk card × ((mark_of card).number ≢ 0)) c.args.desk.card c.in-Some.card c.in-Some.is c.requires.desk in
    let joins : JoinsCard c.args.gathered.now.card c.in-Some.card c.join.new.first = record { mark = c.join.ensures.mark; cubes = c.join.ensures.cubes; tickets = c.join.ensures.tickets; known = c.join.ensures.known; apart = c.join.ensures.other_cubes; ends = c.join.ensures.ends; facts = c.join.ensures.facts } in
    let gathered : Gathered = record { card = c.join.new.first; row = c.put_all.new.row; stop = c.worse-gathered.result } in
    gathered_more c.args.store.now c.args.gathered.now gathered c.args.desk c.in-Some.card c.requires.gathered d.0 joins
    c.worse-gathered.ensures (ap length c.put_all.ensures ∙ length-with_answers c.args.gathered.now.row.items c.args.desk.list.items) (λ _. c.put_all.ensures)
