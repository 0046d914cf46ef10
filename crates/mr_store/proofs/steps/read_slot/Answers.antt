-- The head tells whether a row is known.
use Rattle.std.proofs.Common.{ap, arith}
use Rattle.atomic_table.specs.Table.{Me}
use Rattle.mr_store.specs.Seats.{Seen}
use Rattle.mr_store.specs.Keys.{setting}
use Rattle.mr_store.proofs.Peeking.{peeks, peek_has}
use Rattle.mr_store.proofs.steps.read_slot.Goals as goal

pub load-head-requires : goal.load-head-requires
load-head-requires c = (
  c.requires.table.0,
  (let at = c.word_at.ensures in let room = c.requires.table.1 in omega arith),
  peeks (setting c.args.words.now.key) c.args.words.now.table_id.slots c.args.seat.now.id c.word_at.result c.args.seat.now.me c.requires.live,
)

pub read_words-requires-clause-row : goal.read_words-requires-clause-row
read_words-requires-clause-row c = peek_has c.args.seat.now.me.0 c.load-head.new.seat.me.0 c.args.slot c.load-head.result (ap (λ (m : Me (Unit {0}) Seen). m.0) c.load-head.ensures.2.is) (c.load-head.ensures.2.head c.requires.all c.args.slot c.word_at.ensures) c.if-head-ne0.true (c.load-head.ensures.2.good c.args.slot)

pub put-requires-clause-row : goal.put-requires-clause-row
put-requires-clause-row c =
    let there = peek_has c.args.seat.now.me.0 c.load-head.new.seat.me.0 c.args.slot c.load-head.result (ap (λ (m : Me (Unit {0}) Seen). m.0) c.load-head.ensures.2.is) (c.load-head.ensures.2.head c.requires.all c.args.slot c.word_at.ensures) c.if-head-ne0.true (c.load-head.ensures.2.good c.args.slot) in
    (there.row, there.good, c.read_words.ensures.words there.row there.at)
