-- The row is read from the slot's words.
use Rattle.std.proofs.Common.{◌*◌, ◌<◌, ◌∙◌, ℕ, List, ap, sym, arith}
use Rattle.std.proofs.lemmas.List.{get_or_read}
use Rattle.mr_nogood.specs.declared.TheConstants.{ROW_WORDS}
use Rattle.mr_exchange.specs.Private.Packed.{words_of}
use Rattle.mr_exchange.proofs.WordRows.{past_slots, no_row, has_row, packed_row}
use Rattle.mr_exchange.proofs.packed.PackedRows.row.Goals as goal

pub returns-then-slot-self : goal.returns-then-slot-self
returns-then-slot-self c = past_slots c.self.inside.words.items c.self.inside.slots c.args.slot c.args.self.now c.self.view_is c.if-slot-self.true

pub returns-then-index-eq0 : goal.returns-then-index-eq0
returns-then-index-eq0 c =
    let past = c.if-slot-self.false in
    let lt : c.args.slot < c.self.inside.slots = omega arith in
    let size = c.self.invariant.size in
    let head = get_or_read c.self.inside.words.items (ROW_WORDS * c.args.slot) c.index.result.now (omega arith) c.index.ensures 0 in
    no_row c.self.inside.words.items c.self.inside.slots c.args.slot c.args.self.now c.self.view_is lt (sym head ∙ c.if-index-eq0.true)

pub row_of-requires : goal.row_of-requires
row_of-requires c =
    let past = c.if-slot-self.false in
    let lt : c.args.slot < c.self.inside.slots = omega arith in
    let size = c.self.invariant.size in
    let head = get_or_read c.self.inside.words.items (ROW_WORDS * c.args.slot) c.index.result.now (omega arith) c.index.ensures 0 in
    let are = c.words_of.ensures ∙ ap (λ (ws : List ℕ). words_of ws c.args.slot) c.deref.ensures.value in
    let there = packed_row c.self.inside.words.items c.self.inside.slots c.args.slot c.self.invariant lt (λ e. c.if-index-eq0.false (head ∙ e)) in
    (there.0, there.1, are ∙ there.2)

pub returns : goal.returns
returns c = has_row c.self.inside.words.items c.self.inside.slots c.args.slot c.args.self.now c.self.view_is c.words_of.result c.row_of.result (let past = c.if-slot-self.false in omega arith)
    (c.words_of.ensures ∙ ap (λ (ws : List ℕ). words_of ws c.args.slot) c.deref.ensures.value) c.row_of.ensures.packing c.row_of.ensures.row
