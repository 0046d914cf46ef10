-- The slot has the row of the words.
use Rattle.std.proofs.Common.{◌∙◌, ap, List, Option, set, Some}
use Rattle.mr_nogood.specs.declared.row.Row.{Row}
use Rattle.mr_exchange.proofs.WordRows.{put_rows, put_packed, slots_of_rows}
use Rattle.mr_exchange.proofs.packed.PackedRows.put.Goals as goal

pub copy_words-requires : goal.copy_words-requires
copy_words-requires c = (slots_of_rows c.self.inside.words.items c.self.inside.slots c.args.slot c.args.self.now c.self.invariant c.self.view_is c.requires.slot).1

pub invariant_of-self : goal.invariant_of-self
invariant_of-self c = put_packed c.self.inside.words.items c.copy_words.new.words.items c.self.inside.slots c.args.slot c.requires.row.0 c.self.invariant c.copy_words.ensures.size c.requires.row.1 (c.copy_words.ensures.here ∙ c.requires.row.2) c.copy_words.ensures.others

pub returns : goal.returns
returns c = λ row good packing.
    put_rows c.self.inside.words.items c.copy_words.new.words.items c.self.inside.slots c.args.slot row (slots_of_rows c.self.inside.words.items c.self.inside.slots c.args.slot c.args.self.now c.self.invariant c.self.view_is c.requires.slot).0 good (c.copy_words.ensures.here ∙ packing) c.copy_words.ensures.others
    ∙ ap (λ (rows : List (Option Row)). set rows c.args.slot (Some row)) c.self.view_is
