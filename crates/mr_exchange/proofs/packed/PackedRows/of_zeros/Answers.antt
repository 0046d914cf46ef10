-- zeros have no rows
use Rattle.std.proofs.Common.{◌∙◌, ap, length, List, ℕ}
use Rattle.mr_exchange.specs.Private.Packed.{rows_read}
use Rattle.mr_exchange.proofs.WordRows.{zeros_read, zeros_packed}
use Rattle.mr_exchange.proofs.packed.PackedRows.of_zeros.Goals as goal

pub invariant_of-result : goal.invariant_of-result
invariant_of-result c = zeros_packed c.args.words.items c.args.slots c.requires.zeros c.requires.size

pub returns : goal.returns
returns c = ap (λ (ws : List ℕ). rows_read ws c.args.slots) c.requires.zeros ∙ zeros_read (length c.args.words.items) c.args.slots
