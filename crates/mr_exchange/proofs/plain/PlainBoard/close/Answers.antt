-- What a board shows when it is closed.
use Rattle.std.proofs.Common.{ap, sym, ◌∙◌, length, arith}
use Rattle.mr_exchange.specs.Plain.{PlainIs}
use Rattle.mr_exchange.proofs.OneBoard.{shows}
use Rattle.mr_exchange.proofs.plain.PlainBoard.close.Goals as goal

pub of_rows-requires : goal.of_rows-requires
of_rows-requires c = shows _ c.self.invariant.0 c.len-opened.result c.claimed-claimed.result (omega arith) (c.claimed-claimed.ensures ∙ ap (λ (p : PlainIs). length p.cubes) (sym c.self.view_is))
