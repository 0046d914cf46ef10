-- What a closed board shows.
use Rattle.std.proofs.Common.{◌≡◌, ℕ, Option, Some, None, IfSome, sym, ◌∙◌, subst}
use Rattle.mr_frame.specs.Frame.{Framed, IsFrame}
use Rattle.mr_nogood.specs.declared.row.Row.{Row}
use Rattle.mr_nogood.specs.Follows.{in_slots, Excludes}
use Rattle.mr_exchange.specs.Closed.{ClosedIs, IsClosed}
use Rattle.mr_exchange.proofs.Runs.{rows_of_sound_states_exclude}

-- a row of it excludes
pub closed_row_excludes : (c : ClosedIs) (slot : ℕ) (found : Option Row) → IsClosed c → found ≡ in_slots c.rows slot → IfSome found (Excludes c.frame)
closed_row_excludes c slot None closed is = tt
closed_row_excludes c slot (Some row) closed is =
    let s = closed.shown.state in
    subst (λ (f : Framed). Excludes f row) closed.shown.frame
    (rows_of_sound_states_exclude s slot row (subst IsFrame (sym closed.shown.frame) closed.frame) closed.shown.sound (closed.shown.rows slot ∙ sym is))
