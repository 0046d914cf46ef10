-- What is looked at to decide whether an event is allowed.
use Rattle.std.specs.Prelude.{◌≡◌, ℕ, ◌+◌, ◌*◌, ◌≤◌, if◌then◌else◌, List, [], length, Option, Some, None, Contains}
use Rattle.mr_set.specs.Elements.{is_element}
use Rattle.mr_assign.specs.Assign.{IsPartOf}
use Rattle.mr_frame.specs.Frame.{Framed}
use Rattle.mr_nogood.specs.declared.row.Row.{Row}
use Rattle.mr_nogood.specs.Follows.{Rows, Follows}
use Rattle.mr_exchange.specs.declared.TheConstants.{LOOKS}
use Rattle.mr_exchange.specs.State.{Pass, IsShort, slots_of}
use Rattle.mr_exchange.specs.Events.{IsNodeOf}
use Rattle.mr_exchange.specs.Rank.{HasLeastRank}

-- the row is short, and its clause is in the node
abbrev pub IsHit : Option Row → List ℕ → Type 0
IsHit None node = ⊥
IsHit (Some row) node = IsShort row × IsPartOf row.clause node

-- no row of these slots is short and has its clause in the node
abbrev pub AvoidsSlots : Rows → List ℕ → List ℕ → Type 0
AvoidsSlots rows slots node = (slot : ℕ) → Contains slots slot → ¬ (IsHit (rows slot) node)

-- one more than the rank of a row, or 0
abbrev pub rank_past : Option Row → ℕ
rank_past None = 0
rank_past (Some row) = row.rank + 1

-- the rows of these slots alone
abbrev pub only : Rows → List ℕ → Rows
only rows slots slot = if is_element slots slot then rows slot else None

-- the pass joined no other, was not told that no ticket is left, and made the looks that are due
pub record MayDraw (p : Pass) : Type 0 where
  pub alone : p.joined ≡ []
  pub no_end : p.ticket_ends ≡ 0
  pub looked : LOOKS * length p.tickets ≤ p.looks

-- the pass may open another node, this is one of its cubes, and no row that it knows hits
pub record MayUse (f : Framed) (depth : ℕ) (rows : Rows) (p : Pass) (node : List ℕ) : Type 0 where
  pub draws : MayDraw p
  pub is_node : IsNodeOf f depth p.cubes node
  pub avoids : AvoidsSlots rows p.known node

-- the slot is the pass's own and has no row, and the row follows from those that the pass knows, with the least rank
pub record MayFill (f : Framed) (rows : Rows) (p : Pass) (slot : ℕ) (row : Row) : Type 0 where
  pub own : Contains (slots_of p.tickets) slot
  pub empty : rows slot ≡ None
  pub follows : Follows f (only rows p.known) row
  pub rank : HasLeastRank (only rows p.known) row
