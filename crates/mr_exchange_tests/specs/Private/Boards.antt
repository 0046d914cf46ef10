-- What the tests of boards keep of a pass that claimed one cube and opened one node.
use Rattle.std.specs.Prelude.{◌≡◌, ℕ, ◌*◌, ◌≤◌, [], ◌∷◌, length, Some, None}
use Rattle.mr_nogood.specs.declared.row.Row.{Row}
use Rattle.mr_exchange.specs.declared.TheConstants.{LOOKS}
use Rattle.mr_exchange.specs.State.{slots_of}
use Rattle.mr_exchange.specs.Board.{Holding}

-- it has the cube 0 and the ticket 0, and was told no end
pub record HasOne (h : Holding) : Type 0 where
  pub cubes : h.cubes ≡ 0 ∷ []
  pub tickets : slots_of h.tickets ≡ 0 ∷ []
  pub claim_ends : h.claim_ends ≡ 0
  pub ticket_ends : h.ticket_ends ≡ 0

-- and knows no row
pub record KnowsNone (h : Holding) : Type 0 where
  pub one : HasOne h
  pub known : (slot : ℕ) → h.known slot ≡ None

-- and knows this row alone
pub record KnowsOne (h : Holding) (row : Row) : Type 0 where
  pub one : HasOne h
  pub known : (slot : ℕ) (found : Row) → h.known slot ≡ Some found → found ≡ row

-- and made the looks that are due
pub record LookedOn (h : Holding) (row : Row) : Type 0 where
  pub knows : KnowsOne h row
  pub looked : LOOKS * length h.tickets ≤ h.looks
