-- A pass of an exchange that joined no other is such as a board's, and its events are the calls of the board.
use Rattle.std.specs.Prelude.{◌≡◌, ◌≢◌, ◌↔◌, ℕ, List, [], Option}
use Rattle.mr_frame.specs.Frame.{IsFrame}
use Rattle.mr_nogood.specs.declared.row.Row.{Row}
use Rattle.mr_exchange.specs.declared.event.Event.TheVariants.{Claim, OpenNode, LookAt, Publish}
use Rattle.mr_exchange.specs.declared.event.Look.{Look}
use Rattle.mr_exchange.specs.declared.event.Reply.TheVariants.{Cube, Ticket as Drawn, Seen}
use Rattle.mr_exchange.specs.Cubes.{IsProblemOf}
use Rattle.mr_exchange.specs.State.{State, pass_at, IsLive}
use Rattle.mr_exchange.specs.Events.{MayClaim, MayOpen, MayLook, MayPublish, state_after, reply_of}
use Rattle.mr_exchange.specs.Sound.{IsSound}
use Rattle.mr_exchange.specs.Board.{holding_of, BoardFacts, CanOpen, CanPublish, Claimed, Opened, Looked, Published}

-- What may be rested on of a board holds of the pass. A board asks for just what the pass's event needs, and what it answers
-- and changes is what that event does.
pub record ActsAsBoard (s : State) (k : ℕ) : Type 0 where
  pub facts : BoardFacts (holding_of s k)
  pub can_claim : MayClaim s k ↔ ((holding_of s k).claim_ends ≡ 0)
  pub can_open : (node : List ℕ) → MayOpen s k node ↔ CanOpen (holding_of s k) node
  pub can_look : MayLook s k ↔ ((holding_of s k).tickets ≢ [])
  pub can_publish : (slot : ℕ) (row : Row) → MayPublish s k slot row ↔ CanPublish (holding_of s k) slot row
  pub claim : (cube : Option ℕ) → MayClaim s k → reply_of s (Claim k) ≡ Cube cube → Claimed (holding_of s k) cube (holding_of (state_after s (Claim k)) k)
  pub opening : (node : List ℕ) (ticket : Option ℕ) → MayOpen s k node → reply_of s (OpenNode k node) ≡ Drawn ticket → Opened (holding_of s k) node ticket (holding_of (state_after s (OpenNode k node)) k)
  pub look : (look : Look) → MayLook s k → reply_of s (LookAt k) ≡ Seen look → Looked (holding_of s k) look (holding_of (state_after s (LookAt k)) k)
  pub publication : (slot : ℕ) (row : Row) → MayPublish s k slot row → Published (holding_of s k) slot row (holding_of (state_after s (Publish k slot row)) k)

-- so it is with each live pass of a sound state that joined no other
abbrev pub PassesActAsBoards : Type 0
PassesActAsBoards = (s : State) (k : ℕ) → IsFrame s.frame → IsProblemOf s.frame s.problem → IsSound s → IsLive s k → (pass_at s k).joined ≡ [] → ActsAsBoard s k
