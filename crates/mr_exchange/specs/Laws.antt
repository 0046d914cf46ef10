-- What holds of every exchange.
use Rattle.std.specs.Prelude.{◌≡◌, ℕ, ◌+◌, ◌<◌, ◌≤◌, List, length, Some, Contains}
use Rattle.mr_set.specs.Subsets.{IsBefore}
use Rattle.mr_assign.specs.Assign.{IsPartOf}
use Rattle.mr_frame.specs.Frame.{Framed, IsFrame}
use Rattle.mr_nogood.specs.declared.row.Row.{Row}
use Rattle.mr_nogood.specs.Follows.{Excludes}
use Rattle.mr_exchange.specs.declared.problem.Problem.{Problem}
use Rattle.mr_exchange.specs.declared.event.Event.{Event}
use Rattle.mr_exchange.specs.declared.event.Event.TheVariants.{OpenNode}
use Rattle.mr_exchange.specs.Cubes.{IsCube, cube_at, cube_count}
use Rattle.mr_exchange.specs.State.{State, new_state, pass_at, IsLive, IsShort}
use Rattle.mr_exchange.specs.Events.{IsAllowedEvent, state_after, Replays}
use Rattle.mr_exchange.specs.Sound.{IsSound}
use Rattle.mr_exchange.specs.Facts.{PassFacts}

-- what the numbers below the count of cubes give are just the cubes, in order
pub record AreCubesInOrder (f : Framed) (depth : ℕ) : Type 0 where
  pub each : (c : ℕ) → c < cube_count f depth → IsCube f depth (cube_at f depth c)
  pub all : (a : List ℕ) → IsCube f depth a → (c : ℕ) × (c < cube_count f depth) × (a ≡ cube_at f depth c)
  pub order : (b c : ℕ) → b < c → c < cube_count f depth → IsBefore (cube_at f depth b) (cube_at f depth c)

-- the cubes of each depth are in lexicographic order
abbrev pub CubesAreInOrder : Type 0
CubesAreInOrder = (f : Framed) (depth : ℕ) → IsFrame f → depth ≤ length f.places → AreCubesInOrder f depth

-- a new state is sound
abbrev pub NewStatesAreSound : Type 0
NewStatesAreSound = (f : Framed) (problem : Problem) (limit : ℕ) → 1 ≤ limit → IsSound (new_state f problem limit)

-- an event that is allowed leads from a sound state to a sound one
abbrev pub AllowedEventsKeepSoundness : Type 0
AllowedEventsKeepSoundness = (s : State) (e : Event) → IsSound s → IsAllowedEvent s e → IsSound (state_after s e)

-- whatever the events, the state that they lead to is sound
abbrev pub ReachedStatesAreSound : Type 0
ReachedStatesAreSound = (f : Framed) (problem : Problem) (limit : ℕ) (es : List Event) (t : State) → 1 ≤ limit → Replays (new_state f problem limit) es t → IsSound t

-- in a sound state the clause of no row has a completion
abbrev pub RowsOfSoundStatesExclude : Type 0
RowsOfSoundStatesExclude = (s : State) (slot : ℕ) (row : Row) → IsFrame s.frame → IsSound s → s.rows slot ≡ Some row → Excludes s.frame row

-- each cube is claimed by one pass
abbrev pub EachCubeHasOnePass : Type 0
EachCubeHasOnePass = (s : State) (j k c : ℕ) → IsSound s → IsLive s j → IsLive s k → Contains (pass_at s j).cubes c → Contains (pass_at s k).cubes c → j ≡ k

-- a slot that has a row keeps it
abbrev pub RowsStay : Type 0
RowsStay = (s : State) (es : List Event) (t : State) (slot : ℕ) (row : Row) → Replays s es t → s.rows slot ≡ Some row → t.rows slot ≡ Some row

-- no pass opens a node that has the clause of a short row that it knows
abbrev pub KnownRowsStayOutOfNodes : Type 0
KnownRowsStayOutOfNodes = (s : State) (k : ℕ) (node : List ℕ) (slot : ℕ) (row : Row) → IsAllowedEvent s (OpenNode k node) → Contains (pass_at s k).known slot → s.rows slot ≡ Some row → IsShort row → ¬ (IsPartOf row.clause node)

-- a list of events leads to one state
abbrev pub EventsLeadToOneState : Type 0
EventsLeadToOneState = (s : State) (es : List Event) (t u : State) → Replays s es t → Replays s es u → t ≡ u

-- the words are above what they count by no more than there may be passes
abbrev pub WordsAreSmall : Type 0
WordsAreSmall = (s : State) → IsSound s → (s.claim ≤ s.problem.cubes + s.limit) × (s.ticket ≤ s.problem.nodes + s.limit)

-- what a sound state says of a live pass
abbrev pub PassesHaveFacts : Type 0
PassesHaveFacts = (s : State) (k : ℕ) → IsFrame s.frame → IsSound s → IsLive s k → PassFacts s (pass_at s k)
