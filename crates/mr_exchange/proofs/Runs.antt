-- Whole lists of events.
use Rattle.std.proofs.Common.{◌≡◌, ℕ, List, [], ◌∷◌, Some, sym, ap, ◌∙◌, subst}
use Rattle.mr_nogood.specs.declared.row.Row.{Row}
use Rattle.mr_nogood.proofs.Excluding.{rows_that_follow_from_each_other_exclude}
use Rattle.mr_exchange.specs.declared.event.Event.{Event}
use Rattle.mr_exchange.specs.declared.event.Event.TheVariants.{Claim, OpenNode, LookAt, Publish, Split, Join}
use Rattle.mr_exchange.specs.State.{State, new_state}
use Rattle.mr_exchange.specs.Events.{IsAllowedEvent, state_after, Replays}
use Rattle.mr_exchange.specs.Sound.{IsSound}
use Rattle.mr_exchange.specs.Laws.{NewStatesAreSound, AllowedEventsKeepSoundness, ReachedStatesAreSound, RowsOfSoundStatesExclude, EachCubeHasOnePass, RowsStay, KnownRowsStayOutOfNodes, EventsLeadToOneState}
use Rattle.mr_exchange.proofs.Balance.{Balances}
use Rattle.mr_exchange.proofs.Rows.{among_more}
use Rattle.mr_exchange.proofs.Steps.{claim_keeps, open_keeps, look_keeps, publish_keeps}
use Rattle.mr_exchange.proofs.Making.{new_state_balances, split_keeps}
use Rattle.mr_exchange.proofs.Joining.{join_keeps}
use Rattle.mr_exchange.proofs.Soundness.{sound_of, balance_of}

-- a new state is sound
pub new_states_are_sound : NewStatesAreSound
new_states_are_sound f problem limit some = sound_of (new_state f problem limit) (new_state_balances f problem limit some)

-- each event that is allowed keeps the balance
event_keeps : (s : State) (e : Event) → Balances s → IsAllowedEvent s e → Balances (state_after s e)
event_keeps s (Claim k) h may = claim_keeps s k h may
event_keeps s (OpenNode k node) h may = open_keeps s k node h may
event_keeps s (LookAt k) h may = look_keeps s k h may
event_keeps s (Publish k slot row) h may = publish_keeps s k slot row h may
event_keeps s Split h may = split_keeps s h may
event_keeps s (Join k) h may = join_keeps s k h may

-- so it leads from a sound state to a sound one
pub allowed_events_keep_soundness : AllowedEventsKeepSoundness
allowed_events_keep_soundness s e sound may = sound_of (state_after s e) (event_keeps s e (balance_of s sound) may)

-- and so does a list of events
replay_keeps : (s : State) (es : List Event) (t : State) → IsSound s → Replays s es t → IsSound t
replay_keeps s [] t sound run = subst IsSound (sym run) sound
replay_keeps s (e ∷ es) t sound run = replay_keeps (state_after s e) es t (allowed_events_keep_soundness s e sound run.0) run.1

-- so each state that events lead to is sound
pub reached_states_are_sound : ReachedStatesAreSound
reached_states_are_sound f problem limit es t some run = replay_keeps (new_state f problem limit) es t (new_states_are_sound f problem limit some) run

-- in a sound state the clause of no row has a completion
pub rows_of_sound_states_exclude : RowsOfSoundStatesExclude
rows_of_sound_states_exclude s slot row frame sound at = rows_that_follow_from_each_other_exclude s.frame s.rows frame sound.proved.follows slot row at

-- each cube is claimed by one pass
pub each_cube_has_one_pass : EachCubeHasOnePass
each_cube_has_one_pass s j k c sound a b x y = sound.cubes.one j k c a b x y

-- an event keeps each row
event_keeps_row : (s : State) (e : Event) (slot : ℕ) (row : Row) → IsAllowedEvent s e → s.rows slot ≡ Some row → (state_after s e).rows slot ≡ Some row
event_keeps_row s (Claim k) slot row may at = at
event_keeps_row s (OpenNode k node) slot row may at = at
event_keeps_row s (LookAt k) slot row may at = at
event_keeps_row s (Publish k there new) slot row may at = among_more s.rows there new may.empty slot row at
event_keeps_row s Split slot row may at = at
event_keeps_row s (Join k) slot row may at = at

-- a slot that has a row keeps it
pub rows_stay : RowsStay
rows_stay s [] t slot row run at = ap (λ (x : State). x.rows slot) run ∙ at
rows_stay s (e ∷ es) t slot row run at = rows_stay (state_after s e) es t slot row run.1 (event_keeps_row s e slot row run.0 at)

-- no pass opens a node that has the clause of a short row that it knows
pub known_rows_stay_out_of_nodes : KnownRowsStayOutOfNodes
known_rows_stay_out_of_nodes s k node slot row may known at short inside = may.avoids slot row known at short inside

-- a list of events leads to one state
pub events_lead_to_one_state : EventsLeadToOneState
events_lead_to_one_state s [] t u a b = a ∙ sym b
events_lead_to_one_state s (e ∷ es) t u a b = events_lead_to_one_state (state_after s e) es t u a.1 b.1
