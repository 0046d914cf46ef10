-- A list of events, one event after another.
use Rattle.std.proofs.Common.{◌≡◌, ℕ, zero, suc, ◌+◌, ◌<◌, ◌≤◌, List, [], ◌∷◌, ◌++◌, length, take, get_or, Some, refl, sym, ap, ◌∙◌, subst, arith}
use Rattle.std.specs.Prelude.{slice_get}
use Rattle.std.proofs.lemmas.List.{take_all}
use Rattle.std.proofs.lemmas.Grind.{take_at_read}
use Rattle.mr_frame.specs.Frame.{Framed}
use Rattle.mr_exchange.specs.declared.event.Event.{Event}
use Rattle.mr_exchange.specs.State.{State}
use Rattle.mr_exchange.specs.Events.{IsAllowedEvent, state_after, Replays, IsFirstRefused}
use Rattle.mr_exchange.specs.Held.{Held, state_of}

-- one more event
replays_push : (s : State) (es : List Event) (t : State) (e : Event) → Replays s es t → IsAllowedEvent t e → Replays s (es ++ e ∷ []) (state_after t e)
replays_push s [] t e run may = (subst (λ x. IsAllowedEvent x e) run may, ap (λ x. state_after x e) run)
replays_push s (d ∷ es) t e run may = (run.0, replays_push (state_after s d) es t e run.1 may)

-- the first n events lead from s to the state that is held, which is one of the frame
pub record HasReplayed (f : Framed) (s : State) (es : List Event) (n : ℕ) (h : Held) : Type 0 where
  pub frame : h.frame ≡ f
  pub events : Replays s (take n es) (state_of h)

-- the n-th event, where it is allowed
pub replayed_further : (f : Framed) (s : State) (es : List Event) (n : ℕ) (g h : Held) (e : Event) → HasReplayed f s es n g → n < length es → e ≡ get_or es n e → IsAllowedEvent (state_of g) e → state_of h ≡ state_after (state_of g) e → h.frame ≡ f → HasReplayed f s es (n + 1) h
replayed_further f s es n g h e run lt read may same frame =
    let taken : take (n + 1) es ≡ take n es ++ e ∷ [] = (take_at_read es n e lt).1 ∙ ap (λ x. take n es ++ x ∷ []) (sym read) in record {
      frame = frame;
      events = subst (λ xs. Replays s xs (state_of h)) (sym taken) (subst (Replays s (take n es ++ e ∷ [])) (sym same) (replays_push s (take n es) (state_of g) e run.events may));
    }

-- what is read is what is there
event_at : (es : List Event) (n : ℕ) (e : Event) → n < length es → slice_get es n ≡ Some (get_or es n e)
event_at [] n e lt = absurd (omega arith)
event_at (x ∷ es) zero e lt = refl
event_at (x ∷ es) (suc n) e lt = event_at es n e (omega arith)

-- the n-th event, where it isn't
pub refused_at : (f : Framed) (s : State) (es : List Event) (n : ℕ) (g : Held) (e : Event) → HasReplayed f s es n g → n < length es → e ≡ get_or es n e → ¬ (IsAllowedEvent (state_of g) e) → IsFirstRefused s es n
refused_at f s es n g e run lt read refused = record {
  event = e;
  reached = state_of g;
  at = event_at es n e lt ∙ ap Some (sym read);
  before = run.events;
  refused = refused;
}

-- all events
pub replayed_all : (f : Framed) (s : State) (es : List Event) (n : ℕ) (h : Held) → HasReplayed f s es n h → length es ≤ n → Replays s es (state_of h)
replayed_all f s es n h run all = subst (λ xs. Replays s xs (state_of h)) (take_all n es all) run.events
