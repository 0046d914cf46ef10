-- What the rule says of one live seat.
use Rattle.std.proofs.Common.{◌≡◌, ℕ, zero, suc, if◌then◌else◌, IsTrue, IsSome, List, [], ◌∷◌, map, set, get_or, Some, None, Contains, refl, sym, ap, ◌∙◌, ⊎_elim, subst}
use mathlib.Core.Option.{some, some-injective, some-ne-none}
use lib.ListN.{get_elem?}
use Rattle.std.proofs.Math.Path.{fun_ext}
use Rattle.std.proofs.lemmas.List.{map-set}
use Rattle.std.proofs.lemmas.List.Elements.{Contains-append_cases}
use Rattle.atomic_table.specs.Table as table
use Rattle.mr_set.specs.Elements.{is_element}
use Rattle.mr_set.proofs.Members.{Contains-from_element}
use Rattle.mr_frame.specs.Frame.{IsFrame}
use Rattle.mr_nogood.specs.declared.row.Row.{Row}
use Rattle.mr_nogood.specs.Follows.{Rows}
use Rattle.mr_exchange.specs.declared.event.Event.{Event}
use Rattle.mr_exchange.specs.declared.event.Reply.{Reply}
use Rattle.mr_exchange.specs.State.{Pass, State, spent, pass_at, IsLive, slots_of, known_rows}
use Rattle.mr_exchange.specs.Events.{IsAllowedEvent, state_after, reply_of}
use Rattle.mr_exchange.specs.Sound.{IsSound}
use Rattle.mr_exchange.specs.Facts.{PassFacts}
use Rattle.mr_exchange.specs.Board.{Holding, holding_in, holding_of}
use Rattle.mr_exchange.proofs.Totals.{bool_cases}
use Rattle.mr_exchange.proofs.OnePass.{passes_have_facts}
use Rattle.mr_store.specs.Seats.{Setting, Seen, IsTold, find, known_of, holding_seen}
use Rattle.mr_store.specs.Shown.{shown, IsTied, Holds}
use Rattle.mr_store.specs.Steps.{IsShownIn, Tells, Happened}
use Rattle.mr_store.proofs.Finding.{find_in}

-- the pass of a seat stands at its place
pub pass_there : (views : List Seen) (id : ℕ) (v : Seen) → get_elem? views id ≡ some v → get_or (map (λ (u : Seen). u.pass) views) id spent ≡ v.pass
pass_there [] id v at = absurd (some-ne-none v (sym at))
pass_there (u ∷ us) zero v at = ap (λ (x : Seen). x.pass) (some-injective u v at)
pass_there (u ∷ us) (suc id) v at = pass_there us id v at

-- the passes after one seat's changed
pub passes_set : (views : List Seen) (id : ℕ) (w : Seen) (p : Pass) → p ≡ w.pass → set (map (λ (u : Seen). u.pass) views) id p ≡ map (λ (u : Seen). u.pass) (set views id w)
passes_set views id w p e = ap (λ q. set (map (λ (u : Seen). u.pass) views) id q) e ∙ sym (map-set (λ (u : Seen). u.pass) views id w)

-- a slot of its own that has a row is known to a live pass
pub own_known : (s : State) (k slot : ℕ) (row : Row) → IsFrame s.frame → IsSound s → IsLive s k → Contains (slots_of (pass_at s k).tickets) slot → s.rows slot ≡ Some row → Contains (pass_at s k).known slot
own_known s k slot row frame sound live own at = ((passes_have_facts s k frame sound live).own slot own).0 (subst IsSome (sym at) refl)

-- the rows that a pass knows are those that its seat found
pub known_found : (s : State) (words : List ℕ) (v : Seen) → IsTied s words v → (slot : ℕ) → known_rows s v.pass slot ≡ known_of v slot
known_found s words v t slot = bool_cases (is_element v.pass.known slot) (λ b. (if b then s.rows slot else None) ≡ (if b then find v.found slot else None))
    (λ e. (let f = (t.known slot).0 (Contains-from_element v.pass.known slot e) in t.found slot f.row (find_in v.found slot f.row f.at) ∙ sym f.at))
    (λ e. refl)

module _ (g : Setting) (s : table.State (Unit {0}) Seen) (id : ℕ) (v : Seen) (h : Holds g s) (at : get_elem? s.views id ≡ some v) (live : IsTrue v.pass.live) where
  -- the state that is shown
  abbrev st : State
  st = shown g s.words s.views

  -- its pass
  pub pass_here : pass_at st id ≡ v.pass
  pass_here = pass_there s.views id v at

  -- it is live
  pub live_here : IsLive st id
  live_here = subst (λ (p : Pass). IsTrue p.live) (sym pass_here) live

  -- its number is that of the seat
  pub number_here : v.pass.number ≡ id
  number_here = ap (λ (p : Pass). p.number) (sym pass_here) ∙ h.sound.passes.numbers id live_here

  -- what the seat knows is so
  pub tied_here : IsTied st s.words v
  tied_here = h.tied.each id v at live

  -- the setting is that of the table
  pub setting_here : g ≡ v.setting
  setting_here = tied_here.setting

  -- what holds of its pass
  pub facts_here : PassFacts st v.pass
  facts_here = subst (PassFacts st) pass_here (passes_have_facts st id h.frame h.sound live_here)

  -- the state shows what the seat knows
  pub shown_here : IsShownIn st v
  shown_here = record {
    frame = h.frame;
    problem = h.problem;
    sound = h.sound;
    setting = tied_here.setting;
    live = subst (λ k. IsLive st k) (sym number_here) live_here;
    pass = ap (pass_at st) number_here ∙ pass_here;
    found = tied_here.found;
    given = tied_here.given;
    known = known_found st s.words v tied_here;
  }

-- what a seat has and knows, of a setting, a pass and rows
abbrev pub holding_with : Setting → Pass → Rows → Holding
holding_with g p rows = record {
  frame = g.frame;
  problem = g.problem;
  cubes = p.cubes;
  tickets = p.tickets;
  known = rows;
  looks = p.looks;
  last_head = p.last_head;
  cursor = p.cursor;
  claim_ends = p.claim_ends;
  ticket_ends = p.ticket_ends;
}

-- what a pass of a state that shows the seat has and knows is what the seat's has and knows
pub holding_shown : (s : State) (v : Seen) → IsShownIn s v → holding_of s v.pass.number ≡ holding_seen v
holding_shown s v i =
    ap (λ (p : Pass). holding_in s p) i.pass
    ∙ ap (λ (g : Setting). holding_with g v.pass (known_rows s v.pass)) i.setting
    ∙ ap (λ (rows : Rows). holding_with v.setting v.pass rows) (fun_ext i.known)

-- a row of which a seat was told stands in a state that shows what the seat knows
pub told_there : (s : State) (v : Seen) → IsShownIn s v → (slot : ℕ) (row : Row) → IsTold v slot row → s.rows slot ≡ Some row
told_there s v i slot row has = ⊎_elim (i.found slot row) (i.given slot row) (Contains-append_cases v.found v.given (slot, row) has)

-- a step from a state that keeps the rule to one that keeps it is the event that leads from the one to the other
pub happened : (g : Setting) (s t : table.State (Unit {0}) Seen) (id : ℕ) (v w : Seen) (event : ℕ → Event) (reply : Reply) → Holds g s → get_elem? s.views id ≡ some v → IsTrue v.pass.live
    → Holds g t → get_elem? t.views id ≡ some w → IsTrue w.pass.live → IsAllowedEvent (shown g s.words s.views) (event id) → reply_of (shown g s.words s.views) (event id) ≡ reply
    → state_after (shown g s.words s.views) (event id) ≡ shown g t.words t.views → ((slot : ℕ) (row : Row) → IsTold v slot row → IsTold w slot row) → Tells (shown g s.words s.views) (event id) w
    → Happened v (event v.pass.number) reply w
happened g s t id v w event reply h at live k there alive may is leads stays tells = subst (λ n. Happened v (event n) reply w) (sym (number_here g s id v h at live)) (record {
  state = shown g s.words s.views;
  before = shown_here g s id v h at live;
  allowed = may;
  reply = is;
  next = subst (λ x. IsShownIn x w) (sym leads) (shown_here g t id w k there alive);
  stays = stays;
  tells = tells;
})
