-- The first card of a store, a card that is split off, and one that takes in another.
use Rattle.std.proofs.Common.{◌≡◌, ℕ, ◌+◌, ◌<◌, ◌≤◌, IsTrue, List, [], ◌∷◌, length, length-set, get_or-set_same, replicate, set, refl, sym, ap, ◌∙◌, subst, arith}
use Rattle.atomic_table.specs.Table.{Me, opening}
use Rattle.atomic_table.specs.Seated.{TableId}
use Rattle.std.proofs.lemmas.List.{get_or_append_left, get_or_push}
use Rattle.mr_frame.specs.Frame.{IsFrame}
use Rattle.mr_exchange.specs.declared.TheConstants.{PASSES}
use Rattle.mr_exchange.specs.declared.problem.Problem.{Problem}
use Rattle.mr_exchange.specs.declared.event.Event.TheVariants.{Split}
use Rattle.mr_exchange.specs.Cubes.{IsProblemOf}
use Rattle.mr_exchange.specs.State.{Pass, State, spent, new_pass, pass_at, IsLive}
use Rattle.mr_exchange.specs.Events.{IsAllowedEvent, state_after}
use Rattle.mr_exchange.specs.Sound.{IsSound}
use Rattle.mr_exchange.proofs.Lookups.{within}
use Rattle.mr_exchange.proofs.Runs.{allowed_events_keep_soundness}
use Rattle.mr_store.specs.Seats.{Setting, Seen, word_at, first_view, view_made, view_new}
use Rattle.mr_store.specs.Steps.{IsShownIn}
use Rattle.mr_store.specs.Private.Cards.{IsCard}
use Rattle.mr_store.proofs.Showing.{shown_here, told_there}
use Rattle.mr_store.proofs.Making.{opening_holds}

-- a new state shows the first seat
pub first_shown : (g : Setting) → IsFrame g.frame → IsProblemOf g.frame g.problem → 1 ≤ g.limit → g.limit ≤ PASSES → (s : State) × IsShownIn s (first_view g)
first_shown g frame problem some_passes few_passes =
    let words : List ℕ = replicate (word_at g.problem.nodes 0) 0 in
    (_, shown_here g (opening words [] (first_view g)) 0 (first_view g) (opening_holds g words refl frame problem some_passes few_passes) refl refl)

-- the first card
pub first_card : (id : TableId) (g : Setting) (problem : Problem) (m : Me (Unit {0}) Seen) → m ≡ (first_view g, []) → g.problem ≡ problem → id.words ≡ word_at problem.nodes 0 → IsFrame g.frame → IsProblemOf g.frame g.problem → 1 ≤ g.limit → g.limit ≤ PASSES → IsCard id problem 0 0 m
first_card id g problem m is same words frame of some_passes few_passes =
    let shown = first_shown g frame of some_passes few_passes in
    subst (λ (x : Me (Unit {0}) Seen). IsCard id problem 0 0 x) (sym is) (record {
      none_held = refl;
      shown = shown;
      words = words ∙ ap (λ (p : Problem). word_at p.nodes 0) (sym same);
      problem_is = sym same;
      cursor_is = refl;
      latest_is = λ _. refl;
    })

-- In a state that shows the first seat, which may make a pass more.
module _ (s : State) (v : Seen) (i : IsShownIn s v) (first : v.pass.number ≡ 0) (room : v.pass.made < v.setting.limit) where
  -- its pass is the first
  first_pass : pass_at s 0 ≡ v.pass
  first_pass = ap (pass_at s) (sym first) ∙ i.pass

  -- it is live
  first_live : IsLive s 0
  first_live = subst (λ k. IsLive s k) first i.live

  -- a pass more may be made
  split_may : IsAllowedEvent s Split
  split_may = subst (λ (g : Setting). (pass_at s 0).made < g.limit) (sym i.setting) (subst (λ (p : Pass). p.made < v.setting.limit) (sym first_pass) room)

  -- so the state after it is sound
  split_sound : IsSound (state_after s Split)
  split_sound = allowed_events_keep_soundness s Split i.sound split_may

  -- how many were made
  made_is : v.pass.made ≡ length s.passes
  made_is = ap (λ (p : Pass). p.made) (sym first_pass) ∙ i.sound.passes.made

  -- the passes that were made before
  abbrev front : List Pass
  front = set s.passes 0 (record (pass_at s 0) { made = (pass_at s 0).made + 1 })

  -- there is a place for the first
  some_place : 0 < length s.passes
  some_place = within s.passes 0 first_live

  -- the first pass then
  made_pass : pass_at (state_after s Split) 0 ≡ (view_made v).pass
  made_pass =
      get_or_append_left front (new_pass (pass_at s 0).made ∷ []) spent 0 (let a = length-set s.passes 0 (record (pass_at s 0) { made = (pass_at s 0).made + 1 }) in let b = some_place in omega arith)
      ∙ get_or-set_same s.passes 0 (record (pass_at s 0) { made = (pass_at s 0).made + 1 }) spent some_place ∙ ap (λ (p : Pass). record p { made = p.made + 1 }) first_pass

  -- and the new one
  new_is : pass_at (state_after s Split) v.pass.made ≡ new_pass v.pass.made
  new_is =
      get_or_push front (new_pass (pass_at s 0).made) spent v.pass.made (length-set s.passes 0 (record (pass_at s 0) { made = (pass_at s 0).made + 1 }) ∙ sym made_is)
      ∙ ap (λ (p : Pass). new_pass p.made) first_pass

  -- the state after the split shows the first seat
  pub split_left : IsShownIn (state_after s Split) (view_made v)
  split_left = record {
    frame = i.frame;
    problem = i.problem;
    sound = split_sound;
    setting = i.setting;
    live = subst (λ k. IsLive (state_after s Split) k) (sym first) (subst (λ (p : Pass). IsTrue p.live) (sym made_pass) (subst (λ (p : Pass). IsTrue p.live) i.pass i.live));
    pass = ap (pass_at (state_after s Split)) first ∙ made_pass;
    found = i.found;
    given = i.given;
    known = i.known;
  }

  -- and the new one
  pub split_right : IsShownIn (state_after s Split) (view_new v)
  split_right = record {
    frame = i.frame;
    problem = i.problem;
    sound = split_sound;
    setting = i.setting;
    live = subst (λ (p : Pass). IsTrue p.live) (sym new_is) refl;
    pass = new_is;
    found = λ slot row has. absurd (let lt = has.1 in omega arith);
    given = told_there s v i;
    known = λ slot. refl;
  }
