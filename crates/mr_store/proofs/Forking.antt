-- A seat is split off the first, and a seat is joined into it.
use Rattle.std.proofs.Common.{◌≡◌, ◌≢◌, ℕ, ◌+◌, ◌<◌, IsTrue, true≢false, List, [], ◌∷◌, ◌++◌, map, set, slice_index, Some, Contains, refl, sym, ap, ◌∙◌, inl, inr, ⊎_elim, subst, arith}
use mathlib.Core.Option.{some}
use lib.ListN.{get_elem?}
use Rattle.std.proofs.lemmas.Option.{none-some}
use Rattle.std.proofs.lemmas.List.{map-set, map-append}
use Rattle.std.proofs.lemmas.List.Elements.{Contains-append_left, Contains-append_right, Contains-append_cases}
use Rattle.atomic_table.specs.Table as table
use Rattle.atomic_table.specs.Table.{Splits, Joins}
use Rattle.atomic_table.proofs.Lists.{at_snoc, set_else}
use Rattle.mr_nogood.specs.declared.TheConstants.{ROW_WORDS}
use Rattle.mr_exchange.specs.declared.event.Event.TheVariants.{Split, Join}
use Rattle.mr_exchange.specs.State.{Pass, State, spent, new_pass, pass_at, slots_of}
use Rattle.mr_exchange.specs.Events.{MayJoin, IsAllowedEvent, joins, state_after}
use Rattle.mr_exchange.specs.Sound.{IsSound}
use Rattle.mr_exchange.proofs.Lookups.{slots_of-append}
use Rattle.mr_exchange.proofs.Runs.{allowed_events_keep_soundness}
use Rattle.mr_store.specs.Seats.{Setting, Seen, find, or_zero, word_at, view_made, view_new, view_joined, view_spent}
use Rattle.mr_store.specs.Shown.{shown, rows_in_words, IsFound, IsTied, Holds}
use Rattle.mr_store.specs.Kinds.{SplitsAreEvents, JoinsAreEvents}
use Rattle.mr_store.proofs.Finding.{find_in, find_append, find_left, find_right, option_cases, same_place}
use Rattle.mr_store.proofs.Showing.{pass_here, live_here, number_here, tied_here, setting_here}
use Rattle.mr_store.proofs.Tying.{set_there, each_seat, tied_kept, tie}

-- the first seat has the number 0
seat_zero : (g : Setting) (s : table.State (Unit {0}) Seen) (id : ℕ) (v : Seen) → Holds g s → get_elem? s.views id ≡ some v → IsTrue v.pass.live → v.pass.number ≡ 0 → id ≡ 0
seat_zero g s id v h at live first = sym (number_here g s id v h at live) ∙ first

-- no number stands in an empty list
pub none_in : {X : Type 0} (slot : ℕ) → Contains (slots_of []) slot → X
none_in slot has = absurd (let lt = has.1 in omega arith)

-- a split is one of the exchange
pub splits_are_events : SplitsAreEvents
splits_are_events g s v h at live room =
    let st : State = shown g s.words s.views in
    let here = pass_here g s 0 v h at live in
    let same : g ≡ v.setting = setting_here g s 0 v h at live in
    let p : Seen → Pass = λ u. u.pass in
    let views : List Seen = set s.views 0 (view_made v) ++ view_new v ∷ [] in
    let may : IsAllowedEvent st Split = subst (λ (x : Setting). (pass_at st 0).made < x.limit) (sym same) (subst (λ (q : Pass). q.made < v.setting.limit) (sym here) room) in
    let passes_are : set (map p s.views) 0 (record (pass_at st 0) { made = (pass_at st 0).made + 1 }) ++ new_pass (pass_at st 0).made ∷ [] ≡ map p views =
    ap (λ (q : Pass). set (map p s.views) 0 (record q { made = q.made + 1 }) ++ new_pass q.made ∷ []) here
    ∙ ap (λ l. l ++ new_pass v.pass.made ∷ []) (sym (map-set p s.views 0 (view_made v))) ∙ sym (map-append p (set s.views 0 (view_made v)) (view_new v ∷ [])) in
    let leads : state_after st Split ≡ shown g s.words views = λ k. record { frame = g.frame; problem = g.problem; limit = g.limit; claim = slice_index s.words 0; ticket = slice_index s.words 1; passes = passes_are k; rows = rows_in_words s.words } in
    record { allowed = may; next = leads }

-- a pass is split off
splits_first : (g : Setting) (s : table.State (Unit {0}) Seen) (v : Seen) → Holds g s → get_elem? s.views 0 ≡ some v → IsTrue v.pass.live → v.pass.made < v.setting.limit
    → Holds g (record { words = s.words; homes = s.homes; views = set s.views 0 (view_made v) ++ view_new v ∷ [] })
splits_first g s v h at live room =
    let st : State = shown g s.words s.views in
    let old = tied_here g s 0 v h at live in
    let views : List Seen = set s.views 0 (view_made v) ++ view_new v ∷ [] in
    let step = splits_are_events g s v h at live room in
    let may : IsAllowedEvent st Split = step.allowed in
    let leads : state_after st Split ≡ shown g s.words views = step.next in
    let F : Seen → Type 0 = λ u. IsTrue u.pass.live → IsTied (shown g s.words views) s.words u in
    let made : F (view_made v) = λ _. record { setting = old.setting; found = old.found; given = old.given; known = old.known; laid = old.laid; own = old.own } in
    let new : F (view_new v) = λ _. record {
      setting = old.setting;
      found = λ slot row has. absurd (let lt = has.1 in omega arith);
      given = λ slot row has. ⊎_elim (old.found slot row) (old.given slot row) (Contains-append_cases v.found v.given (slot, row) has);
      known = λ slot. ((λ has. none_in slot has), λ (f : IsFound [] [] slot). absurd (none-some f.row f.at));
      laid = λ slot j mine _ _. none_in slot mine;
      own = λ i n e. absurd (none-some n e);
    } in
    record {
      frame = h.frame;
      problem = h.problem;
      limit = h.limit;
      sound = subst IsSound leads (allowed_events_keep_soundness st Split h.sound may);
      tied = record {
        size = h.tied.size;
        each = λ j u e. ⊎_elim (λ (x : get_elem? (set s.views 0 (view_made v)) j ≡ some u).
            each_seat F s.views 0 (view_made v) made (λ k y _ there alive. tied_kept st (shown g s.words views) s.words s.words y refl (λ _ _ z. z) (λ _ _ _ _ _. refl) (h.tied.each k y there alive)) j u x)
            (λ (x : view_new v ≡ u). subst F x new) (at_snoc (set s.views 0 (view_made v)) (view_new v) u j e);
        packed = h.tied.packed;
        undrawn = h.tied.undrawn;
      };
    }

-- a split of a seat
pub splits : (g : Setting) (id : ℕ) (v : Seen) → IsTrue v.pass.live → v.pass.number ≡ 0 → v.pass.made < v.setting.limit → Splits (Holds g) id v (view_made v) (view_new v)
splits g id v live first room s h at =
    let e : id ≡ 0 = seat_zero g s id v h at live first in
    subst (λ i. Holds g (record { words = s.words; homes = s.homes; views = set s.views i (view_made v) ++ view_new v ∷ [] })) (sym e) (splits_first g s v h (subst (λ i. get_elem? s.views i ≡ some v) e at) live room)

-- Two live seats, the first and another.
module _ (g : Setting) (s : table.State (Unit {0}) Seen) (v : Seen) (k : ℕ) (w : Seen) (h : Holds g s) (at : get_elem? s.views 0 ≡ some v) (live : IsTrue v.pass.live) (other : k ≢ 0) (there : get_elem? s.views k ≡ some w) (alive : IsTrue w.pass.live) where
  -- the state that is shown
  abbrev st : State
  st = shown g s.words s.views

  -- what the first knows then
  abbrev both : Seen
  both = view_joined v w

  -- what all seats know then
  abbrev views : List Seen
  views = set (set s.views 0 both) k view_spent

  -- what the first knows is so
  a : IsTied st s.words v
  a = tied_here g s 0 v h at live

  -- what the other knows is so
  b : IsTied st s.words w
  b = tied_here g s k w h there alive

  -- the other's pass
  pub join_may : MayJoin st k
  join_may = record { live = live_here g s k w h there alive; other = other }

  -- the state is the one after the join
  pub join_leads : state_after st (Join k) ≡ shown g s.words views
  join_leads =
      let p : Seen → Pass = λ u. u.pass in
      let passes_are : set (set (map p s.views) 0 (joins (pass_at st 0) (pass_at st k))) k spent ≡ map p views =
      ap (λ (x : Pass). set (set (map p s.views) 0 (joins x (pass_at st k))) k spent) (pass_here g s 0 v h at live)
      ∙ ap (λ (x : Pass). set (set (map p s.views) 0 (joins v.pass x)) k spent) (pass_here g s k w h there alive)
      ∙ ap (λ l. set l k spent) (sym (map-set p s.views 0 both)) ∙ sym (map-set p (set s.views 0 both) k view_spent) in
      λ i. record { frame = g.frame; problem = g.problem; limit = g.limit; claim = slice_index s.words 0; ticket = slice_index s.words 1; passes = passes_are i; rows = rows_in_words s.words }

  -- the seat that takes in the other stands at its place
  pub joined_there : get_elem? views 0 ≡ some both
  joined_there = set_else (set s.views 0 both) k 0 view_spent (λ e. other (sym e)) ∙ set_there s.views 0 v both at

  -- the slots of both
  slots_both : slots_of (v.pass.tickets ++ w.pass.tickets) ≡ slots_of v.pass.tickets ++ slots_of w.pass.tickets
  slots_both = slots_of-append v.pass.tickets w.pass.tickets

  -- a slot of the first's own is its own then
  left_own : (slot : ℕ) → Contains (slots_of v.pass.tickets) slot → Contains (slots_of both.pass.tickets) slot
  left_own slot own = subst (λ xs. Contains xs slot) (sym slots_both) (Contains-append_left (slots_of v.pass.tickets) (slots_of w.pass.tickets) slot own)

  -- and so is one of the other's
  right_own : (slot : ℕ) → Contains (slots_of w.pass.tickets) slot → Contains (slots_of both.pass.tickets) slot
  right_own slot own = subst (λ xs. Contains xs slot) (sym slots_both) (Contains-append_right (slots_of v.pass.tickets) (slots_of w.pass.tickets) slot own)

  -- no slot is in both
  not_both : (slot : ℕ) → Contains (slots_of v.pass.tickets) slot → Contains (slots_of w.pass.tickets) slot → ⊥
  not_both slot one two = other (sym (h.sound.tickets.one 0 k slot (live_here g s 0 v h at live) (live_here g s k w h there alive)
      (subst (λ (p : Pass). Contains (slots_of p.tickets) slot) (sym (pass_here g s 0 v h at live)) one) (subst (λ (p : Pass). Contains (slots_of p.tickets) slot) (sym (pass_here g s k w h there alive)) two)))

  -- what one of the two found was found
  left_found : (slot : ℕ) → IsFound v.found v.pass.tickets slot → IsFound both.found both.pass.tickets slot
  left_found slot f = record { row = f.row; at = find_left v.found w.found slot f.row f.at; why = ⊎_elim (λ short. inl short) (λ own. inr (left_own slot own)) f.why }

  -- and so is what the other found
  right_found : (slot : ℕ) → IsFound w.found w.pass.tickets slot → IsFound both.found both.pass.tickets slot
  right_found slot f = record { row = f.row; at = at_right; why = ⊎_elim (λ short. inl short) (λ own. inr (right_own slot own)) f.why }
    where
      at_right : find (v.found ++ w.found) slot ≡ Some f.row
      at_right = option_cases (find v.found slot) (find (v.found ++ w.found) slot ≡ Some f.row) (λ none. find_right v.found w.found slot none ∙ f.at)
          (λ row e. find_left v.found w.found slot row e ∙ (sym (a.found slot row (find_in v.found slot row e)) ∙ b.found slot f.row (find_in w.found slot f.row f.at)))

  -- words of slots of the other's own were not stored by the first
  laid_right : (slot j : ℕ) → Contains (slots_of w.pass.tickets) slot → j < ROW_WORDS → find (v.laid ++ w.laid) (word_at slot j) ≡ find w.laid (word_at slot j)
  laid_right slot j own lt = option_cases (find v.laid (word_at slot j)) (find (v.laid ++ w.laid) (word_at slot j) ≡ find w.laid (word_at slot j)) (λ none. find_right v.laid w.laid (word_at slot j) none)
      (λ n e. (let o = a.own (word_at slot j) n e in let high = o.behind.1 in let same = (same_place slot o.slot j o.j lt high o.at).0 in absurd (not_both o.slot o.own (subst (λ x. Contains (slots_of w.pass.tickets) x) same own))))

  -- and those of the first's own not by the other
  laid_left : (slot j : ℕ) → Contains (slots_of v.pass.tickets) slot → j < ROW_WORDS → or_zero (find (v.laid ++ w.laid) (word_at slot j)) ≡ or_zero (find v.laid (word_at slot j))
  laid_left slot j own lt = option_cases (find v.laid (word_at slot j)) (or_zero (find (v.laid ++ w.laid) (word_at slot j)) ≡ or_zero (find v.laid (word_at slot j)))
      (λ none. option_cases (find w.laid (word_at slot j)) (or_zero (find (v.laid ++ w.laid) (word_at slot j)) ≡ or_zero (find v.laid (word_at slot j))) (λ empty. ap or_zero (find_right v.laid w.laid (word_at slot j) none ∙ empty ∙ sym none))
      (λ n e. (let o = b.own (word_at slot j) n e in let high = o.behind.1 in let same = (same_place slot o.slot j o.j lt high o.at).0 in absurd (not_both o.slot (subst (λ x. Contains (slots_of v.pass.tickets) x) same own) o.own))))
      (λ n e. ap or_zero (find_left v.laid w.laid (word_at slot j) n e ∙ sym e))

  -- what both know is so
  pub joined_tied : IsSound (shown g s.words views) → IsTied (shown g s.words views) s.words both
  joined_tied sound = tie g s.words views 0 both h.frame sound joined_there live (setting_here g s 0 v h at live)
      (λ slot row has. ⊎_elim (a.found slot row) (b.found slot row) (Contains-append_cases v.found w.found (slot, row) has))
      (λ slot row has. ⊎_elim (a.given slot row) (b.given slot row) (Contains-append_cases v.given w.given (slot, row) has))
      (λ slot knows. ⊎_elim (λ (x : Contains v.pass.known slot). left_found slot ((a.known slot).0 x)) (λ (x : Contains w.pass.known slot). right_found slot ((b.known slot).0 x)) (Contains-append_cases v.pass.known w.pass.known slot knows))
      (λ slot row e short. ⊎_elim (λ (x : find v.found slot ≡ Some row). Contains-append_left v.pass.known w.pass.known slot ((a.known slot).1 (record { row = row; at = x; why = inl short })))
      (λ (x : find w.found slot ≡ Some row). Contains-append_right v.pass.known w.pass.known slot ((b.known slot).1 (record { row = row; at = x; why = inl short }))) (find_append v.found w.found slot row e))
      (λ slot j mine low high. ⊎_elim (λ (x : Contains (slots_of v.pass.tickets) slot). a.laid slot j x low high ∙ sym (laid_left slot j x high))
      (λ (x : Contains (slots_of w.pass.tickets) slot). b.laid slot j x low high ∙ ap or_zero (sym (laid_right slot j x high))) (Contains-append_cases (slots_of v.pass.tickets) (slots_of w.pass.tickets) slot (subst (λ xs. Contains xs slot) slots_both mine)))
      (λ i n e. ⊎_elim (λ (x : find v.laid i ≡ Some n). (let o = a.own i n x in record { slot = o.slot; j = o.j; at = o.at; behind = o.behind; own = left_own o.slot o.own }))
      (λ (x : find w.laid i ≡ Some n). (let o = b.own i n x in record { slot = o.slot; j = o.j; at = o.at; behind = o.behind; own = right_own o.slot o.own })) (find_append v.laid w.laid i n e))

  -- the rule after the join
  pub joins_first : Holds g (record { words = s.words; homes = s.homes; views = views })
  joins_first =
      let sound : IsSound (shown g s.words views) = subst IsSound join_leads (allowed_events_keep_soundness st (Join k) h.sound join_may) in
      let F : Seen → Type 0 = λ u. IsTrue u.pass.live → IsTied (shown g s.words views) s.words u in
      record {
        frame = h.frame;
        problem = h.problem;
        limit = h.limit;
        sound = sound;
        tied = record {
          size = h.tied.size;
          each = each_seat F (set s.views 0 both) k view_spent (λ dead. absurd (true≢false (sym dead)))
              (λ j u _ e. each_seat F s.views 0 both (λ _. joined_tied sound) (λ i y _ here lives. tied_kept st (shown g s.words views) s.words s.words y refl (λ _ _ z. z) (λ _ _ _ _ _. refl) (h.tied.each i y here lives)) j u e);
          packed = h.tied.packed;
          undrawn = h.tied.undrawn;
        };
      }

-- a join of a seat
pub merges : (g : Setting) (id k : ℕ) (v w : Seen) → IsTrue v.pass.live → v.pass.number ≡ 0 → IsTrue w.pass.live → Joins (Holds g) id v k w (view_joined v w) view_spent
merges g id k v w live first alive s h at apart there =
    let e : id ≡ 0 = seat_zero g s id v h at live first in
    let other : k ≢ 0 = λ z. apart (z ∙ sym e) in
    let was : get_elem? s.views k ≡ some w = sym (set_else s.views id k (view_joined v w) apart) ∙ there in
    subst (λ i. Holds g (record { words = s.words; homes = s.homes; views = set (set s.views i (view_joined v w)) k view_spent })) (sym e) (joins_first g s v k w h (subst (λ i. get_elem? s.views i ≡ some v) e at) live other was alive)

-- a join is one of the exchange
pub joins_are_events : JoinsAreEvents
joins_are_events g s v k w h at live other there alive = record { allowed = join_may g s v k w h at live other there alive; next = join_leads g s v k w h at live other there alive }
