-- What seats know stays so.
use Rattle.std.proofs.Common.{◌≡◌, ◌≢◌, ℕ, zero, suc, ◌<◌, ◌≤◌, ◌↔◌, IsTrue, List, [], ◌∷◌, set, slice_index, Some, Contains, refl, sym, ap, ◌∙◌, ⊎_elim, subst, length-set, le_trans}
use mathlib.Core.Option.{some, some-ne-none}
use lib.ListN.{get_elem?}
use Rattle.std.proofs.Math.Path.{fun_ext}
use Rattle.atomic_table.proofs.Lists.{at_set}
use Rattle.mr_frame.specs.Frame.{IsFrame}
use Rattle.mr_nogood.specs.declared.TheConstants.{ROW_WORDS}
use Rattle.mr_nogood.specs.declared.row.Row.{Row}
use Rattle.mr_nogood.specs.Follows.{Rows}
use Rattle.mr_exchange.specs.declared.ticket.Ticket.{Ticket}
use Rattle.mr_exchange.specs.State.{Pass, State, pass_at, slots_of, IsShort}
use Rattle.mr_exchange.specs.Sound.{IsSound}
use Rattle.mr_store.specs.Seats.{Setting, Seen, find, or_zero, word_at}
use Rattle.mr_store.specs.Shown.{shown, setting_of, rows_in_words, IsFound, IsOwnWord, IsTied, AreTied}
use Rattle.mr_store.proofs.Finding.{find_in}
use Rattle.mr_store.proofs.Words.{untouched, low_apart, other_word}
use Rattle.mr_store.proofs.Showing.{pass_there, own_known}

-- a list in which the seat stands has a place for it
pub set_there : {A : Type 0} (xs : List A) (id : ℕ) (x y : A) → get_elem? xs id ≡ some x → get_elem? (set xs id y) id ≡ some y
set_there [] id x y at = absurd (some-ne-none x (sym at))
set_there (z ∷ zs) zero x y at = refl
set_there (z ∷ zs) (suc id) x y at = set_there zs id x y at

-- what holds of the seat that changed and of all others
pub each_seat : (F : Seen → Type 0) (views : List Seen) (id : ℕ) (w : Seen) → F w → ((j : ℕ) (u : Seen) → j ≢ id → get_elem? views j ≡ some u → F u) → (j : ℕ) (u : Seen) → get_elem? (set views id w) j ≡ some u → F u
each_seat F views id w mine others j u e = ⊎_elim (λ (x : (j ≡ id) × (w ≡ u)). subst F x.1 mine) (λ (x : (j ≢ id) × (get_elem? views j ≡ some u)). others j u x.0 x.1) (at_set views id j w u e)

-- what a seat knows stays so where rows stay and the words of its own slots do
pub tied_kept : (s t : State) (words other : List ℕ) (u : Seen) → setting_of t ≡ setting_of s → ((slot : ℕ) (row : Row) → s.rows slot ≡ Some row → t.rows slot ≡ Some row)
    → ((slot j : ℕ) → Contains (slots_of u.pass.tickets) slot → 1 ≤ j → j < ROW_WORDS → slice_index other (word_at slot j) ≡ slice_index words (word_at slot j)) → IsTied s words u → IsTied t other u
tied_kept s t words other u same rows own h = record {
  setting = same ∙ h.setting;
  found = λ slot row e. rows slot row (h.found slot row e);
  given = λ slot row e. rows slot row (h.given slot row e);
  known = h.known;
  laid = λ slot j mine low high. own slot j mine low high ∙ h.laid slot j mine low high;
  own = h.own;
}

-- what a seat knows stays so where its pass changes in other things
pub tied_pass : (s t : State) (words other : List ℕ) (v : Seen) (p : Pass) → p.known ≡ v.pass.known → p.tickets ≡ v.pass.tickets → setting_of t ≡ setting_of s → ((slot : ℕ) (row : Row) → s.rows slot ≡ Some row → t.rows slot ≡ Some row)
    → ((slot j : ℕ) → slice_index other (word_at slot j) ≡ slice_index words (word_at slot j)) → IsTied s words v → IsTied t other (record v { pass = p })
tied_pass s t words other v p known tickets same rows words_are h = record {
  setting = same ∙ h.setting;
  found = λ slot row e. rows slot row (h.found slot row e);
  given = λ slot row e. rows slot row (h.given slot row e);
  known = λ slot. subst (λ (ks : List ℕ). Contains ks slot ↔ IsFound v.found p.tickets slot) (sym known) (subst (λ (ts : List Ticket). Contains v.pass.known slot ↔ IsFound v.found ts slot) (sym tickets) (h.known slot));
  laid = λ slot j mine low high. words_are slot j ∙ h.laid slot j (subst (λ (ts : List Ticket). Contains (slots_of ts) slot) tickets mine) low high;
  own = λ i n e. subst (λ (ts : List Ticket). IsOwnWord ts i) (sym tickets) (h.own i n e);
}

-- whatever number the seat found last
pub tied_word : (s : State) (words : List ℕ) (v : Seen) (n : ℕ) → IsTied s words v → IsTied s words (record v { last_word = n })
tied_word s words v n h = record { setting = h.setting; found = h.found; given = h.given; known = h.known; laid = h.laid; own = h.own }

-- what a seat knows is so, where it knows what it found that is short, and its own slots that have rows
pub tie : (g : Setting) (words : List ℕ) (views : List Seen) (id : ℕ) (w : Seen) → IsFrame g.frame → IsSound (shown g words views) → get_elem? views id ≡ some w → IsTrue w.pass.live → g ≡ w.setting
    → ((slot : ℕ) (row : Row) → Contains w.found (slot, row) → rows_in_words words slot ≡ Some row)
    → ((slot : ℕ) (row : Row) → Contains w.given (slot, row) → rows_in_words words slot ≡ Some row)
    → ((slot : ℕ) → Contains w.pass.known slot → IsFound w.found w.pass.tickets slot)
    → ((slot : ℕ) (row : Row) → find w.found slot ≡ Some row → IsShort row → Contains w.pass.known slot)
    → ((slot j : ℕ) → Contains (slots_of w.pass.tickets) slot → 1 ≤ j → j < ROW_WORDS → slice_index words (word_at slot j) ≡ or_zero (find w.laid (word_at slot j)))
    → ((i n : ℕ) → find w.laid i ≡ Some n → IsOwnWord w.pass.tickets i)
    → IsTied (shown g words views) words w
tie g words views id w frame sound at live same found given known short laid own = record {
  setting = same;
  found = found;
  given = given;
  known = λ slot. (known slot, λ (f : IsFound w.found w.pass.tickets slot). ⊎_elim (short slot f.row f.at) (λ (mine : Contains (slots_of w.pass.tickets) slot). own_there slot f.row mine (found slot f.row (find_in w.found slot f.row f.at))) f.why);
  laid = laid;
  own = own;
}
  where
    here : pass_at (shown g words views) id ≡ w.pass
    here = pass_there views id w at

    own_there : (slot : ℕ) (row : Row) → Contains (slots_of w.pass.tickets) slot → rows_in_words words slot ≡ Some row → Contains w.pass.known slot
    own_there slot row mine has = subst (λ (p : Pass). Contains p.known slot) here
        (own_known (shown g words views) id slot row frame sound (subst (λ (p : Pass). IsTrue p.live) (sym here) live) (subst (λ (p : Pass). Contains (slots_of p.tickets) slot) (sym here) mine) has)

module _ (words : List ℕ) (i n : ℕ) (low : i < 2) where
  -- a change of the claim word or the ticket word leaves the slots
  pub low_rows : rows_in_words (set words i n) ≡ rows_in_words words
  low_rows = fun_ext (λ slot. (untouched words i n slot (λ j lt. low_apart i slot j low)).0)

  -- and their words
  pub low_words : (slot j : ℕ) → slice_index (set words i n) (word_at slot j) ≡ slice_index words (word_at slot j)
  low_words slot j = other_word words i n slot j (low_apart i slot j low)

  -- what seats know stays so, where what the one that changed knows is so
  pub low_tied : (g : Setting) (views : List Seen) (id : ℕ) (w : Seen) → slice_index words 1 ≤ slice_index (set words i n) 1 → IsTied (shown g (set words i n) (set views id w)) (set words i n) w → AreTied g words views → AreTied g (set words i n) (set views id w)
  low_tied g views id w more mine h = record {
    size = length-set words i n ∙ h.size;
    each = each_seat (λ (u : Seen). IsTrue u.pass.live → IsTied (shown g (set words i n) (set views id w)) (set words i n) u) views id w (λ _. mine)
        (λ j u _ at live. tied_kept (shown g words views) (shown g (set words i n) (set views id w)) words (set words i n) u refl (λ slot row e. ap (λ (rows : Rows). rows slot) low_rows ∙ e) (λ slot k _ _ _. low_words slot k) (h.each j u at live));
    packed = λ slot row e. (let old = h.packed slot row (ap (λ (rows : Rows). rows slot) (sym low_rows) ∙ e) in (old.0, (untouched words i n slot (λ j lt. low_apart i slot j low)).1 ∙ old.1));
    undrawn = λ slot j past lt. low_words slot j ∙ h.undrawn slot j (le_trans more past) lt;
  }
