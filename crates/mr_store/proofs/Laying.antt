-- A pass stores a word in a slot of its own.
use Rattle.std.proofs.Common.{◌≡◌, ◌≢◌, ℕ, ◌<◌, ◌≤◌, if◌then◌else◌, IsTrue, List, map, length, set, slice_index, Some, None, Contains, refl, sym, ap, ◌∙◌, ⊎_elim, subst, arith, length-set, get_or-set_same, get_or-set_other}
use mathlib.Core.Option.{some}
use mathlib.Core.Option as plain
use lib.ListN.{get_elem?}
use native.Mathlib.Decide.{ℕ_discrete}
use Rattle.std.proofs.Math.Path.{fun_ext}
use Rattle.std.proofs.lemmas.Option.{none-some}
use Rattle.atomic_table.specs.Table as table
use Rattle.atomic_table.specs.Table.{Me, Allows, step}
use Rattle.atomic_table.specs.Table.Act.{keeps}
use Rattle.atomic_table.proofs.Lists.{set_again}
use Rattle.mr_nogood.specs.declared.TheConstants.{ROW_WORDS}
use Rattle.mr_nogood.specs.declared.row.Row.{Row}
use Rattle.mr_nogood.specs.Row.{IsRow}
use Rattle.mr_nogood.specs.Follows.{Rows}
use Rattle.mr_nogood.specs.Packing.{row_packing}
use Rattle.mr_exchange.specs.State.{Pass, State, slots_of}
use Rattle.mr_exchange.specs.Sound.{IsSound}
use Rattle.mr_exchange.proofs.Totals.{eq_cases}
use Rattle.mr_exchange.proofs.Holdings.{own_empty}
use Rattle.mr_store.specs.Seats.{Setting, Seen, find, or_zero, word_at, known_of, view_laid}
use Rattle.mr_store.specs.Shown.{shown, slot_words, rows_in_words, IsTied, AreTied, Holds}
use Rattle.mr_store.specs.Steps.{Lays}
use Rattle.mr_store.specs.Kinds.{StoresLeaveTheState}
use Rattle.mr_store.proofs.Finding.{find_cases, same_place}
use Rattle.mr_store.proofs.Words.{rows_of-none, head_none, untouched, other_word}
use Rattle.mr_store.proofs.Showing.{passes_set, pass_here, live_here, tied_here, facts_here, shown_here, known_found}
use Rattle.mr_store.proofs.Tying.{set_there, each_seat, tied_kept}

-- A slot of a live seat's own, in which it knows no row. One word of it changes.
module _ (g : Setting) (s : table.State (Unit {0}) Seen) (id : ℕ) (v : Seen) (h : Holds g s) (at : get_elem? s.views id ≡ some v) (live : IsTrue v.pass.live)
    (slot : ℕ) (own : Contains (slots_of v.pass.tickets) slot) (unknown : known_of v slot ≡ None) (j : ℕ) (lt : j < ROW_WORDS) (n : ℕ) where
  -- the state that is shown
  abbrev st : State
  st = shown g s.words s.views

  -- the place of the word
  abbrev i : ℕ
  i = word_at slot j

  -- the words after the step
  abbrev words : List ℕ
  words = set s.words i n

  -- it has no row
  pub empty : rows_in_words s.words slot ≡ None
  empty = own_empty st v.pass slot (facts_here g s id v h at live) own (known_found st s.words v (tied_here g s id v h at live) slot ∙ unknown)

  -- it was drawn
  pub drawn : (slot < slice_index s.words 1) × (slot < g.problem.nodes)
  drawn = let low = (facts_here g s id v h at live).tickets slot own in (omega arith, omega arith)

  -- there is such a word
  pub there : i < length s.words
  there = let low = drawn.1 in let size = h.tied.size in omega arith

  -- it is in no other seat's slot
  pub apart : (k : ℕ) (u : Seen) → k ≢ id → get_elem? s.views k ≡ some u → IsTrue u.pass.live → (t : ℕ) → Contains (slots_of u.pass.tickets) t → t ≢ slot
  apart k u d there_ alive t theirs e = d (h.sound.tickets.one k id slot (live_here g s k u h there_ alive) (live_here g s id v h at live)
      (subst (λ (p : Pass). Contains (slots_of p.tickets) slot) (sym (pass_here g s k u h there_ alive)) (subst (λ x. Contains (slots_of u.pass.tickets) x) e theirs))
      (subst (λ (p : Pass). Contains (slots_of p.tickets) slot) (sym (pass_here g s id v h at live)) own))

  -- the other slots are as before
  pub elsewhere : (t : ℕ) → t ≢ slot → (rows_in_words words t ≡ rows_in_words s.words t) × (slot_words words t ≡ slot_words s.words t)
  elsewhere t d = untouched s.words i n t (λ k low e. d (sym (same_place slot t j k lt low e).0))

  -- and so are their words
  pub word_elsewhere : (t k : ℕ) → k < ROW_WORDS → t ≢ slot → slice_index words (word_at t k) ≡ slice_index s.words (word_at t k)
  word_elsewhere t k low d = other_word s.words i n t k (λ e. d (sym (same_place slot t j k lt low e).0))

  -- and the first two
  pub claim_same : slice_index s.words 0 ≡ slice_index words 0
  claim_same = sym (get_or-set_other s.words i 0 n 0 (λ e. omega arith))

  -- the ticket word is as before
  pub ticket_same : slice_index s.words 1 ≡ slice_index words 1
  ticket_same = sym (get_or-set_other s.words i 1 n 0 (λ e. omega arith))

  -- what the seats know stays so, where rows stay, the slot's row is packed, and what this one knows is so
  pub stored_tied : (w : Seen) → ((t : ℕ) (row : Row) → rows_in_words s.words t ≡ Some row → rows_in_words words t ≡ Some row) → ((row : Row) → rows_in_words words slot ≡ Some row → IsRow row × (slot_words words slot ≡ row_packing row))
      → IsTied (shown g words (set s.views id w)) words w → AreTied g words (set s.views id w)
  stored_tied w rows packs mine = record {
    size = length-set s.words i n ∙ h.tied.size;
    each = each_seat (λ (u : Seen). IsTrue u.pass.live → IsTied (shown g words (set s.views id w)) words u) s.views id w (λ _. mine)
        (λ k u d at_ alive. tied_kept st (shown g words (set s.views id w)) s.words words u refl rows (λ t l theirs _ low. word_elsewhere t l low (apart k u d at_ alive t theirs)) (h.tied.each k u at_ alive));
    packed = λ t row e. packs_at t row e (ℕ_discrete t slot);
    undrawn = λ t k past low. (let lowest = drawn.0 in let same = ticket_same in word_elsewhere t k low (λ e. omega arith) ∙ h.tied.undrawn t k (omega arith) low);
  }
    where
      packs_at : (t : ℕ) (row : Row) → rows_in_words words t ≡ Some row → Dec (t ≡ slot) → IsRow row × (slot_words words t ≡ row_packing row)
      packs_at t row e (yes d) = subst (λ x. IsRow row × (slot_words words x ≡ row_packing row)) (sym d) (packs row (ap (rows_in_words words) (sym d) ∙ e))
      packs_at t row e (no d) = (let other = elsewhere t d in let old = h.tied.packed t row (sym other.0 ∙ e) in (old.0, other.1 ∙ old.1))

  -- a word behind the head leaves the rows
  pub laid_rows : 1 ≤ j → rows_in_words words ≡ rows_in_words s.words
  laid_rows behind = fun_ext (λ t. same_row t (ℕ_discrete t slot))
    where
      same_row : (t : ℕ) → Dec (t ≡ slot) → rows_in_words words t ≡ rows_in_words s.words t
      same_row t (no d) = (elsewhere t d).0
      same_row t (yes d) = subst (λ x. rows_in_words words x ≡ rows_in_words s.words x) (sym d) (rows_of-none words slot (other_word s.words i n slot 0 (λ e. let z = (same_place slot slot j 0 lt (omega arith) e).1 in omega arith) ∙ head_none s.words slot empty) ∙ sym empty)

  -- the shown state is the same
  pub laid_shown : 1 ≤ j → st ≡ shown g words (set s.views id (view_laid i n v))
  laid_shown behind =
      let rows = sym (laid_rows behind) in
      let passes : map (λ (u : Seen). u.pass) s.views ≡ map (λ (u : Seen). u.pass) (set s.views id (view_laid i n v)) = again s.views id at in
      λ k. record { frame = g.frame; problem = g.problem; limit = g.limit; claim = claim_same k; ticket = ticket_same k; passes = passes k; rows = rows k }
    where
      again : (views : List Seen) (k : ℕ) → get_elem? views k ≡ some v → map (λ (u : Seen). u.pass) views ≡ map (λ (u : Seen). u.pass) (set views k (view_laid i n v))
      again views k e = ap (λ (xs : List Seen). map (λ (u : Seen). u.pass) xs) (sym (set_again views k v e)) ∙ (sym (passes_set views k v v.pass refl)) ∙ passes_set views k (view_laid i n v) v.pass refl

  -- what the seat knows then
  pub laid_tied : 1 ≤ j → IsTied (shown g words (set s.views id (view_laid i n v))) words (view_laid i n v)
  laid_tied behind = let old = tied_here g s id v h at live in record {
    setting = old.setting;
    found = λ t row e. ap (λ (rows : Rows). rows t) (laid_rows behind) ∙ old.found t row e;
    given = λ t row e. ap (λ (rows : Rows). rows t) (laid_rows behind) ∙ old.given t row e;
    known = old.known;
    laid = λ t k mine low high. eq_cases i (word_at t k) (λ b. slice_index words (word_at t k) ≡ or_zero (if b then Some n else find v.laid (word_at t k)))
        (λ e. ap (λ x. slice_index words x) (sym e) ∙ get_or-set_same s.words i n 0 there)
        (λ d. other_word s.words i n t k d ∙ old.laid t k mine low high);
    own = λ x m e. ⊎_elim (λ (a : (i ≡ x) × (n ≡ m)). record { slot = slot; j = j; at = sym a.0; behind = (behind, lt); own = own }) (λ (a : (i ≢ x) × (find v.laid x ≡ Some m)). old.own x m a.1) (find_cases i x n m v.laid e);
  }

-- a store of a word behind a head
pub lays : (g : Setting) (slots id : ℕ) (m : Me (Unit {0}) Seen) (slot j n : ℕ) → IsTrue m.0.pass.live → Contains (slots_of m.0.pass.tickets) slot → known_of m.0 slot ≡ None → 1 ≤ j → j < ROW_WORDS
    → Allows (Holds g) slots id m (word_at slot j) (λ _. n) (λ _. Lays (step slots (word_at slot j) n 0 plain.none) m n)
lays g slots id m slot j n live own unknown behind lt s h homes at fits =
    let v : Seen = m.0 in
    let i : ℕ = word_at slot j in
    let w : Seen = view_laid i n v in
    let words : List ℕ = set s.words i n in
    let rows = laid_rows g s id v h at live slot own unknown j lt n behind in
    let t : table.State (Unit {0}) Seen = record { words = words; homes = s.homes; views = set s.views id w } in
    let free = empty g s id v h at live slot own unknown j lt n in
    let rule : Holds g t = record {
      frame = h.frame;
      problem = h.problem;
      limit = h.limit;
      sound = subst IsSound (laid_shown g s id v h at live slot own unknown j lt n behind) h.sound;
      tied = stored_tied g s id v h at live slot own unknown j lt n w (λ x row e. ap (λ (r : Rows). r x) rows ∙ e) (λ row e. absurd (none-some row (sym free ∙ ap (λ (r : Rows). r slot) (sym rows) ∙ e)))
          (laid_tied g s id v h at live slot own unknown j lt n behind);
    } in
    (w, keeps, tt, rule, record { is = refl; shown = (shown g words (set s.views id w), shown_here g t id w rule (set_there s.views id v w at) live) })

-- such a store leaves the state that is shown
pub stores_leave_the_state : StoresLeaveTheState
stores_leave_the_state g s id v slot j n h at live own unknown behind lt = laid_shown g s id v h at live slot own unknown j lt n behind
