-- The claim word or the ticket word is raised by one.
use Rattle.std.proofs.Common.{◌≡◌, ◌≢◌, ℕ, zero, suc, ◌+◌, ◌%◌, ◌^◌, ◌<◌, ◌≤◌, List, set, slice_index, sym, ◌∙◌, subst, arith, get_or-set_same, get_or-set_other}
use Rattle.std.proofs.Math.Nat.{mod-eq_of_lt}
use Rattle.atomic_table.specs.Table as table
use Rattle.mr_exchange.specs.declared.event.Event.{Event}
use Rattle.mr_exchange.specs.Sound.{IsSound}
use Rattle.mr_exchange.proofs.OnePass.{words_are_small}
use Rattle.mr_exchange.proofs.Runs.{allowed_events_keep_soundness}
use Rattle.mr_exchange.proofs.Digits.{few_cubes}
use Rattle.mr_exchange.proofs.Bounds.{cubes_are, depth_is, nodes_are}
use Rattle.mr_store.specs.Seats.{Setting, Seen}
use Rattle.mr_store.specs.Shown.{shown, rows_in_words, IsTied, Holds}
use Rattle.mr_store.specs.Kinds.{IsStep}
use Rattle.mr_store.proofs.Tying.{low_rows, low_tied}

-- neither word wraps
words_fit : (g : Setting) (s : table.State (Unit {0}) Seen) → Holds g s → (slice_index s.words 0 + 1 < 2 ^ 64) × (slice_index s.words 1 + 1 < 2 ^ 64)
words_fit g s h =
    let small = words_are_small (shown g s.words s.views) h.sound in
    let claim = small.0 in
    let ticket = small.1 in
    let cubes = cubes_are g.frame g.problem h.problem in
    let few = few_cubes g.frame g.problem.depth (depth_is g.frame g.problem h.problem).0 in
    let nodes = nodes_are g.frame g.problem h.problem in
    let limit = h.limit in
    (omega arith, omega arith)

-- nor does one of the two
word_fits : (g : Setting) (s : table.State (Unit {0}) Seen) → Holds g s → (i : ℕ) → i < 2 → slice_index s.words i + 1 < 2 ^ 64
word_fits g s h zero low = (words_fit g s h).0
word_fits g s h (suc zero) low = (words_fit g s h).1
word_fits g s h (suc (suc i)) low = absurd (omega arith)

-- the words after one is added to word i
abbrev pub raised : List ℕ → ℕ → List ℕ
raised words i = set words i ((slice_index words i + 1) % 2 ^ 64)

module _ (g : Setting) (s : table.State (Unit {0}) Seen) (h : Holds g s) (i : ℕ) (low : i < 2) where
  -- that word is one more
  pub raised_word : slice_index s.words i + 1 ≡ slice_index (raised s.words i) i
  raised_word = sym (mod-eq_of_lt (word_fits g s h i low)) ∙ sym (get_or-set_same s.words i ((slice_index s.words i + 1) % 2 ^ 64) 0 (let size = h.tied.size in omega arith))

  -- each other word stays
  pub raised_other : (j : ℕ) → i ≢ j → slice_index s.words j ≡ slice_index (raised s.words i) j
  raised_other j other = sym (get_or-set_other s.words i j ((slice_index s.words i + 1) % 2 ^ 64) 0 (λ e. other (sym e)))

  -- and so do the rows
  pub raised_rows : rows_in_words s.words ≡ rows_in_words (raised s.words i)
  raised_rows = sym (low_rows s.words i ((slice_index s.words i + 1) % 2 ^ 64) low)

  -- where that is an event, the state that is shown is sound after it
  pub raised_sound : (views : List Seen) (e : Event) → IsStep g s.words s.views e (raised s.words i) views → IsSound (shown g (raised s.words i) views)
  raised_sound views e step = subst IsSound step.next (allowed_events_keep_soundness (shown g s.words s.views) e h.sound step.allowed)

  -- and the rule holds, where what the seat that made it knows is so
  pub raised_holds : (id : ℕ) (w : Seen) (e : Event) → IsStep g s.words s.views e (raised s.words i) (set s.views id w) → slice_index s.words 1 ≤ slice_index (raised s.words i) 1
      → IsTied (shown g (raised s.words i) (set s.views id w)) (raised s.words i) w → Holds g (record { words = raised s.words i; homes = s.homes; views = set s.views id w })
  raised_holds id w e step more mine = record {
    frame = h.frame;
    problem = h.problem;
    limit = h.limit;
    sound = raised_sound (set s.views id w) e step;
    tied = low_tied s.words i ((slice_index s.words i + 1) % 2 ^ 64) low g s.views id w more mine h.tied;
  }
