-- What the first pass reads where each other pass was joined into it.
use Rattle.std.proofs.Common.{◌≡◌, ◌≢◌, ℕ, ◌+◌, ◌<◌, ◌≤◌, min, IsTrue, IsSome, List, length, length-set, set, slice_index, Option, Some, None, refl, sym, ap, ◌∙◌, ⊎_elim, subst, arith, inl, inr}
use mathlib.Core.Option.{some}
use mathlib.Core.Option as plain
use Rattle.std.proofs.lemmas.Bool.{cases_eq, cases_lt}
use Rattle.atomic_table.specs.Table.{Me, Allows, step}
use Rattle.atomic_table.specs.Table.Act.{keeps}
use Rattle.atomic_table.specs.Seated.{TableId}
use Rattle.mr_frame.specs.Frame.{Framed}
use Rattle.mr_nogood.specs.declared.row.Row.{Row}
use Rattle.mr_nogood.specs.Row.{IsRow}
use Rattle.mr_nogood.specs.Follows.{in_slots}
use Rattle.mr_exchange.specs.declared.problem.Problem.{Problem}
use Rattle.mr_exchange.specs.Cubes.{IsProblemOf}
use Rattle.mr_exchange.specs.State.{State, head_at, known_rows}
use Rattle.mr_exchange.specs.Facts.{PassFacts, IsWhole}
use Rattle.mr_exchange.specs.Closed.{closed_is, IsShown}
use Rattle.mr_exchange.proofs.Holding.{in_slots_here, in_slots_else}
use Rattle.mr_exchange.proofs.OnePass.{passes_have_facts}
use Rattle.mr_exchange.proofs.Holdings.{known_there, unknown_empty}
use Rattle.mr_store.specs.Seats.{Setting, Seen, find, known_of}
use Rattle.mr_store.specs.Shown.{shown, Holds}
use Rattle.mr_store.specs.Steps.{IsShownIn, HasAll, Peeks}
use Rattle.mr_store.specs.Private.Laying.{HasRow, AreRows, with_found}
use Rattle.mr_store.specs.Private.Cards.{IsCard}
use Rattle.mr_store.proofs.Finding.{find_in, known_found_row}
use Rattle.mr_store.proofs.Words.{head_at-rows_of}
use Rattle.mr_store.proofs.Showing.{tied_here, setting_here, shown_here}
use Rattle.mr_store.proofs.Looking.{unchanged}

-- In a sound state that shows the seat of a pass that has all.
module _ (s : State) (v : Seen) (i : IsShownIn s v) (h : HasAll v) where
  -- what holds of its pass
  facts : PassFacts s v.pass
  facts = subst (PassFacts s) i.pass (passes_have_facts s v.pass.number i.frame i.sound i.live)

  -- it has the whole
  pub whole : IsWhole s v.pass
  whole = facts.whole h.first h.all

  -- it knows all the rows
  pub knows_all : (slot : ℕ) → s.rows slot ≡ known_of v slot
  knows_all slot = read (s.rows slot) refl ∙ i.known slot
    where
      read : (o : Option Row) → s.rows slot ≡ o → s.rows slot ≡ known_rows s v.pass slot
      read None e = e ∙ sym (unknown_empty s v.pass slot e)
      read (Some row) e = sym (known_there s v.pass slot ((whole.rows slot).0 (subst IsSome (sym e) refl)))

  -- a slot past the tickets that were drawn has no row
  pub none_past : (slot : ℕ) → length v.pass.tickets ≤ slot → s.rows slot ≡ None
  none_past slot past = read (s.rows slot) refl
    where
      read : (o : Option Row) → s.rows slot ≡ o → s.rows slot ≡ None
      read None e = e
      read (Some row) e = absurd (let low = facts.drawn slot ((whole.rows slot).0 (subst IsSome (sym e) refl)) in let count = whole.opened in omega arith)

-- a load by the seat of such a pass
pub peeks : (g : Setting) (slots id i : ℕ) (m : Me (Unit {0}) Seen) → IsTrue m.0.pass.live → Allows (Holds g) slots id m i (λ n. n) (Peeks (step slots i 0 0 plain.none) m)
peeks g slots id i m live s h homes at fits =
    let v : Seen = m.0 in
    let st : State = shown g s.words s.views in
    let same : g ≡ v.setting = setting_here g s id v h at live in
    let shows : IsShownIn st v = shown_here g s id v h at live in (
      v,
      keeps,
      tt,
      subst (Holds g) (unchanged s i id v at) h,
      record {
        is = refl;
        good = λ slot row found. (h.tied.packed slot row ((tied_here g s id v h at live).found slot row (find_in v.found slot row found))).0;
        claimed = λ all place. (whole st v shows all).claimed ∙ ap (λ k. min (slice_index s.words k) g.problem.cubes) (sym place) ∙ ap (λ (x : Setting). min (slice_index s.words i) x.problem.cubes) same;
        opened = λ all place. (whole st v shows all).opened ∙ ap (λ k. min (slice_index s.words k) g.problem.nodes) (sym place) ∙ ap (λ (x : Setting). min (slice_index s.words i) x.problem.nodes) same;
        head = λ all slot place. ap (λ k. slice_index s.words k) place ∙ sym (head_at-rows_of s.words slot (λ row e. (h.tied.packed slot row e).1)) ∙ ap head_at (knows_all st v shows all slot);
      },
    )

-- where the head isn't 0 a row is known
pub peek_has : (v w : Seen) (slot head : ℕ) → w ≡ v → head ≡ head_at (known_of v slot) → head ≢ 0 → ((row : Row) → find v.found slot ≡ Some row → IsRow row) → HasRow w slot head
peek_has v w slot head same is some_row good = subst (λ (x : Seen). HasRow x slot head) (sym same) (read (known_of v slot) refl)
  where
    read : (o : Option Row) → known_of v slot ≡ o → HasRow v slot head
    read None e = absurd (some_row (is ∙ ap head_at e))
    read (Some row) e = (let found = known_found_row v slot row e in record { row = row; at = found; good = good row found; head_is = is ∙ ap head_at e })

-- the row of one slot more is read
pub rows_more : (v : Seen) (slots n : ℕ) (rows new : List (Option Row)) → AreRows v slots n rows → n < slots → new ≡ with_found n (known_of v n) rows → AreRows v slots (n + 1) new
rows_more v slots n rows new h lt is = subst (AreRows v slots (n + 1)) (sym is) (read (known_of v n) refl)
  where
    size : length rows ≡ slots
    size = h.size

    read : (o : Option Row) → known_of v n ≡ o → AreRows v slots (n + 1) (with_found n o rows)
    read None e = record {
      size = size;
      each = λ slot low. elim (cases_eq slot n) as (λ _. in_slots rows slot ≡ known_of v slot) [
        | inl same ↦ ap (in_slots rows) same ∙ h.others n (omega arith) ∙ sym e ∙ ap (known_of v) (sym same)
        | inr other ↦ h.each slot (omega arith)
      ];
      others = λ slot past. h.others slot (omega arith);
    }
    read (Some row) e = record {
      size = length-set rows n (Some row) ∙ size;
      each = λ slot low. elim (cases_eq slot n) as (λ _. in_slots (set rows n (Some row)) slot ≡ known_of v slot) [
        | inl same ↦ ap (in_slots (set rows n (Some row))) same ∙ in_slots_here rows n (Some row) (omega arith) ∙ sym e ∙ ap (known_of v) (sym same)
        | inr other ↦ in_slots_else rows n slot (Some row) other ∙ h.each slot (omega arith)
      ];
      others = λ slot past. in_slots_else rows n slot (Some row) (λ same. omega arith) ∙ h.others slot (omega arith);
    }

-- the list has the rows of all slots for which a ticket was drawn
abbrev pub HasAllRows : Seen → List (Option Row) → Type 0
HasAllRows v rows = AreRows v v.setting.problem.nodes (length v.pass.tickets) rows

-- that is what was read in the end
pub all_read : (v w : Seen) (slots n : ℕ) (rows : List (Option Row)) → AreRows w slots n rows → w ≡ v → slots ≡ v.setting.problem.nodes → n ≡ length v.pass.tickets → HasAllRows v rows
all_read v w slots n rows h same wide drawn =
    subst (λ (x : Seen). AreRows x v.setting.problem.nodes (length v.pass.tickets) rows) same
    (subst (λ k. AreRows w k (length v.pass.tickets) rows) wide (subst (λ k. AreRows w slots k rows) drawn h))

-- it has all the rows
pub all_rows : (v : Seen) (s : State) (rows : List (Option Row)) → IsShownIn s v → HasAll v → HasAllRows v rows → (slot : ℕ) → s.rows slot ≡ in_slots rows slot
all_rows v s rows i h are slot = ⊎_elim
    (λ (lt : slot < length v.pass.tickets). knows_all s v i h slot ∙ sym (are.each slot lt))
    (λ (past : length v.pass.tickets ≤ slot). none_past s v i h slot past ∙ sym (are.others slot past))
    (cases_lt slot (length v.pass.tickets))

-- what is shown when a store is closed
pub closed_shown : (id : TableId) (problem : Problem) (cursor latest : ℕ) (m : Me (Unit {0}) Seen) (f : Framed) (opened claimed : ℕ) (rows : List (Option Row)) → IsCard id problem cursor latest m → HasAll m.0 → m.0.setting.frame ≡ f → HasAllRows m.0 rows
    → opened ≡ length m.0.pass.tickets → claimed ≡ length m.0.pass.cubes → IsShown (closed_is f problem opened claimed rows)
closed_shown id problem cursor latest m f opened claimed rows c h frame are opened_is claimed_is =
    let v : Seen = m.0 in
    let s : State = c.shown.0 in
    let i : IsShownIn s v = c.shown.1 in
    let frame_is : s.frame ≡ f = ap (λ (g : Setting). g.frame) i.setting ∙ frame in
    let problem_is : s.problem ≡ problem = ap (λ (g : Setting). g.problem) i.setting ∙ sym c.problem_is in
    let w = whole s v i h in record {
      possible = subst (λ x. IsProblemOf x problem) frame_is (subst (λ (p : Problem). IsProblemOf s.frame p) problem_is i.problem);
      state = s;
      frame = frame_is;
      problem = problem_is;
      sound = i.sound;
      size = are.size ∙ ap (λ (p : Problem). p.nodes) (sym c.problem_is);
      rows = all_rows v s rows i h are;
      opened = opened_is ∙ w.opened ∙ ap (λ (p : Problem). min s.ticket p.nodes) problem_is;
      claimed = claimed_is ∙ w.claimed ∙ ap (λ (p : Problem). min s.claim p.cubes) problem_is;
    }

-- and its rows are those that the pass knows
pub closed_rows : (id : TableId) (problem : Problem) (cursor latest : ℕ) (m : Me (Unit {0}) Seen) (rows : List (Option Row)) → IsCard id problem cursor latest m → HasAll m.0 → HasAllRows m.0 rows → (slot : ℕ) → in_slots rows slot ≡ known_of m.0 slot
closed_rows id problem cursor latest m rows c h are slot = sym (all_rows m.0 c.shown.0 rows c.shown.1 h are slot) ∙ knows_all c.shown.0 m.0 c.shown.1 h slot
