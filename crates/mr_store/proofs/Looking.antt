-- A pass loads the head of the slot at its cursor, and the words of a slot in which it found a row.
use Rattle.std.proofs.Common.{◌≡◌, ◌≢◌, ℕ, ◌+◌, ◌*◌, ◌≤◌, ◌⊎◌, ◌==◌, if◌then◌else◌, IsTrue, List, [], ◌∷◌, map, set, get_or, slice_index, Option, Some, None, Contains, refl, sym, ap, ◌∙◌, inl, inr, ⊎_elim, subst, arith, min}
use mathlib.Core.Option.{some}
use mathlib.Core.Option as plain
use lib.ListN.{get_elem?}
use native.Mathlib.Decide.{ℕ_discrete}
use Rattle.std.proofs.lemmas.List.{set-get_or}
use Rattle.atomic_table.specs.Table as table
use Rattle.atomic_table.specs.Table.{Me, Allows, step}
use Rattle.atomic_table.specs.Table.Act.{keeps}
use Rattle.atomic_table.proofs.Lists.{set_again}
use Rattle.mr_nogood.specs.declared.row.Row.{Row}
use Rattle.mr_exchange.specs.declared.TheConstants.{SHORT, LOOKS}
use Rattle.mr_exchange.specs.declared.event.Event.TheVariants.{LookAt}
use Rattle.mr_exchange.specs.declared.event.Reply.TheVariants.{Seen as Looked}
use Rattle.mr_exchange.specs.State.{Pass, State, pass_at, slots_of, latest_of, IsShort, pair_count, head_at}
use Rattle.mr_exchange.specs.Events.{MayLook, looked, knowing, seen, state_after}
use Rattle.mr_exchange.specs.Sound.{IsSound}
use Rattle.mr_exchange.proofs.Lookups.{knowing_this, knowing_more, knowing_cases}
use Rattle.mr_exchange.proofs.Runs.{allowed_events_keep_soundness}
use Rattle.mr_exchange.proofs.Holdings.{le_cases}
use Rattle.mr_store.specs.Seats.{Setting, Seen, IsTold, find, word_at, view_looked}
use Rattle.mr_store.specs.Shown.{shown, rows_in_words, IsFound, IsOwnWord, IsTied, Holds}
use Rattle.mr_store.specs.Steps.{Looks, Reads, Checks}
use Rattle.mr_store.specs.Kinds.{LooksAreEvents}
use Rattle.mr_store.proofs.Finding.{find_here, find_else, find_cases, find_in, in_cons, told_more, told_met}
use Rattle.mr_store.proofs.Words.{slot_word, head_at-rows_of}
use Rattle.mr_store.proofs.Showing.{passes_set, pass_here, live_here, tied_here, setting_here, shown_here, happened}
use Rattle.mr_store.proofs.Tying.{set_there, each_seat, tied_kept, tie}

-- a load changes no word
pub unchanged : (s : table.State (Unit {0}) Seen) (i id : ℕ) (v : Seen) → get_elem? s.views id ≡ some v → s ≡ record { words = set s.words i (slice_index s.words i); homes = s.homes; views = set s.views id v }
unchanged s i id v at =
    let a : s.words ≡ set s.words i (slice_index s.words i) = sym (set-get_or s.words i 0) in
    let b : s.views ≡ set s.views id v = sym (set_again s.views id v at) in
    λ k. record { words = a k; homes = s.homes; views = b k }

-- a load that tells what holds of the seat
pub checks : (g : Setting) (slots id : ℕ) (m : Me (Unit {0}) Seen) → IsTrue m.0.pass.live → Allows (Holds g) slots id m 0 (λ n. n) (Checks (step slots 0 0 0 plain.none) m)
checks g slots id m live s h homes at fits =
    (m.0, keeps, tt, subst (Holds g) (unchanged s 0 id m.0 at) h, record { is = refl; shown = (shown g s.words s.views, shown_here g s id m.0 h at live) })

-- a load of a word of a slot in which the seat found a row
pub reads : (g : Setting) (slots id i : ℕ) (m : Me (Unit {0}) Seen) → IsTrue m.0.pass.live → Allows (Holds g) slots id m i (λ n. n) (Reads (step slots i 0 0 plain.none) m)
reads g slots id i m live s h homes at fits = (
  m.0,
  keeps,
  tt,
  subst (Holds g) (unchanged s i id m.0 at) h,
  record {
    is = refl;
    word = λ slot j row is lt found. ap (λ k. slice_index s.words k) is ∙ sym (slot_word s.words slot j lt)
        ∙ ap (λ ws. get_or ws j 0) (h.tied.packed slot row ((tied_here g s id m.0 h at live).found slot row (find_in m.0.found slot row found))).1;
  },
)

-- a look changes nothing else of a pass that matters to its seat
looked_live : (nodes : ℕ) (row : Option Row) (p : Pass) → (looked nodes (λ _. row) p).live ≡ p.live
looked_live nodes row p = refl

module _ (g : Setting) (s : table.State (Unit {0}) Seen) (id : ℕ) (v : Seen) (h : Holds g s) (at : get_elem? s.views id ≡ some v) (live : IsTrue v.pass.live) where
  -- the cursor
  abbrev c : ℕ
  c = v.pass.cursor

  -- what the seat knew is so
  old : IsTied (shown g s.words s.views) s.words v
  old = tied_here g s id v h at live

  -- what the seat knows after a look at no row
  none_tied : (w : Seen) → w ≡ view_looked None v → IsTied (shown g s.words (set s.views id w)) s.words w
  none_tied w is = subst (λ (x : Seen). IsTied (shown g s.words (set s.views id x)) s.words x) (sym is) (record { setting = old.setting; found = old.found; given = old.given; known = old.known; laid = old.laid; own = old.own })

  -- what was found is still found
  still_found : (row : Row) → rows_in_words s.words c ≡ Some row → (t : ℕ) → IsFound v.found v.pass.tickets t → IsFound ((c, row) ∷ v.found) v.pass.tickets t
  still_found row has t f =
      record {
        row = f.row;
        at = same_or_else (find_cases_by t);
        why = f.why;
      }
    where
      find_cases_by : (t : ℕ) → (c ≡ t) ⊎ (c ≢ t)
      find_cases_by t = by_place (ℕ_discrete c t)
        where
          by_place : Dec (c ≡ t) → (c ≡ t) ⊎ (c ≢ t)
          by_place (yes e) = inl e
          by_place (no d) = inr d

      same_or_else : (c ≡ t) ⊎ (c ≢ t) → find ((c, row) ∷ v.found) t ≡ Some f.row
      same_or_else = ⊎_elim (λ (e : c ≡ t). find_here c t row v.found e ∙ (sym has ∙ ap (rows_in_words s.words) e ∙ old.found t f.row (find_in v.found t f.row f.at))) (λ (d : c ≢ t). find_else c t row v.found d ∙ f.at)

  -- what the seat knows after a look at a row
  some_tied : (row : Row) → rows_in_words s.words c ≡ Some row → (known : List ℕ) → ((t : ℕ) → Contains known t → Contains v.pass.known t ⊎ ((c ≡ t) × IsShort row)) → ((t : ℕ) → Contains v.pass.known t → Contains known t) → (IsShort row → Contains known c)
      → (p : Pass) → p.known ≡ known → p.tickets ≡ v.pass.tickets → IsTrue p.live → IsSound (shown g s.words (set s.views id (record v { pass = p; found = (c, row) ∷ v.found })))
      → IsTied (shown g s.words (set s.views id (record v { pass = p; found = (c, row) ∷ v.found }))) s.words (record v { pass = p; found = (c, row) ∷ v.found })
  some_tied row has known cases more short p known_is tickets_are alive sound =
      let w : Seen = record v { pass = p; found = (c, row) ∷ v.found } in
      tie g s.words (set s.views id w) id w h.frame sound (set_there s.views id v w at) alive (setting_here g s id v h at live)
      (λ t r e. ⊎_elim (λ (a : (c ≡ t) × (row ≡ r)). ap (rows_in_words s.words) (sym a.0) ∙ has ∙ ap (λ (x : Row). Some x) a.1) (λ (a : Contains v.found (t, r)). old.found t r a) (in_cons c row v.found t r e))
      old.given
      (λ t knows. subst (λ ts. IsFound w.found ts t) (sym tickets_are) (⊎_elim (λ (k : Contains v.pass.known t). still_found row has t ((old.known t).0 k)) (λ (a : (c ≡ t) × IsShort row). record { row = row; at = find_here c t row v.found a.0; why = inl a.1 }) (cases t (subst (λ ks. Contains ks t) known_is knows))))
      (λ t r e few. subst (λ ks. Contains ks t) (sym known_is) (⊎_elim (λ (a : (c ≡ t) × (row ≡ r)). subst (λ x. Contains known x) a.0 (short (subst (λ (x : Row). IsShort x) (sym a.1) few)))
      (λ (a : (c ≢ t) × (find v.found t ≡ Some r)). more t ((old.known t).1 (record { row = r; at = a.1; why = inl few }))) (find_cases c t row r v.found e)))
      (λ t k mine low high. old.laid t k (subst (λ ts. Contains (slots_of ts) t) tickets_are mine) low high)
      (λ i n e. subst (λ ts. IsOwnWord ts i) (sym tickets_are) (old.own i n e))

  -- what the seat knows after a look is so
  pub looked_tied : (row : Option Row) → rows_in_words s.words c ≡ row → IsSound (shown g s.words (set s.views id (view_looked row v))) → IsTied (shown g s.words (set s.views id (view_looked row v))) s.words (view_looked row v)
  looked_tied None e sound = none_tied (view_looked None v) refl
  looked_tied (Some row) e sound = le_cases (pair_count row.clause) SHORT
      (λ b. (k : List ℕ) → k ≡ (if b then knowing c v.pass.known else v.pass.known) → IsSound (shown g s.words (set s.views id (with_known k))) → IsTied (shown g s.words (set s.views id (with_known k))) s.words (with_known k))
      (λ few k is ok. some_tied row e k
      (λ t has. ⊎_elim (λ (a : Contains v.pass.known t). inl a) (λ (a : c ≡ t). inr (a, few)) (knowing_cases c v.pass.known t (subst (λ ks. Contains ks t) is has)))
      (λ t has. subst (λ ks. Contains ks t) (sym is) (knowing_more c v.pass.known t has))
      (λ _. subst (λ ks. Contains ks c) (sym is) (knowing_this c v.pass.known)) (with_known k).pass refl refl live ok)
      (λ many k is ok. some_tied row e k
      (λ t has. inl (subst (λ ks. Contains ks t) is has))
      (λ t has. subst (λ ks. Contains ks t) (sym is) has)
      (λ (few : pair_count row.clause ≤ SHORT). absurd (omega arith)) (with_known k).pass refl refl live ok)
      (view_looked (Some row) v).pass.known refl sound
    where
      with_known : List ℕ → Seen
      with_known k = record v { pass = record v.pass { known = k; looks = min (v.pass.looks + 1) (LOOKS * v.setting.problem.nodes); last_head = head_at (Some row); cursor = if c == latest_of v.pass.tickets then 0 else c + 1 }; found = (c, row) ∷ v.found }

-- a load of the head at the cursor is the look of the seat's pass
pub looks_are_events : LooksAreEvents
looks_are_events g s id v h at live alone some_ticket =
    let row : Option Row = rows_in_words s.words v.pass.cursor in
    let w : Seen = view_looked row v in
    let st : State = shown g s.words s.views in
    let here = pass_here g s id v h at live in
    let same : g ≡ v.setting = setting_here g s id v h at live in
    let may : MayLook st id = record { live = live_here g s id v h at live; alone = ap (λ (p : Pass). p.joined) here ∙ alone; some_ticket = λ none. some_ticket (ap (λ (p : Pass). p.tickets) (sym here) ∙ none) } in
    let views : List Seen = set s.views id w in
    let passes_are : set (map (λ (u : Seen). u.pass) s.views) id (looked g.problem.nodes (rows_in_words s.words) (pass_at st id)) ≡ map (λ (u : Seen). u.pass) views = passes_set s.views id w (looked g.problem.nodes (rows_in_words s.words) (pass_at st id)) (ap (looked g.problem.nodes (rows_in_words s.words)) here ∙ ap (λ (x : Setting). looked x.problem.nodes (rows_in_words s.words) v.pass) same) in
    let leads : state_after st (LookAt id) ≡ shown g s.words views = λ k. record { frame = g.frame; problem = g.problem; limit = g.limit; claim = slice_index s.words 0; ticket = slice_index s.words 1; passes = passes_are k; rows = rows_in_words s.words } in
    record { allowed = may; next = leads }

-- a load of the head at the cursor
pub looks : (g : Setting) (slots id : ℕ) (m : Me (Unit {0}) Seen) → IsTrue m.0.pass.live → m.0.pass.joined ≡ [] → m.0.pass.tickets ≢ [] → Allows (Holds g) slots id m (word_at m.0.pass.cursor 0) (λ n. n) (Looks (step slots (word_at m.0.pass.cursor 0) 0 0 plain.none) m)
looks g slots id m live alone some_ticket s h homes at fits =
    let v : Seen = m.0 in
    let i : ℕ = word_at v.pass.cursor 0 in
    let row : Option Row = rows_in_words s.words v.pass.cursor in
    let w : Seen = view_looked row v in
    let st : State = shown g s.words s.views in
    let here = pass_here g s id v h at live in
    let views : List Seen = set s.views id w in
    let made = looks_are_events g s id v h at live alone some_ticket in
    let may : MayLook st id = made.allowed in
    let leads : state_after st (LookAt id) ≡ shown g s.words views = made.next in
    let sound : IsSound (shown g s.words views) = subst IsSound leads (allowed_events_keep_soundness st (LookAt id) h.sound may) in
    let t : table.State (Unit {0}) Seen = record { words = s.words; homes = s.homes; views = views } in
    let rule : Holds g t = record {
      frame = h.frame;
      problem = h.problem;
      limit = h.limit;
      sound = sound;
      tied = record {
        size = h.tied.size;
        each = each_seat (λ (u : Seen). IsTrue u.pass.live → IsTied (shown g s.words views) s.words u) s.views id w (λ _. looked_tied g s id v h at live row refl sound)
            (λ j u _ there alive. tied_kept st (shown g s.words views) s.words s.words u refl (λ _ _ e. e) (λ _ _ _ _ _. refl) (h.tied.each j u there alive));
        packed = h.tied.packed;
        undrawn = h.tied.undrawn;
      };
    } in
    let quiet : set s.words i (slice_index s.words i) ≡ s.words = set-get_or s.words i 0 in (
      w,
      keeps,
      tt,
      subst (λ (ws : List ℕ). Holds g (record { words = ws; homes = s.homes; views = views })) (sym quiet) rule,
      record {
        at = refl;
        row = row;
        head = sym (head_at-rows_of s.words v.pass.cursor (λ r e. (h.tied.packed v.pass.cursor r e).1));
        good = λ r e. (h.tied.packed v.pass.cursor r e).0;
        is = refl;
        event = happened g s t id v w (λ k. LookAt k) (Looked (seen v.pass.cursor row)) h at live rule (set_there s.views id v w at) live may (ap (λ (p : Pass). Looked (seen p.cursor (rows_in_words s.words p.cursor))) here) leads
            (λ slot r has. told_more v.pass.cursor row v.found v.given slot r has)
            (subst (λ (p : Pass). (r : Row) → rows_in_words s.words p.cursor ≡ Some r → IsTold w p.cursor r) (sym here) (told_met v.pass.cursor row v.found v.given));
      },
    )
