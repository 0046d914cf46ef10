-- What the loops that look through a state's lists have seen so far.
use Rattle.std.proofs.Common.{◌≡◌, ℕ, zero, suc, ◌+◌, ◌<◌, ◌≤◌, max, ◌⊎◌, if◌then◌else◌, nat_eq, ◌||◌, false, List, [], ◌∷◌, ◌++◌, length, take, get_or, set, replicate, Option, Some, None, Contains, refl, sym, ap, ◌∙◌, ⊎_elim, inl, inr, subst, arith, length-set}
use Rattle.std.proofs.Math.Path.{fun_ext}
use Rattle.std.proofs.lemmas.List.{get_or_default, get_or_past, get_or-map, length-replicate, take_all}
use Rattle.std.proofs.lemmas.Bool.{cases_lt}
use Rattle.std.proofs.lemmas.Grind.{take_at_read}
use Rattle.mr_set.specs.Elements.{is_element}
use Rattle.mr_assign.specs.Assign.{IsPartOf}
use Rattle.mr_assign.specs.declared.TheConstants.{VALUES}
use Rattle.mr_frame.specs.Frame.{Framed}
use Rattle.mr_nogood.specs.declared.row.Row.{Row}
use Rattle.mr_nogood.specs.declared.row.Cite.{Cite}
use Rattle.mr_nogood.specs.declared.row.Cite.TheVariants.{Nothing, Test, Slot}
use Rattle.mr_nogood.specs.Row.{cite_for}
use Rattle.mr_nogood.specs.Follows.{Rows, in_slots}
use Rattle.mr_nogood.specs.Private.Checking.{cited_row}
use Rattle.mr_exchange.specs.declared.ticket.Ticket.{Ticket}
use Rattle.mr_exchange.specs.Cubes.{cube_at}
use Rattle.mr_exchange.specs.State.{slots_of}
use Rattle.mr_exchange.specs.Rank.{HasLeastRank, IsAboveCited}
use Rattle.mr_exchange.specs.Private.Deciding.{IsHit, AvoidsSlots, rank_past, only}
use Rattle.mr_exchange.proofs.Totals.{eq_cases, bool_cases}
use Rattle.mr_exchange.proofs.Lookups.{length-slots_of}
use Rattle.mr_exchange.proofs.Holding.{in_slots_read, in_slots_here, in_slots_else, in_slots-replicate}

-- the slot at a place is that of the ticket there
pub slot_at : (tickets : List Ticket) (k d : ℕ) (t : Ticket) → k < length tickets → get_or (slots_of tickets) k d ≡ (get_or tickets k t).slot
slot_at tickets k d t lt = get_or-map (λ (x : Ticket). x.slot) tickets k t d lt

-- no ticket before this place has the slot
abbrev pub NoSlotBefore : List Ticket → ℕ → ℕ → Type 0
NoSlotBefore tickets slot i = (j : ℕ) (t : Ticket) → j < i → ¬ ((get_or tickets j t).slot ≡ slot)

-- then it is none of their slots
pub no_slot : (tickets : List Ticket) (slot : ℕ) → NoSlotBefore tickets slot (length tickets) → ¬ (Contains (slots_of tickets) slot)
no_slot tickets slot none has =
    let t : Ticket = record { slot = 0; node = [] } in
    let within = has.1 in
    let lt : has.0 < length tickets = omega (arith, length-slots_of tickets) in
    none has.0 t lt (sym (slot_at tickets has.0 slot t lt) ∙ has.2)

-- no slot before this place has a row that hits
abbrev pub AvoidsBefore : Rows → List ℕ → List ℕ → ℕ → Type 0
AvoidsBefore rows slots node i = (j : ℕ) → j < i → ¬ (IsHit (rows (get_or slots j 0)) node)

-- then none does
pub avoids_all : (rows : Rows) (slots node : List ℕ) → AvoidsBefore rows slots node (length slots) → AvoidsSlots rows slots node
avoids_all rows slots node none slot has hit = none has.0 has.1 (subst (λ s. IsHit (rows s) node) (sym (get_or_default slots has.0 0 slot has.1 ∙ has.2)) hit)

-- no cube before this place is in the node
abbrev pub NoCubeBefore : Framed → ℕ → List ℕ → List ℕ → ℕ → Type 0
NoCubeBefore f depth cubes node i = (j : ℕ) → j < i → ¬ (IsPartOf (cube_at f depth (get_or cubes j 0)) node)

-- then none is
pub no_cube : (f : Framed) (depth : ℕ) (cubes node : List ℕ) → NoCubeBefore f depth cubes node (length cubes) → (c : ℕ) → Contains cubes c → ¬ (IsPartOf (cube_at f depth c) node)
no_cube f depth cubes node none c has part = none has.0 has.1 (subst (λ x. IsPartOf (cube_at f depth x) node) (sym (get_or_default cubes has.0 0 c has.1 ∙ has.2)) part)

-- the number is the least that is no less than the numbers past the ranks of the first n cites
pub record IsLeastPast (given : Rows) (row : Row) (n least : ℕ) : Type 0 where
  pub above : (k : ℕ) → k < n → rank_past (cited_row given (cite_for row k)) ≤ least
  pub least_is : (m : ℕ) → ((k : ℕ) → k < n → rank_past (cited_row given (cite_for row k)) ≤ m) → least ≤ m

-- at first it is 0
pub least_of_none : (given : Rows) (row : Row) → IsLeastPast given row 0 0
least_of_none given row = record { above = λ k lt. absurd (omega arith); least_is = λ m h. omega arith }

-- one more cite
pub least_of_more : (given : Rows) (row : Row) (n least past : ℕ) → IsLeastPast given row n least → past ≡ rank_past (cited_row given (cite_for row n)) → IsLeastPast given row (n + 1) (max least past)
least_of_more given row n least past h is = record {
  above = λ k lt. ⊎_elim (λ (l : k < n). (let a = h.above k l in omega arith)) (λ (e : k ≡ n). (let a : rank_past (cited_row given (cite_for row k)) ≡ past = ap (λ i. rank_past (cited_row given (cite_for row i))) e ∙ sym is in omega arith)) (last k lt);
  least_is = λ m all. (let a = h.least_is m (λ k lt. all k (omega arith)) in let b = all n (omega arith) in omega arith);
}
  where
    last : (k : ℕ) → k < n + 1 → (k < n) ⊎ (k ≡ n)
    last k lt = eq_cases k n (λ b. (k < n) ⊎ (k ≡ n)) (λ e. inr e) (λ d. inl (omega arith))

-- where the number is above each rank that is cited, it is no less than what is past it
past_le : (given : Rows) (row : Row) (m k : ℕ) → IsAboveCited given row m → rank_past (cited_row given (cite_for row k)) ≤ m
past_le given row m k above = by_cite (cite_for row k) refl
  where
    by_row : (slot : ℕ) (o : Option Row) → cite_for row k ≡ Slot slot → given slot ≡ o → rank_past o ≤ m
    by_row slot None cites found = omega arith
    by_row slot (Some cited) cites found = let lt = above k slot cited cites found in omega arith

    by_cite : (c : Cite) → cite_for row k ≡ c → rank_past (cited_row given c) ≤ m
    by_cite Nothing cites = omega arith
    by_cite (Test x) cites = omega arith
    by_cite (Slot slot) cites = by_row slot (given slot) cites refl

module _ (given : Rows) (row : Row) (least : ℕ) (count : length row.cites ≡ VALUES) (h : IsLeastPast given row VALUES least) where
  -- the number is above each rank that is cited
  least_above : IsAboveCited given row least
  least_above k slot cited cites found = by_place (cases_lt k VALUES)
    where
      by_place : (k < VALUES) ⊎ (VALUES ≤ k) → cited.rank < least
      by_place (inl lt) =
          let past = h.above k lt in
          let e : rank_past (cited_row given (cite_for row k)) ≡ cited.rank + 1 = ap (λ c. rank_past (cited_row given c)) cites ∙ ap rank_past found in
          omega arith
      by_place (inr le) = let nothing : cite_for row k ≡ Nothing = get_or_past row.cites k Nothing (omega arith) in absurd (let e : Nothing ≡ Slot slot = sym nothing ∙ cites in cc)

  -- so it is the least rank
  pub least_is_rank : row.rank ≡ least → HasLeastRank given row
  least_is_rank e = record {
    above = subst (IsAboveCited given row) (sym e) least_above;
    least = λ n above. (let le = h.least_is n (λ k lt. past_le given row n k above) in omega arith);
  }

  -- and the only one
  pub rank_is_least : HasLeastRank given row → row.rank ≡ least
  rank_is_least rank =
      let up = rank.least least least_above in
      let down = h.least_is row.rank (λ k lt. past_le given row row.rank k rank.above) in
      omega arith

-- one more slot
only_push : (rows : Rows) (xs : List ℕ) (s t : ℕ) → only rows (xs ++ s ∷ []) t ≡ (if nat_eq t s then rows t else only rows xs t)
only_push rows [] s t = eq_cases t s (λ b. (if b || false then rows t else None) ≡ (if b then rows t else None)) (λ e. refl) (λ n. refl)
only_push rows (x ∷ xs) s t = eq_cases t x (λ b. (if b || is_element (xs ++ s ∷ []) t then rows t else None) ≡ (if nat_eq t s then rows t else (if b || is_element xs t then rows t else None)))
    (λ e. bool_cases (nat_eq t s) (λ b. rows t ≡ (if b then rows t else rows t)) (λ _. refl) (λ _. refl)) (λ n. only_push rows xs s t)

-- the list has the rows of the first n slots that are known, and no others
pub record AreCopied (slots : List (Option Row)) (known : List ℕ) (n : ℕ) (rows : List (Option Row)) : Type 0 where
  pub long : length rows ≡ length slots
  pub same : (t : ℕ) → in_slots rows t ≡ only (in_slots slots) (take n known) t

-- at first there is none
pub copied_at_first : (slots rows : List (Option Row)) (known : List ℕ) → rows ≡ replicate (length slots) None → AreCopied slots known 0 rows
copied_at_first slots rows known e = record {
  long = ap length e ∙ length-replicate {A = Option Row} (length slots) None;
  same = λ t. ap (λ (xs : List (Option Row)). in_slots xs t) e ∙ ap (λ (f : Rows). f t) (in_slots-replicate (length slots));
}

-- past the end there are no rows
in_slots_past : (rows : List (Option Row)) (slot : ℕ) → length rows ≤ slot → in_slots rows slot ≡ None
in_slots_past [] slot le = refl
in_slots_past (x ∷ rows) zero le = absurd (omega arith)
in_slots_past (x ∷ rows) (suc slot) le = in_slots_past rows slot (omega arith)

module _ (slots rows : List (Option Row)) (known : List ℕ) (n s : ℕ) (lt : n < length known) (read : s ≡ get_or known n s) (h : AreCopied slots known n rows) where
  -- the rows of one more slot
  one_more : (t : ℕ) → only (in_slots slots) (take (n + 1) known) t ≡ (if nat_eq t s then in_slots slots t else only (in_slots slots) (take n known) t)
  one_more t = ap (λ (xs : List ℕ). only (in_slots slots) xs t) ((take_at_read known n s lt).1 ∙ ap (λ x. take n known ++ x ∷ []) (sym read)) ∙ only_push (in_slots slots) (take n known) s t

  -- its row is copied
  pub copied_further : (x : Option Row) → s < length slots → x ≡ get_or slots s x → AreCopied slots known (n + 1) (set rows s x)
  copied_further x within found = record {
    long = length-set rows s x ∙ h.long;
    same = λ t. eq_cases t s (λ b. in_slots (set rows s x) t ≡ (if b then in_slots slots t else only (in_slots slots) (take n known) t))
        (λ e. subst (λ i. in_slots (set rows s x) i ≡ in_slots slots i) (sym e) (in_slots_here rows s x (let l = h.long in omega arith) ∙ found ∙ sym (in_slots_read slots s x within)))
        (λ d. in_slots_else rows s t x d ∙ h.same t) ∙ sym (one_more t);
  }

  -- it is none of the slots
  pub copied_past : length slots ≤ s → AreCopied slots known (n + 1) rows
  copied_past le = record {
    long = h.long;
    same = λ t. eq_cases t s (λ b. in_slots rows t ≡ (if b then in_slots slots t else only (in_slots slots) (take n known) t))
        (λ e. in_slots_past rows t (let l = h.long in omega arith) ∙ sym (in_slots_past slots t (omega arith)))
        (λ d. h.same t) ∙ sym (one_more t);
  }

-- at the end all are copied
pub copied_to_end : (slots rows : List (Option Row)) (known : List ℕ) (n : ℕ) → length known ≤ n → AreCopied slots known n rows → in_slots rows ≡ only (in_slots slots) known
copied_to_end slots rows known n all h = fun_ext (λ t. h.same t ∙ ap (λ (xs : List ℕ). only (in_slots slots) xs t) (take_all n known all))
