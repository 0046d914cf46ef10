-- Passes read by their numbers, in a list of which one changes or that gets one more.
use Rattle.std.proofs.Common.{◌≡◌, ◌≢◌, ℕ, suc, ◌+◌, ◌<◌, ◌≤◌, ◌⊎◌, if◌then◌else◌, IsTrue, List, [], ◌∷◌, ◌++◌, length, length-append, get_or, set, sym, refl, ap, ◌∙◌, inl, subst, arith, lt_of_not-le, Contains, true≢false}
use native.Mathlib.Decide.{dec_le, ℕ_discrete}
use Rattle.std.proofs.lemmas.List.{get_or-set_same, get_or-set_other, get_or_append_left, get_or_push, get_or_past}
use Rattle.std.proofs.lemmas.List.Elements.{Contains-append_left, Contains-push, Contains-push_cases}
use Rattle.mr_set.specs.Elements.{is_element}
use Rattle.mr_set.proofs.Members.{Contains-from_element}
use Rattle.mr_exchange.specs.declared.ticket.Ticket.{Ticket}
use Rattle.mr_exchange.specs.State.{Pass, spent, slots_of}
use Rattle.mr_exchange.specs.Events.{knowing}
use Rattle.mr_exchange.proofs.Balance.{weight}
use Rattle.mr_exchange.proofs.Totals.{bool_cases}

-- a live pass was made
pub within : (xs : List Pass) (k : ℕ) → IsTrue (get_or xs k spent).live → k < length xs
within xs k live = by_length (dec_le (length xs) k)
  where
    by_length : Dec (length xs ≤ k) → k < length xs
    by_length (yes past) = absurd (true≢false (sym live ∙ ap (λ (p : Pass). p.live) (get_or_past xs k spent past)))
    by_length (no n) = lt_of_not-le n

module _ {A : Type 0} where
  -- what holds of the new one and of all others
  pub each_set : (F : ℕ → A → Type 0) (xs : List A) (k : ℕ) (w d : A) → k < length xs → F k w → ((j : ℕ) → j ≢ k → F j (get_or xs j d)) → (j : ℕ) → F j (get_or (set xs k w) j d)
  each_set F xs k w d lt mine others j = by_place (ℕ_discrete j k)
    where
      by_place : Dec (j ≡ k) → F j (get_or (set xs k w) j d)
      by_place (yes e) = subst (λ i. F i (get_or (set xs k w) i d)) (sym e) (subst (F k) (sym (get_or-set_same xs k w d lt)) mine)
      by_place (no n) = subst (F j) (sym (get_or-set_other xs k j w d n)) (others j n)

  -- what the new one has where the old one had it
  pub set_keeps : (P : A → Type 0) (xs : List A) (k : ℕ) (w d : A) → k < length xs → (P (get_or xs k d) → P w) → (j : ℕ) → P (get_or xs j d) → P (get_or (set xs k w) j d)
  set_keeps P xs k w d lt keeps = each_set (λ j x. P (get_or xs j d) → P x) xs k w d lt keeps (λ j n h. h)

  -- what is the same of the new one and the old one
  pub set_same : {B : Type 0} (g : A → B) (xs : List A) (k : ℕ) (w d : A) → k < length xs → g w ≡ g (get_or xs k d) → (j : ℕ) → g (get_or (set xs k w) j d) ≡ g (get_or xs j d)
  set_same g xs k w d lt same = each_set (λ j x. g x ≡ g (get_or xs j d)) xs k w d lt same (λ j n. refl)

  -- what holds of the last one, of those before it, and of what stands past the end
  pub each_push : (F : ℕ → A → Type 0) (xs : List A) (u d : A) → F (length xs) u → ((j : ℕ) → j < length xs → F j (get_or xs j d)) → ((j : ℕ) → length xs < j → F j d) → (j : ℕ) → F j (get_or (xs ++ u ∷ []) j d)
  each_push F xs u d last before past j = by_length (dec_le (length xs) j) (dec_le j (length xs))
    where
      by_length : Dec (length xs ≤ j) → Dec (j ≤ length xs) → F j (get_or (xs ++ u ∷ []) j d)
      by_length (no n) h = let lt = lt_of_not-le n in subst (F j) (sym (get_or_append_left xs (u ∷ []) d j lt)) (before j lt)
      by_length (yes le) (no n) =
          let lt = lt_of_not-le n in
          let all : length (xs ++ u ∷ []) ≤ j = grind (arith, length-append xs (u ∷ [])) in
          subst (F j) (sym (get_or_past (xs ++ u ∷ []) j d all)) (past j lt)
      by_length (yes le) (yes ge) =
          let e : length xs ≡ j = omega arith in
          subst (F j) (sym (get_or_push xs u d j e)) (subst (λ i. F i u) e last)

-- the slots of more tickets
pub slots_of-append : (xs ys : List Ticket) → slots_of (xs ++ ys) ≡ slots_of xs ++ slots_of ys
slots_of-append [] ys = refl
slots_of-append (x ∷ xs) ys = ap (λ l. x.slot ∷ l) (slots_of-append xs ys)

-- there is a slot for each ticket
pub length-slots_of : (xs : List Ticket) → length (slots_of xs) ≡ length xs
length-slots_of [] = refl
length-slots_of (x ∷ xs) = ap suc (length-slots_of xs)

-- the slot is known then, and what was known still is
pub knowing_this : (slot : ℕ) (known : List ℕ) → Contains (knowing slot known) slot
knowing_this slot known = bool_cases (is_element known slot) (λ b. Contains (if b then known else known ++ slot ∷ []) slot) (λ e. Contains-from_element known slot e) (λ e. Contains-push known slot)

-- and what was known still is
pub knowing_more : (slot : ℕ) (known : List ℕ) (other : ℕ) → Contains known other → Contains (knowing slot known) other
knowing_more slot known other h = bool_cases (is_element known slot) (λ b. Contains (if b then known else known ++ slot ∷ []) other) (λ e. h) (λ e. Contains-append_left known (slot ∷ []) other h)

-- and nothing else is
pub knowing_cases : (slot : ℕ) (known : List ℕ) (other : ℕ) → Contains (knowing slot known) other → Contains known other ⊎ (slot ≡ other)
knowing_cases slot known other = bool_cases (is_element known slot) (λ b. Contains (if b then known else known ++ slot ∷ []) other → Contains known other ⊎ (slot ≡ other)) (λ e h. inl h) (λ e h. Contains-push_cases known slot other h)

-- a pass's right to end is told by whether it is live and by what was joined into it
pub same_weight : (p q : Pass) → p.live ≡ q.live → p.joined ≡ q.joined → weight p ≡ weight q
same_weight p q live joined = ap (λ b. if b then 1 + length p.joined else 0) live ∙ ap (λ l. if q.live then 1 + length l else 0) joined

-- a live pass has a right to one end, and to one more for each that was joined into it
pub live_weight : (p : Pass) → IsTrue p.live → weight p ≡ 1 + length p.joined
live_weight p live = ap (λ b. if b then 1 + length p.joined else 0) live
