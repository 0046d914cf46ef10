-- The steps that are made of rows are a refutation.
use Rattle.std.proofs.Common.{◌≡◌, ℕ, zero, suc, ◌+◌, ◌<◌, ◌≤◌, List, [], ◌∷◌, length, take, set, get_or, map, Some, refl, sym, ap, subst, ◌∙◌, inl, inr, ⊎_elim, arith}
use Rattle.std.specs.Prelude.{slice_get, AllPairs}
use Rattle.std.proofs.lemmas.Bool.{cases_lt, cases_order}
use Rattle.std.proofs.lemmas.List.{get_or-map, get_or_past, length-map}
use Rattle.std.proofs.lemmas.Option.{slice_get_within, same_Some, get_or_from_slice_get}
use Rattle.mr_set.proofs.Ordered.{member_place, place_member}
use Rattle.mr_assign.specs.Assign.{no_values}
use Rattle.mr_frame.specs.Frame.{Framed}
use Rattle.mr_nogood.specs.declared.row.Row.{Row}
use Rattle.mr_nogood.specs.declared.row.Cite.{Cite}
use Rattle.mr_nogood.specs.declared.row.Cite.TheVariants.{Nothing, Test, Slot}
use Rattle.mr_nogood.specs.Row.{cite_for}
use Rattle.mr_nogood.specs.Follows.{Rows, CiteHolds, Follows, in_list}
use Rattle.mr_nogood.proofs.Excluding.{cited_rows_have_smaller_ranks}
use Rattle.mr_check.specs.Accepted.{StepFollows, IsEnd}
use Rattle.mr_check.proofs.Walk.{gives_none}
use Rattle.mr_exchange.specs.declared.answer.CubeAnswer.TheVariants.{Refuted}
use Rattle.mr_exchange.specs.Right.{IsRight}
use Rattle.mr_merge.specs.Steps.{LeadsTo, named, cited, IsRowBefore, renamed, renumbered, AreStepsTo}
use Rattle.mr_merge.proofs.Joining.{element_at}

-- the cites of a renumbered row
pub cite_for-renumbered : (number : ℕ → ℕ) (j : ℕ) (row : Row) (k : ℕ) → cite_for (renumbered number j row) k ≡ renamed number (cite_for row k)
cite_for-renumbered number j row k = ⊎_elim
    (λ (lt : k < length row.cites). get_or-map (renamed number) row.cites k Nothing Nothing lt)
    (λ (past : length row.cites ≤ k). get_or_past (map (renamed number) row.cites) k Nothing (omega (arith, length-map row.cites (renamed number))) ∙ ap (renamed number) (sym (get_or_past row.cites k Nothing past)))
    (cases_lt k (length row.cites))

-- what stands in a list before the place n stands in its front
get_front : {A : Type 0} (n s : ℕ) (xs : List A) (x : A) → s < n → slice_get xs s ≡ Some x → slice_get (take n xs) s ≡ Some x
get_front zero s xs x lt is = absurd (omega arith)
get_front (suc n) s [] x lt is = is
get_front (suc n) zero (y ∷ ys) x lt is = is
get_front (suc n) (suc s) (y ∷ ys) x lt is = get_front n s ys x (omega arith) is

-- a pair of places of a list
pairs_at : (R : ℕ → ℕ → Type 0) (xs : List ℕ) (i j x y : ℕ) → AllPairs R xs → i < j → slice_get xs i ≡ Some x → slice_get xs j ≡ Some y → R x y
pairs_at R xs i j x y pairs lt first second =
    let within = slice_get_within xs j y second in
    subst (λ v. R v y) (get_or_from_slice_get xs i x 0 first) (subst (R (get_or xs i 0)) (get_or_from_slice_get xs j y 0 second) (pairs i j 0 lt within))

module _ (f : Framed) (rows : Rows) (end : Cite) (steps : List Row) (last : Cite) (follow : (s : ℕ) (row : Row) → rows s ≡ Some row → Follows f rows row) (right : IsRight f rows no_values (Refuted end)) (made : AreStepsTo rows end steps last) where
  -- the row that the end names
  named_row : (cite : Cite) (s : ℕ) → IsRight f rows no_values (Refuted cite) → cite ≡ Slot s → (row : Row) × (rows s ≡ Some row)
  named_row Nothing s h is = absurd h
  named_row (Test x) s h is = cc
  named_row (Slot t) s (row, there, part) is = (row, (let same : t ≡ s = cc in subst (λ (i : ℕ). rows i ≡ Some row) same there))

  -- each slot that the end leads to has a row
  has_row : (s : ℕ) → LeadsTo rows end s → (row : Row) × (rows s ≡ Some row)
  has_row s (named _ is) = named_row end s right is
  has_row s (cited t _ k row before there is) = let found = cited_rows_have_smaller_ranks f rows row k s (follow t row there) is in (found.0, found.1)

  -- a row comes before one of greater rank
  comes_before : (i j s t : ℕ) (row other : Row) → slice_get made.slots i ≡ Some s → slice_get made.slots j ≡ Some t → rows s ≡ Some row → rows t ≡ Some other → row.rank < other.rank → i < j
  comes_before i j s t row other first second one two less = elim (cases_order i j) [
    | inl same ↦ absurd (
        let e : s ≡ t = same_Some s t (sym first ∙ ap (slice_get made.slots) same ∙ second) in
        let r : row ≡ other = same_Some row other (sym one ∙ ap rows e ∙ two) in
        let k = ap (λ (x : Row). x.rank) r in omega arith)
    | inr differ ↦ elim differ [
      | inl lt ↦ lt
      | inr gt ↦ absurd (elim (pairs_at (IsRowBefore rows) made.slots j i t s made.order gt second first other row two one) [
        | inl more ↦ omega arith
        | inr tie ↦ let e = tie.0 in omega arith
      ])
    ]
  ]

  -- what holds of a row's cite holds of the step's
  holds_renamed : (j s k : ℕ) (row : Row) (a : List ℕ) (cite : Cite) → slice_get made.slots j ≡ Some s → rows s ≡ Some row → cite_for row k ≡ cite → CiteHolds f rows row.rank a cite → CiteHolds f (in_list (take j steps)) j a (renamed made.number cite)
  holds_renamed j s k row a Nothing at there is holds = holds
  holds_renamed j s k row a (Test x) at there is holds = holds
  holds_renamed j s k row a (Slot t) at there is (other, given, less, part) =
      let leads : LeadsTo rows end t = cited s t k row ((made.exactly s).0 (place_member made.slots j s at)) there is in
      let place = member_place made.slots t ((made.exactly t).1 leads) in
      let lt : place.0 < j = comes_before place.0 j t s other row place.1 at given there less in
      let number : made.number t ≡ place.0 = made.numbers place.0 t place.1 in
      let step = made.step place.0 t other place.1 given in
      (renumbered made.number place.0 other, subst (λ (i : ℕ). slice_get (take j steps) i ≡ Some (renumbered made.number place.0 other)) (sym number) (get_front j place.0 steps (renumbered made.number place.0 other) lt step), lt, part)

  -- the step at a place is the renumbered row
  pub step_at : (j : ℕ) (step : Row) → slice_get steps j ≡ Some step → (s : ℕ) × (row : Row) × (slice_get made.slots j ≡ Some s) × (rows s ≡ Some row) × (step ≡ renumbered made.number j row)
  step_at j step is =
      let within = slice_get_within steps j step is in
      let count = made.count in
      let place = element_at made.slots j (omega arith) in
      let found = has_row place.0 ((made.exactly place.0).0 (place_member made.slots j place.0 place.1)) in
      (place.0, found.0, place.1, found.1, same_Some step (renumbered made.number j found.0) (sym is ∙ made.step j place.0 found.0 place.1 found.1))

  -- each step follows from the steps before it
  pub steps_follow : (j : ℕ) → StepFollows f steps j
  steps_follow j step is =
      let found = step_at j step is in
      let s : ℕ = found.0 in
      let row : Row = found.1 in
      let at = found.2 in
      let there = found.3 in
      let same = found.4 in
      let from = follow s row there in
      subst (λ (r : Row). Follows f (in_list (take j steps)) r) (sym same) (record {
        map = from.map;
        clause = from.clause;
        position = from.position;
        no_value = from.no_value;
        cites = λ k lt. subst (CiteHolds f (in_list (take j steps)) j (set row.clause row.at (k + 1))) (sym (cite_for-renumbered made.number j row k)) (holds_renamed j s k row (set row.clause row.at (k + 1)) (cite_for row k) at there refl (from.cites k lt));
        others = λ k le. cite_for-renumbered made.number j row k ∙ ap (renamed made.number) (from.others k le);
      })

  -- the last line is an end
  end_is : (cite : Cite) → cite ≡ end → IsRight f rows no_values (Refuted cite) → IsEnd f steps (renamed made.number cite)
  end_is Nothing is h = h
  end_is (Test x) is h = h
  end_is (Slot s) is (row, there, part) =
      let place = member_place made.slots s ((made.exactly s).1 (named s (sym is))) in
      let number : made.number s ≡ place.0 = made.numbers place.0 s place.1 in
      (renumbered made.number place.0 row, subst (λ (i : ℕ). slice_get steps i ≡ Some (renumbered made.number place.0 row)) (sym number) (made.step place.0 s row place.1 there), (gives_none row.clause).0 part)

  pub ends : IsEnd f steps last
  ends = subst (IsEnd f steps) (sym made.last_is) (end_is end refl right)
