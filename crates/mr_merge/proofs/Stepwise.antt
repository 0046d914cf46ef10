-- Numbers and steps, one after another.
use Rattle.std.proofs.Common.{◌≡◌, ◌≢◌, ℕ, zero, suc, ◌+◌, ◌<◌, ◌≤◌, List, [], ◌∷◌, ◌++◌, length, get_or, set, Option, Some, refl, sym, ap, subst, ◌∙◌, inl, inr, arith, length-set, get_or-set_same, get_or-set_other}
use Rattle.std.specs.Prelude.{AllPairs, All, slice_get, slice_index}
use Rattle.std.proofs.lemmas.Bool.{cases_eq}
use Rattle.std.proofs.lemmas.List.{length_push}
use Rattle.std.proofs.lemmas.List.Elements.{All-push}
use Rattle.std.proofs.lemmas.Option.{slice_get_within, same_Some, get_or_from_slice_get}
use Rattle.mr_assign.specs.declared.TheConstants.{VALUES}
use Rattle.mr_nogood.specs.declared.row.Row.{Row}
use Rattle.mr_nogood.specs.Follows.{in_slots}
use Rattle.mr_merge.specs.Steps.{renumbered}
use Rattle.mr_merge.specs.Private.Marks.{AreNumbers, AreRenumbered}

-- the first n slots of the list have their places as numbers
pub record AreNumbersTo (slots : List ℕ) (count n : ℕ) (numbers : List ℕ) : Type 0 where
  pub size : length numbers ≡ count
  pub numbered : (j s : ℕ) → j < n → slice_get slots j ≡ Some s → slice_index numbers s ≡ j

-- one slot more
pub numbers_more : (slots : List ℕ) (count n : ℕ) (numbers : List ℕ) (slot : ℕ) → AllPairs (λ s t. s ≢ t) slots → AreNumbersTo slots count n numbers → slice_get slots n ≡ Some slot → slot < count → AreNumbersTo slots count (n + 1) (set numbers slot n)
numbers_more slots count n numbers slot apart h at lt = record {
  size = length-set numbers slot n ∙ h.size;
  numbered = λ j s less is. elim (cases_eq j n) [
    | inl same ↦
        let one : slot ≡ s = same_Some slot s (sym at ∙ ap (slice_get slots) (sym same) ∙ is) in
        subst (λ (i : ℕ). get_or (set numbers slot n) i 0 ≡ j) one (get_or-set_same numbers slot n 0 (let size = h.size in omega arith) ∙ sym same)
    | inr other ↦
        let before : j < n = omega arith in
        let within = slice_get_within slots n slot at in
        let differ : s ≢ slot = λ e. apart j n 0 before within (get_or_from_slice_get slots j s 0 is ∙ e ∙ sym (get_or_from_slice_get slots n slot 0 at)) in
        get_or-set_other numbers slot s n 0 differ ∙ h.numbered j s before is
  ];
}

-- all slots have numbers
pub numbers_all : (slots : List ℕ) (count n : ℕ) (numbers : List ℕ) → length slots ≤ n → AreNumbersTo slots count n numbers → AreNumbers slots numbers
numbers_all slots count n numbers all h j s is = h.numbered j s (let within = slice_get_within slots j s is in omega arith) is

-- the rows of the first n slots are steps
pub record AreRenumberedTo (rows : List (Option Row)) (numbers slots : List ℕ) (n : ℕ) (steps : List Row) : Type 0 where
  pub count : length steps ≡ n
  pub step : (j s : ℕ) (row : Row) → j < n → slice_get slots j ≡ Some s → in_slots rows s ≡ Some row → slice_get steps j ≡ Some (renumbered (slice_index numbers) j row)
  pub cites : All (λ row. length row.cites ≡ VALUES) steps

-- what stands in a list stands there with one more at the end
get_more : (xs : List Row) (y x : Row) (s : ℕ) → slice_get xs s ≡ Some x → slice_get (xs ++ y ∷ []) s ≡ Some x
get_more [] y x s is = cc
get_more (z ∷ zs) y x zero is = is
get_more (z ∷ zs) y x (suc s) is = get_more zs y x s is

-- and the last stands at the end
get_last : (xs : List Row) (y : Row) → slice_get (xs ++ y ∷ []) (length xs) ≡ Some y
get_last [] y = refl
get_last (z ∷ zs) y = get_last zs y

-- one step more
pub renumbered_more : (rows : List (Option Row)) (numbers slots : List ℕ) (n : ℕ) (steps : List Row) (slot : ℕ) (row step : Row) → AreRenumberedTo rows numbers slots n steps → slice_get slots n ≡ Some slot → in_slots rows slot ≡ Some row
    → step ≡ renumbered (slice_index numbers) n row → length step.cites ≡ VALUES → AreRenumberedTo rows numbers slots (n + 1) (steps ++ step ∷ [])
renumbered_more rows numbers slots n steps slot row step h at there is count = record {
  count = (let long = h.count in omega (arith, length_push steps step));
  step = λ j s other less place has. elim (cases_eq j n) [
    | inl same ↦
        let one : slot ≡ s = same_Some slot s (sym at ∙ ap (slice_get slots) (sym same) ∙ place) in
        let r : row ≡ other = same_Some row other (sym there ∙ ap (in_slots rows) one ∙ has) in
        let end : slice_get (steps ++ step ∷ []) n ≡ Some step = subst (λ (i : ℕ). slice_get (steps ++ step ∷ []) i ≡ Some step) h.count (get_last steps step) in
        ap (slice_get (steps ++ step ∷ [])) same ∙ end ∙ ap Some (is ∙ ap (renumbered (slice_index numbers) n) r ∙ ap (λ (i : ℕ). renumbered (slice_index numbers) i other) (sym same))
    | inr apart ↦ get_more steps step (renumbered (slice_index numbers) j other) j (h.step j s other (omega arith) place has)
  ];
  cites = All-push (λ (r : Row). length r.cites ≡ VALUES) steps step h.cites count;
}

-- all steps
pub renumbered_all : (rows : List (Option Row)) (numbers slots : List ℕ) (n : ℕ) (steps : List Row) → length slots ≡ n → AreRenumberedTo rows numbers slots n steps → AreRenumbered rows numbers slots steps
renumbered_all rows numbers slots n steps all h = record {
  count = h.count ∙ sym all;
  step = λ j s row at there. h.step j s row (let within = slice_get_within slots j s at in omega arith) at there;
  cites = h.cites;
}
