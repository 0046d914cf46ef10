-- One step of the search for the next set.
use Rattle.std.proofs.Common.{◌≡◌, ℕ, suc, ◌+◌, ◌-◌, ◌≤◌, List, [], ◌∷◌, length, get_or, drop, refl, sym, ap, subst, ◌∙◌, arith, length-drop, drop-cons, Option, Some, None}
use Rattle.std.specs.Prelude.{◌<◌, MatchOption}
use Rattle.mr_set.specs.Elements.{with_element}
use Rattle.mr_set.specs.Subsets.{IsSetOf, IsNext, IsLast}
use Rattle.mr_set.specs.Private.Enumeration.{IsFrom, run, IsNextFrom, IsLastFrom}
use Rattle.mr_set.proofs.Sorted.{with_front}
use Rattle.mr_set.proofs.Lexicographic.{from_tail, from_set, next_same, next_raised, last_raised, next_of, last_of}

-- the elements from a place on are the one there and those after it
cons : (s : List ℕ) (at : ℕ) → at < length s → drop at s ≡ get_or s at 0 ∷ drop (at + 1) s
cons s at lt = drop-cons s at 0 lt ∙ ap (λ k. get_or s at 0 ∷ drop k s) (let e : suc at ≡ at + 1 = omega arith in e)

-- a list of length 0 is empty
empty : (x : List ℕ) → length x ≡ 0 → x ≡ []
empty [] is = refl
empty (y ∷ ys) is = absurd (omega arith)

-- each element is below n
pub element_small : (n at : ℕ) (s : List ℕ) → IsSetOf n (length s) s → at < length s → get_or s at 0 < n
element_small n at s is lt = is.set.elements at 0 lt

-- what follows is a set from the next number on
pub rest_from : (low n at : ℕ) (s : List ℕ) → at < length s → IsFrom low n (drop at s) → IsFrom (get_or s at 0 + 1) n (drop (at + 1) s)
rest_from low n at s lt is = from_tail low n (get_or s at 0) (drop (at + 1) s) (subst (IsFrom low n) (cons s at lt) is)

-- where the rest has a next set, the element at the place stays
pub step_same : (low n at : ℕ) (s t : List ℕ) → at < length s → IsFrom low n (drop at s) → IsNextFrom (get_or s at 0 + 1) n (drop (at + 1) s) t → IsNextFrom low n (drop at s) (with_element (get_or s at 0) t)
step_same low n at s t lt is next =
    rw (with_front (get_or s at 0) t next.set.from)
    (subst (λ x. IsNextFrom low n x (get_or s at 0 ∷ t)) (sym (cons s at lt)) (next_same low n (get_or s at 0) (drop (at + 1) s) t (subst (IsFrom low n) (cons s at lt) is) next))

-- else it is raised by one, and the numbers after it follow
pub step_raised : (low n at count : ℕ) (s : List ℕ) → at < length s → count ≡ length s - at → IsFrom low n (drop at s) → IsLastFrom (get_or s at 0 + 1) n (drop (at + 1) s) → count < n - get_or s at 0 → IsNextFrom low n (drop at s) (run (get_or s at 0 + 1) count)
step_raised low n at count s lt size is last fits =
    let long : length (get_or s at 0 ∷ drop (at + 1) s) ≡ count = omega (arith, length-drop (at + 1) s) in
    subst (λ k. IsNextFrom low n (drop at s) (run (get_or s at 0 + 1) k)) long
    (subst (λ x. IsNextFrom low n x (run (get_or s at 0 + 1) (length (get_or s at 0 ∷ drop (at + 1) s)))) (sym (cons s at lt))
    (next_raised low n (get_or s at 0) (drop (at + 1) s) (subst (IsFrom low n) (cons s at lt) is) last (omega arith)))

-- or, where there is no room for that, there is no next set
pub step_last : (low n at count : ℕ) (s : List ℕ) → at < length s → count ≡ length s - at → get_or s at 0 < n → IsLastFrom (get_or s at 0 + 1) n (drop (at + 1) s) → n - get_or s at 0 ≤ count → IsLastFrom low n (drop at s)
step_last low n at count s lt size small last full =
    let long : length (get_or s at 0 ∷ drop (at + 1) s) ≡ count = omega (arith, length-drop (at + 1) s) in
    subst (IsLastFrom low n) (sym (cons s at lt)) (last_raised low n (get_or s at 0) (drop (at + 1) s) last (omega arith))

-- the answer for all elements
pub next_answer : (n r : ℕ) (s x : List ℕ) (answer : Option (List ℕ)) → x ≡ s → IsSetOf n r s → ((low : ℕ) → IsFrom low n (drop 0 x) → MatchOption answer (IsLastFrom low n (drop 0 x)) (IsNextFrom low n (drop 0 x))) → MatchOption answer (IsLast n s) (IsNext n s)
next_answer n r s x None same is found = last_of n s (subst (IsLastFrom 0 n) same (found 0 (from_set n r x (subst (IsSetOf n r) (sym same) is))))
next_answer n r s x (Some y) same is found = next_of n r s y (subst (λ z. IsNextFrom 0 n z y) same (found 0 (from_set n r x (subst (IsSetOf n r) (sym same) is))))
