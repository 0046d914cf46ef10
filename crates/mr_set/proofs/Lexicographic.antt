-- The order of sets of one size: the first one, the next one, and a number that falls.
use Rattle.std.proofs.Common.{◌≡◌, ℕ, zero, suc, ◌+◌, ◌-◌, ◌^◌, ◌≤◌, List, [], ◌∷◌, ◌++◌, length, refl, sym, ap, subst, ◌∙◌, arith, inl, inr, ◌⊎◌}
use Rattle.std.specs.Prelude.{◌<◌, ◌≢◌}
use Rattle.std.specs.Ordering.{nat_cmp}
use Rattle.std.specs.declared.cmp.Ordering.{Ordering}
use Rattle.std.specs.declared.cmp.Ordering.TheVariants.{Less, Equal, Greater}
use Rattle.std.specs.Ordering.{ordering_then, ordering_reverse}
use Rattle.std.proofs.lemmas.Cmp.{nat_cmp_total, tied_itself, nat_list_cmp_total}
use Rattle.std.proofs.lemmas.Bool.{cases_lt}
use Rattle.std.proofs.Math.Nat.{pow-le-pow_right, pow-suc}
use Rattle.std.proofs.lemmas.Nat.{pow_pos}
use Rattle.mr_set.specs.Elements.{with_element, numbers_below}
use Rattle.mr_set.specs.Subsets.{IsSetOf, IsBefore, IsFirst, IsNext, IsLast, list_cmp}
use Rattle.mr_set.proofs.Members.{cmp_from_less}
use Rattle.mr_set.specs.Private.Enumeration.{IsFrom, run, IsNextFrom, IsLastFrom, weight}
use Rattle.mr_set.proofs.Sorted.{all_head, all_tail, all_cons, all_none, below_all, all_above, sorted_cons, sorted_parts, sorted_none, with_front}

-- with the same first number the rests decide
pub before_same : (e : ℕ) (a b : List ℕ) → IsBefore a b → IsBefore (e ∷ a) (e ∷ b)
before_same e a b lt = ap (λ o. ordering_then o (list_cmp a b)) (tied_itself nat_cmp_total e) ∙ lt

-- the list with the smaller first number comes first
pub before_less : (e f : ℕ) (a b : List ℕ) → e < f → IsBefore (e ∷ a) (f ∷ b)
before_less e f a b lt = ap (λ o. ordering_then o (list_cmp a b)) (cmp_from_less e f lt)

-- a list comes first by its first number, or by the rest where the first numbers are equal
pub before_parts : (e f : ℕ) (a b : List ℕ) → IsBefore (e ∷ a) (f ∷ b) → (e < f) ⊎ ((e ≡ f) × IsBefore a b)
before_parts e f a b lt = elim (cases_lt e f) [
  | inl less ↦ inl less
  | inr no_less ↦ elim (cases_lt f e) [
    | inl more ↦ absurd (let back = cmp_from_less f e more in let turn = nat_cmp_total.antisymm f e in greater (nat_cmp e f) (list_cmp a b) back turn lt)
    | inr equal ↦ let same : e ≡ f = omega arith in
        inr (same, sym (ap (λ o. ordering_then o (list_cmp a b)) (ap (λ k. nat_cmp k f) same ∙ tied_itself nat_cmp_total f)) ∙ lt)
  ]
]
  where
    greater : (o p : Ordering) → nat_cmp f e ≡ Less → nat_cmp f e ≡ ordering_reverse o → ordering_then o p ≡ Less → ⊥
    greater Less p back turn lt = cc
    greater Equal p back turn lt = cc
    greater Greater p back turn lt = cc

-- no list comes before itself
pub irreflexive : (x : List ℕ) → IsBefore x x → ⊥
irreflexive x lt = let same = tied_itself nat_list_cmp_total x in cc

-- the first number of a set and the rest
pub from_head : (low n e : ℕ) (es : List ℕ) → IsFrom low n (e ∷ es) → (low ≤ e) × (e < n)
from_head low n e es is = (all_head (λ x. low ≤ x) e es is.from, all_head (λ x. x < n) e es is.within)

-- the rest of a set has greater elements
pub from_tail : (low n e : ℕ) (es : List ℕ) → IsFrom low n (e ∷ es) → IsFrom (e + 1) n es
from_tail low n e es is =
    let parts = sorted_parts e es is.increasing in
    record { increasing = parts.1; within = all_tail (λ x. x < n) e es is.within; from = all_above e es parts.0 }

-- a smaller number in front of a set makes a set
pub from_cons : (low n e : ℕ) (es : List ℕ) → low ≤ e → e < n → IsFrom (e + 1) n es → IsFrom low n (e ∷ es)
from_cons low n e es le lt is = record {
  increasing = sorted_cons e es (below_all e es is.from) is.increasing;
  within = all_cons (λ x. x < n) e es lt is.within;
  from = all_cons (λ x. low ≤ x) e es le (λ k d h. let b = is.from k d h in omega arith);
}

-- the set without elements begins anywhere
pub from_none : (low n : ℕ) → IsFrom low n []
from_none low n = record { increasing = sorted_none; within = all_none (λ e. e < n); from = all_none (λ e. low ≤ e) }

-- a set of some of the first n elements is one of elements from 0 on
pub from_set : (n r : ℕ) (x : List ℕ) → IsSetOf n r x → IsFrom 0 n x
from_set n r x is = record { increasing = is.set.increasing; within = is.set.elements; from = λ k d lt. omega arith }

-- and the other way round
pub set_from : (n r low : ℕ) (x : List ℕ) → IsFrom low n x → length x ≡ r → IsSetOf n r x
set_from n r low x is size = record { set = record { increasing = is.increasing; elements = is.within }; size = size }

-- a set has room
pub room : (low n e : ℕ) (es : List ℕ) → IsFrom low n (e ∷ es) → low + length (e ∷ es) ≤ n
room low n e [] is = let h = from_head low n e [] is in omega arith
room low n e (f ∷ es) is = let h = from_head low n e (f ∷ es) is in let k = room (e + 1) n f es (from_tail low n e (f ∷ es) is) in omega arith

-- the first numbers from low on are the least set
pub length-run : (low count : ℕ) → length (run low count) ≡ count
unfolding run
length-run low zero = refl
length-run low (suc count) = ap suc (length-run (low + 1) count)

-- they are a set
pub run-from : (low n count : ℕ) → low + count ≤ n → IsFrom low n (run low count)
unfolding run
run-from low n zero le = from_none low n
run-from low n (suc count) le = from_cons low n low (run (low + 1) count) (omega arith) (omega arith) (run-from (low + 1) n count (omega arith))

-- no set of their size comes before them
pub run-least : (low n count : ℕ) (z : List ℕ) → IsFrom low n z → length z ≡ count → IsBefore z (run low count) → ⊥
unfolding run
run-least low n zero [] is size lt = cc
run-least low n zero (f ∷ fs) is size lt = omega arith
run-least low n (suc count) [] is size lt = omega arith
run-least low n (suc count) (f ∷ fs) is size lt = elim (before_parts f low fs (run (low + 1) count) lt) [
  | inl less ↦ let h = from_head low n f fs is in omega arith
  | inr same ↦ run-least (low + 1) n count fs (subst (λ k. IsFrom (k + 1) n fs) same.0 (from_tail low n f fs is)) (omega arith) same.1
]

-- no set without elements has a next one
pub last_none : (low n : ℕ) → IsLastFrom low n []
last_none low n [] is size lt = cc
last_none low n (e ∷ es) is size lt = omega arith

-- the next set keeps the first number where the rest has a next one
pub next_same : (low n e : ℕ) (es t : List ℕ) → IsFrom low n (e ∷ es) → IsNextFrom (e + 1) n es t → IsNextFrom low n (e ∷ es) (e ∷ t)
next_same low n e es t is next = let h = from_head low n e es is in record {
  set = from_cons low n e t h.0 h.1 next.set;
  size = ap suc next.size;
  after = before_same e es t next.after;
  none_between = between;
}
  where
    between : (z : List ℕ) → IsFrom low n z → length z ≡ length (e ∷ es) → IsBefore (e ∷ es) z → IsBefore z (e ∷ t) → ⊥
    between [] from size lo hi = omega arith
    between (f ∷ fs) from size lo hi = elim (before_parts e f es fs lo) [
      | inl less ↦ elim (before_parts f e fs t hi) [ inl more ↦ omega arith | inr same ↦ let g = same.0 in omega arith ]
      | inr same ↦ elim (before_parts f e fs t hi) [
        | inl more ↦ let g = same.0 in omega arith
        | inr again ↦ next.none_between fs (subst (λ k. IsFrom (k + 1) n fs) (sym same.0) (from_tail low n f fs from)) (omega arith) same.1 again.1
      ]
    ]

-- else it begins with the next number
pub next_raised : (low n e : ℕ) (es : List ℕ) → IsFrom low n (e ∷ es) → IsLastFrom (e + 1) n es → e + 1 + length (e ∷ es) ≤ n → IsNextFrom low n (e ∷ es) (run (e + 1) (length (e ∷ es)))
unfolding run
next_raised low n e es is last le = let h = from_head low n e es is in record {
  set = raised (run-from (e + 1) n (length (e ∷ es)) le) h.0;
  size = length-run (e + 1) (length (e ∷ es));
  after = before_less e (e + 1) es (run (e + 1 + 1) (length es)) (omega arith);
  none_between = between;
}
  where
    raised : {x : List ℕ} → IsFrom (e + 1) n x → low ≤ e → IsFrom low n x
    raised from le = record { increasing = from.increasing; within = from.within; from = λ k d lt. let b = from.from k d lt in omega arith }

    between : (z : List ℕ) → IsFrom low n z → length z ≡ length (e ∷ es) → IsBefore (e ∷ es) z → IsBefore z (run (e + 1) (length (e ∷ es))) → ⊥
    between [] from size lo hi = omega arith
    between (f ∷ fs) from size lo hi = elim (before_parts e f es fs lo) [
      | inl less ↦ run-least (e + 1) n (length (e ∷ es)) (f ∷ fs) (from_cons (e + 1) n f fs (omega arith) (let g = from_head low n f fs from in g.1) (from_tail low n f fs from)) size hi
      | inr same ↦ last fs (subst (λ k. IsFrom (k + 1) n fs) (sym same.0) (from_tail low n f fs from)) (omega arith) same.1
    ]

-- or there is none
pub last_raised : (low n e : ℕ) (es : List ℕ) → IsLastFrom (e + 1) n es → n < e + 1 + length (e ∷ es) → IsLastFrom low n (e ∷ es)
last_raised low n e es last full [] from size lo = omega arith
last_raised low n e es last full (f ∷ fs) from size lo = elim (before_parts e f es fs lo) [
  | inl less ↦ let k = room (e + 1) n f fs (from_cons (e + 1) n f fs (omega arith) (let g = from_head low n f fs from in g.1) (from_tail low n f fs from)) in omega arith
  | inr same ↦ last fs (subst (λ k. IsFrom (k + 1) n fs) (sym same.0) (from_tail low n f fs from)) (omega arith) same.1
]

-- the next set from 0 on is the next of all
pub next_of : (n r : ℕ) (x y : List ℕ) → IsNextFrom 0 n x y → IsNext n x y
next_of n r x y next = record {
  subset = set_from n (length x) 0 y next.set next.size;
  after = next.after;
  none_between = λ z is lo hi. next.none_between z (from_set n (length x) z is) is.size lo hi;
}

-- no next set from 0 on is no next set at all
pub last_of : (n : ℕ) (x : List ℕ) → IsLastFrom 0 n x → IsLast n x
last_of n x last z is lt = last z (from_set n (length x) z is) is.size lt

-- the first numbers are the first set
pub first_of_all : (n r : ℕ) → r ≤ n → IsFirst n r (run 0 r)
first_of_all n r le = record {
  subset = set_from n r 0 (run 0 r) (run-from 0 n r (omega arith)) (length-run 0 r);
  least = λ z is lt. run-least 0 n r z (from_set n r z is) is.size lt;
}

-- the weight of the first number and of the rest
weight-cons : (e : ℕ) (es : List ℕ) → weight (e ∷ es) ≡ 2 ^ (31 - e) + weight es
unfolding weight
weight-cons e es = refl

-- two halves
double : (k : ℕ) → 2 ^ suc k ≡ 2 ^ k + 2 ^ k
double k = rw (pow-suc 2 k) (omega arith)

-- a set whose elements begin at low weighs less than the bit before low
weight-small : (low : ℕ) (x : List ℕ) → IsFrom low 32 x → low ≤ 32 → weight x < 2 ^ (32 - low)
unfolding weight
weight-small low [] is le = pow_pos (32 - low)
weight-small low (e ∷ es) is le =
    let h = from_head low 32 e es is in
    let rest = weight-small (e + 1) es (from_tail low 32 e es is) (omega arith) in
    let here : 2 ^ (31 - e) ≡ 2 ^ (32 - (e + 1)) = ap (λ k. 2 ^ k) (let d : 31 - e ≡ 32 - (e + 1) = omega arith in d) in
    let twice = double (31 - e) in
    let more = pow-le-pow_right {n = 2} (omega arith) (let d : suc (31 - e) ≤ 32 - low = omega arith in d) in
    let total = weight-cons e es in
    omega arith

-- the later of two sets of one size weighs less
pub weight_falls : (low : ℕ) (x y : List ℕ) → IsFrom low 32 x → IsFrom low 32 y → length y ≡ length x → IsBefore x y → weight y < weight x
unfolding weight
weight_falls low [] [] p q size lt = absurd cc
weight_falls low [] (f ∷ fs) p q size lt = absurd (omega arith)
weight_falls low (e ∷ es) [] p q size lt = absurd (omega arith)
weight_falls low (e ∷ es) (f ∷ fs) p q size lt = elim (before_parts e f es fs lt) [
  | inl less ↦
      let g = from_head low 32 f fs q in
      let small = weight-small f (f ∷ fs) (from_cons f 32 f fs (omega arith) g.1 (from_tail low 32 f fs q)) (omega arith) in
      let more = pow-le-pow_right {n = 2} (omega arith) (let d : 32 - f ≤ 31 - e = omega arith in d) in
      let total = weight-cons e es in
      omega arith
  | inr same ↦
      let rest = weight_falls (e + 1) es fs (from_tail low 32 e es p) (subst (λ k. IsFrom (k + 1) 32 fs) (sym same.0) (from_tail low 32 f fs q)) (omega arith) same.1 in
      let here : 2 ^ (31 - f) ≡ 2 ^ (31 - e) = ap (λ k. 2 ^ (31 - k)) (sym same.0) in
      let one = weight-cons e es in
      let two = weight-cons f fs in
      omega arith
]

-- a run, one element after another
pub run_none : (low count : ℕ) → count ≡ 0 → run low count ≡ []
unfolding run
run_none low zero is = refl
run_none low (suc count) is = absurd (omega arith)

-- one number in front of a run
pub run_more : (low count : ℕ) → count ≢ 0 → low + count ≤ 32 → run low count ≡ with_element low (run (low + 1) (count - 1))
unfolding run
run_more low zero some le = absurd (some refl)
run_more low (suc count) some le =
    let less : suc count - 1 ≡ count = omega arith in
    rw less (sym (with_front low (run (low + 1) count) (let h = run-from (low + 1) 32 count (omega arith) in h.from)))

-- one number more at the end of a run
run-back : (low count : ℕ) → run low (suc count) ≡ run low count ++ (low + count) ∷ []
unfolding run
run-back low zero = ap (λ (k : ℕ). k ∷ []) (omega arith)
run-back low (suc count) =
    ap (λ w. low ∷ w) (run-back (low + 1) count ∙ ap (λ (k : ℕ). run (low + 1) count ++ k ∷ []) (let e : low + 1 + count ≡ low + suc count = omega arith in e))

-- the run from 0 on
pub run-numbers_below : (n : ℕ) → run 0 n ≡ numbers_below n
run-numbers_below zero = run_none 0 0 refl
run-numbers_below (suc n) =
    run-back 0 n ∙ ap (λ (k : ℕ). run 0 n ++ k ∷ []) (let e : 0 + n ≡ n = omega arith in e) ∙ ap (λ w. w ++ n ∷ []) (run-numbers_below n)
