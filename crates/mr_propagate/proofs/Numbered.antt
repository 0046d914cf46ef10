-- Numbers of pairs.
use Rattle.std.proofs.Common.{ℕ, ◌+◌, ◌*◌, ◌≡◌, ◌≢◌, ◌<◌, ◌≤◌, ◌↔◌, List, length, get_or, refl, sym, ap, subst, ◌∙◌, inr, ⊎_elim, arith}
use Rattle.std.proofs.lemmas.Bool.{cases_eq, cases_lt}
use Rattle.std.proofs.lemmas.List.{get_or_past}
use Rattle.std.proofs.lemmas.List.Elements.{All-get_or}
use Rattle.mr_assign.specs.Assign.{IsAssign}
use Rattle.mr_assign.specs.declared.TheConstants.{POSITIONS, VALUES}
use Rattle.mr_propagate.specs.Pairs.{IsLeastPair}
use Rattle.mr_propagate.specs.Private.Pairs.{IsEmpty, IsGreatestPair, IsPair, pair_number, IsPairNumber}

-- a value is one of those that there are, or 0
pub value_le : (c : List ℕ) (p : ℕ) → IsAssign c → get_or c p 0 ≤ VALUES
value_le c p map = ⊎_elim
    (λ (lt : p < length c). All-get_or (λ (v : ℕ). v ≤ VALUES) c p 0 lt map.values)
    (λ (le : length c ≤ p). let none = get_or_past c p 0 le in omega arith)
    (cases_lt p (length c))

-- past the last position there is no value
pub no_value_past : (c : List ℕ) (p : ℕ) → IsAssign c → POSITIONS ≤ p → get_or c p 0 ≡ 0
no_value_past c p map le = get_or_past c p 0 (let size = map.positions in omega arith)

-- a position with a value is one of those that there are
pub position_lt : (c : List ℕ) (p : ℕ) → IsAssign c → get_or c p 0 ≢ 0 → p < POSITIONS
position_lt c p map some = ⊎_elim (λ (lt : p < POSITIONS). lt) (λ (le : POSITIONS ≤ p). absurd (some (no_value_past c p map le))) (cases_lt p POSITIONS)

-- pairs have numbers of their own
pub one_pair : (p v q w : ℕ) → 0 < v → v ≤ VALUES → 0 < w → w ≤ VALUES → pair_number p v ≡ pair_number q w → (p ≡ q) × (v ≡ w)
one_pair p v q w some small other_some other_small same = (omega arith, omega arith)

-- a map has one least pair
pub one_least : (c : List ℕ) (p v q w : ℕ) → IsLeastPair c p v → IsLeastPair c q w → (p ≡ q) × (v ≡ w)
one_least c p v q w here there = (same, sym here.value ∙ ap (λ (k : ℕ). get_or c k 0) same ∙ there.value)
  where
    same : p ≡ q
    same = ⊎_elim
        (λ (lt : p < q). absurd (here.some (sym here.value ∙ there.least p lt)))
        (λ (le : q ≤ p). ⊎_elim (λ (is : p ≡ q). is) (λ (other : p ≢ q). absurd (there.some (sym there.value ∙ here.least q (omega arith)))) (cases_eq p q))
        (cases_lt p q)

-- and one greatest
pub one_greatest : (c : List ℕ) (p v q w : ℕ) → IsGreatestPair c p v → IsGreatestPair c q w → (p ≡ q) × (v ≡ w)
one_greatest c p v q w here there = (same, sym here.value ∙ ap (λ (k : ℕ). get_or c k 0) same ∙ there.value)
  where
    same : p ≡ q
    same = ⊎_elim
        (λ (lt : p < q). absurd (there.some (sym there.value ∙ here.greatest q lt)))
        (λ (le : q ≤ p). ⊎_elim (λ (is : p ≡ q). is) (λ (other : p ≢ q). absurd (here.some (sym here.value ∙ there.greatest p (omega arith)))) (cases_eq p q))
        (cases_lt p q)

-- a kind of pair of which a map has one at most, and the empty map none, has one number
one_number : (R : List ℕ → ℕ → ℕ → Type 0) (c : List ℕ) → ((p v q w : ℕ) → R c p v → R c q w → (p ≡ q) × (v ≡ w)) → ((p v : ℕ) → R c p v → IsEmpty c → ⊥) →
    (k j : ℕ) → IsPairNumber R c k → IsPairNumber R c j → k ≡ j
one_number R c one some k j here there = ⊎_elim
    (λ (a : (k ≡ 0) × IsEmpty c). ⊎_elim
    (λ (b : (j ≡ 0) × IsEmpty c). a.0 ∙ sym b.0)
    (λ (b : (q : ℕ) × (w : ℕ) × (j ≡ pair_number q w) × R c q w). absurd (some b.0 b.1 b.3 a.1))
    there)
    (λ (a : (p : ℕ) × (v : ℕ) × (k ≡ pair_number p v) × R c p v). ⊎_elim
    (λ (b : (j ≡ 0) × IsEmpty c). absurd (some a.0 a.1 a.3 b.1))
    (λ (b : (q : ℕ) × (w : ℕ) × (j ≡ pair_number q w) × R c q w).
    let same = one a.0 a.1 b.0 b.1 a.3 b.3 in
    a.2 ∙ ap (λ (p : ℕ). pair_number p a.1) same.0 ∙ ap (pair_number b.0) same.1 ∙ sym b.2)
    there)
    here

-- the number of the least pair
pub one_least_number : (c : List ℕ) (k j : ℕ) → IsPairNumber IsLeastPair c k → IsPairNumber IsLeastPair c j → k ≡ j
one_least_number c = one_number IsLeastPair c (one_least c) (λ p v is empty. is.some (sym is.value ∙ empty p))

-- the number of the greatest pair
pub one_greatest_number : (c : List ℕ) (k j : ℕ) → IsPairNumber IsGreatestPair c k → IsPairNumber IsGreatestPair c j → k ≡ j
one_greatest_number c = one_number IsGreatestPair c (one_greatest c) (λ p v is empty. is.some (sym is.value ∙ empty p))

-- the least pair of a map is the one with its number
pub least_at : (c : List ℕ) (p v : ℕ) → IsAssign c → IsPair p v → IsPairNumber IsLeastPair c (pair_number p v) ↔ IsLeastPair c p v
least_at c p v map pair = (
  (λ number. ⊎_elim
      (λ (a : (pair_number p v ≡ 0) × IsEmpty c). absurd (let zero = a.0 in let some = pair.some in omega arith))
      (λ (a : (q : ℕ) × (w : ℕ) × (pair_number p v ≡ pair_number q w) × IsLeastPair c q w).
      let there = a.3 in
      let small : a.1 ≤ VALUES = subst (λ (x : ℕ). x ≤ VALUES) there.value (value_le c a.0 map) in
      let positive : 0 < a.1 = let some = there.some in omega arith in
      let same = one_pair p v a.0 a.1 pair.some pair.value positive small a.2 in
      subst (λ (x : ℕ). IsLeastPair c x v) (sym same.0) (subst (IsLeastPair c a.0) (sym same.1) there))
      number),
  (λ is. inr (p, v, refl, is)),
)

-- the least pair of a map is one that there may be
pub pair_of : (c : List ℕ) (p v : ℕ) → IsAssign c → IsLeastPair c p v → IsPair p v
pair_of c p v map is = record {
  position = position_lt c p map (λ zero. is.some (sym is.value ∙ zero));
  some = let some = is.some in omega arith;
  value = subst (λ (x : ℕ). x ≤ VALUES) is.value (value_le c p map);
}

-- a number of a pair is the number of a place in the lists
pub pair_number-lt : (p v : ℕ) → p < POSITIONS → v ≤ VALUES → pair_number p v < POSITIONS * VALUES + 1
pair_number-lt p v position value = omega arith
