-- Counts of sets in rows, by the row above.
use Rattle.std.proofs.Common.{◌≡◌, ℕ, ◌+◌, ◌-◌, ◌*◌, ◌/◌, ◌%◌, ◌^◌, ◌≤◌, List, [], ◌∷◌, ◌++◌, length, get_or, ap, ◌∙◌, inl, inr, arith}
use Rattle.std.specs.Prelude.{◌<◌, ◌≢◌}
use Rattle.std.proofs.lemmas.Bool.{cases_lt}
use Rattle.std.proofs.lemmas.List.{length_push, get_or_push, get_or_append_left}
use Rattle.mr_set.specs.Subsets.{choose}
use Rattle.mr_set.specs.Private.Enumeration.{IsFrom}
use Rattle.mr_set.specs.declared.TheConstants.{ELEMENTS}
use Rattle.mr_set.proofs.Choose.{choose-parts, choose-small}
use Rattle.mr_set.proofs.Lexicographic.{room}
use Rattle.mr_matroid.specs.Private.Counts.{AreCountsBelow, AreCounts}

-- one count more
pub counts_more : (end v : ℕ) (counts : List ℕ) → AreCountsBelow end counts → v ≡ choose (end / (ELEMENTS + 1)) (end % (ELEMENTS + 1)) → AreCountsBelow (end + 1) (counts ++ v ∷ [])
counts_more end v counts are is = record {
  size = length_push counts v ∙ ap (λ n. n + 1) are.size;
  each = λ i lt. elim (cases_lt i end) [
    | inl less ↦ get_or_append_left counts (v ∷ []) 0 i (let size = are.size in omega arith) ∙ are.each i less
    | inr le ↦
        let same : end ≡ i = omega arith in
        get_or_push counts v 0 i (are.size ∙ same) ∙ is ∙ ap (λ k. choose (k / (ELEMENTS + 1)) (k % (ELEMENTS + 1))) same
  ];
}

-- the count by the two above it
pub by_row_above : (i : ℕ) (counts : List ℕ) → AreCountsBelow i counts → i % (ELEMENTS + 1) ≢ 0 → ELEMENTS + 1 ≤ i → get_or counts (i - (ELEMENTS + 1) - 1) 0 + get_or counts (i - (ELEMENTS + 1)) 0 ≡ choose (i / (ELEMENTS + 1)) (i % (ELEMENTS + 1))
by_row_above i counts are some le =
    let one = are.each (i - (ELEMENTS + 1) - 1) (omega arith) in
    let two = are.each (i - (ELEMENTS + 1)) (omega arith) in
    let row_one : (i - (ELEMENTS + 1) - 1) / (ELEMENTS + 1) ≡ i / (ELEMENTS + 1) - 1 = omega arith in
    let row_two : (i - (ELEMENTS + 1)) / (ELEMENTS + 1) ≡ i / (ELEMENTS + 1) - 1 = omega arith in
    let size_one : (i - (ELEMENTS + 1) - 1) % (ELEMENTS + 1) ≡ i % (ELEMENTS + 1) - 1 = omega arith in
    let size_two : (i - (ELEMENTS + 1)) % (ELEMENTS + 1) ≡ i % (ELEMENTS + 1) = omega arith in
    let left = one ∙ ap (λ m. choose m ((i - (ELEMENTS + 1) - 1) % (ELEMENTS + 1))) row_one ∙ ap (choose (i / (ELEMENTS + 1) - 1)) size_one in
    let right = two ∙ ap (λ m. choose m ((i - (ELEMENTS + 1)) % (ELEMENTS + 1))) row_two ∙ ap (choose (i / (ELEMENTS + 1) - 1)) size_two in
    let parts = choose-parts (i / (ELEMENTS + 1)) (i % (ELEMENTS + 1)) (omega arith) (omega arith) in
    omega arith

-- it fits
pub count_small : (i : ℕ) → i < (ELEMENTS + 1) * (ELEMENTS + 1) → choose (i / (ELEMENTS + 1)) (i % (ELEMENTS + 1)) < 2 ^ 64
count_small i lt =
    let row : i / (ELEMENTS + 1) ≤ ELEMENTS = omega arith in
    let small = choose-small (i / (ELEMENTS + 1)) (i % (ELEMENTS + 1)) row in
    omega arith

-- the count of a row for a size
pub count_at : (n m r : ℕ) (counts : List ℕ) → AreCounts n counts → m ≤ n → r ≤ ELEMENTS → get_or counts (m * (ELEMENTS + 1) + r) 0 ≡ choose m r
count_at n m r counts are le small =
    let row : (m * (ELEMENTS + 1) + r) / (ELEMENTS + 1) ≡ m = omega arith in
    let size : (m * (ELEMENTS + 1) + r) % (ELEMENTS + 1) ≡ r = omega arith in
    are.each (m * (ELEMENTS + 1) + r) (omega arith) ∙ ap (λ k. choose k ((m * (ELEMENTS + 1) + r) % (ELEMENTS + 1))) row ∙ ap (choose m) size

-- a set has at most as many elements as there are
pub size_small : (low n : ℕ) (x : List ℕ) → IsFrom low n x → length x ≤ n
size_small low n [] is = omega arith
size_small low n (e ∷ es) is = let h = room low n e es is in omega arith
