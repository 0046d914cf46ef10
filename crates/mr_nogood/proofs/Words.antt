-- A row comes back from its words.
use Rattle.std.proofs.Common.{◌≡◌, ℕ, suc, ◌+◌, ◌*◌, ◌/◌, ◌%◌, ◌^◌, ◌<◌, ◌≤◌, true, false, cond, List, [], ◌∷◌, ◌++◌, map, take, drop, length, set, get_or, refl, sym, ap, subst, ◌∙◌, ⊎_elim, arith, length-set, length-append, length-drop, get_or-set_same, get_or-set_other}
use Rattle.std.specs.Prelude.{All, Any, nat_le, count_by, nat_lt, slice_range, bit_or}
use Rattle.std.specs.Ordering.{nat_cmp}
use Rattle.std.specs.List.Sorted.{IsStrictlySortedBy}
use Rattle.std.proofs.lemmas.Bool.{cases_lt}
use Rattle.std.proofs.lemmas.Bool.Decides.{nat_tests}
use Rattle.std.proofs.lemmas.List.{ext_get_or, get_or_default, get_or-drop, get_or-map, length-map, take-set-le, take-append-drop}
use Rattle.std.proofs.lemmas.Nat.{or_lt}
use Rattle.std.proofs.Math.Nat.{pow-le-pow_right}
use Rattle.std.proofs.Math.Seq.{take-append_seam, drop-append_seam}
use Rattle.mr_set.specs.Elements.{elements_below, mask_of}
use Rattle.mr_set.specs.Private.Masks.{mask_of-elements_below}
use Rattle.mr_set.proofs.Bits.{with_bit}
use Rattle.mr_set.proofs.Sorted.{all_head, all_tail, all_above, sorted_parts, with_front}
use Rattle.mr_assign.specs.Assign.{IsAssign}
use Rattle.mr_assign.specs.Packing.{nibbles, map_words}
use Rattle.mr_assign.specs.Private.Again.{length-map_words}
use Rattle.mr_assign.specs.declared.TheConstants.{CLAUSE_WORDS, VALUES}
use Rattle.mr_assign.proofs.Masks.{nibbles-map_words}
use Rattle.mr_nogood.specs.declared.TheConstants.{ROW_WORDS}
use Rattle.mr_nogood.specs.Row.{cite_for, IsCite, IsRow}
use Rattle.mr_nogood.specs.Packing.{head_of, cite_word, row_packing}
use Rattle.mr_nogood.specs.Unpacking.{cite_of, unpacked}
use Rattle.mr_nogood.specs.Laws.{RowsHaveWordsOfTheirOwn}
use Rattle.mr_nogood.specs.declared.row.Cite.{Cite}
use Rattle.mr_nogood.specs.declared.row.Cite.TheVariants.{Nothing, Test, Slot}
use Rattle.mr_nogood.specs.declared.row.Row.{Row}

-- no elements have the empty mask
no_elements : elements_below 32 0 ≡ []
unfolding elements_below
no_elements = refl

-- a power with a greater exponent is no smaller
power_le : (e n : ℕ) → e ≤ n → 2 ^ e ≤ 2 ^ n
power_le e n le = pow-le-pow_right (omega arith) le

-- a set of elements comes back from its mask, which has 32 bits
pub elements-mask_of : (x : List ℕ) → IsStrictlySortedBy nat_cmp x → All (λ e. e < 32) x → (mask_of x < 2 ^ 32) × (elements_below 32 (mask_of x) ≡ x)
elements-mask_of [] sorted below = (omega arith, no_elements)
elements-mask_of (e ∷ xs) sorted below =
    let parts = sorted_parts e xs sorted in
    let small : e < 32 = all_head (λ k. k < 32) e xs below in
    let rest = elements-mask_of xs parts.1 (all_tail (λ k. k < 32) e xs below) in
    let both : ℕ = bit_or (mask_of xs) (1 * 2 ^ e % 2 ^ 64) in
    let power : 2 ^ e ≤ 2 ^ 31 = power_le e 31 (omega arith) in
    let fits : both < 2 ^ 32 = or_lt 32 (mask_of xs) (1 * 2 ^ e % 2 ^ 64) rest.0 (omega arith) in
    let elements_are : elements_below 32 both ≡ e ∷ xs = with_bit (mask_of xs) e xs rest.1 small ∙ with_front e xs (all_above e xs parts.0) in
    let mask_is : mask_of (e ∷ xs) ≡ both = ap mask_of (sym elements_are) ∙ mask_of-elements_below both fits in
    (subst (λ m. m < 2 ^ 32) (sym mask_is) fits, ap (elements_below 32) mask_is ∙ elements_are)

-- a cite comes back from its word
pub cite_of-cite_word : (cite : Cite) → IsCite cite → cite_of (cite_word cite) ≡ cite
unfolding cite_of
cite_of-cite_word Nothing is = refl
cite_of-cite_word (Test x) is =
    let back = elements-mask_of x is.increasing is.elements in
    let bound = back.0 in
    let high : nat_le (2 ^ 57) (2 ^ 56 + mask_of x) ≡ false = grind (arith, nat_tests) in
    let low : nat_le (2 ^ 56) (2 ^ 56 + mask_of x) ≡ true = grind (arith, nat_tests) in
    let mask : (2 ^ 56 + mask_of x) % 2 ^ 32 ≡ mask_of x = omega arith in
    ap (λ b. cond b (Slot ((2 ^ 56 + mask_of x) % 2 ^ 32)) (cond (nat_le (2 ^ 56) (2 ^ 56 + mask_of x)) (Test (elements_below 32 ((2 ^ 56 + mask_of x) % 2 ^ 32))) Nothing)) high
    ∙ ap (λ b. cond b (Test (elements_below 32 ((2 ^ 56 + mask_of x) % 2 ^ 32))) Nothing) low
    ∙ ap (λ m. Test (elements_below 32 m)) mask ∙ ap Test back.1
cite_of-cite_word (Slot s) is =
    let high : nat_le (2 ^ 57) (2 ^ 57 + s) ≡ true = grind (arith, nat_tests) in
    let number : (2 ^ 57 + s) % 2 ^ 32 ≡ s = omega arith in
    ap (λ b. cond b (Slot ((2 ^ 57 + s) % 2 ^ 32)) (cond (nat_le (2 ^ 56) (2 ^ 57 + s)) (Test (elements_below 32 ((2 ^ 57 + s) % 2 ^ 32))) Nothing)) high ∙ ap Slot number

-- and so do all of a list
cites_back : (cites : List Cite) → All IsCite cites → map cite_of (map cite_word cites) ≡ cites
cites_back [] all = refl
cites_back (x ∷ xs) all =
    let rest : map cite_of (map cite_word xs) ≡ xs = cites_back xs (λ k d lt. all (suc k) d (omega arith)) in
    ap (λ c. c ∷ map cite_of (map cite_word xs)) (cite_of-cite_word x (all 0 x (omega arith))) ∙ ap (λ cs. x ∷ cs) rest

-- the row of these parts
abbrev made : ℕ → ℕ → List ℕ → List Cite → Row
made r p c xs = record { rank = r; at = p; clause = c; cites = xs }

-- rows are the same where their parts are
pub same_rows : (a b : Row) → a.rank ≡ b.rank → a.at ≡ b.at → a.clause ≡ b.clause → a.cites ≡ b.cites → a ≡ b
same_rows a b rank at clause cites = ap (λ x. made x a.at a.clause a.cites) rank ∙ ap (λ x. made b.rank x a.clause a.cites) at ∙ ap (λ x. made b.rank b.at x a.cites) clause ∙ ap (made b.rank b.at b.clause) cites

-- the words of the clause stand after the head
clause_words : (h : ℕ) (ws cs : List ℕ) → length ws ≡ CLAUSE_WORDS → slice_range (h ∷ (ws ++ cs)) 1 7 ≡ ws
clause_words h ws cs size = ap (λ n. take n (ws ++ cs)) (sym size) ∙ take-append_seam ws cs

-- and those of the cites after them
cite_words : (h : ℕ) (ws cs : List ℕ) → length ws ≡ CLAUSE_WORDS → drop 7 (h ∷ (ws ++ cs)) ≡ cs
cite_words h ws cs size = ap (λ n. drop n (ws ++ cs)) (sym size) ∙ drop-append_seam ws cs

-- the rank stands in the lowest bits of the head
head-rank : (count at rank : ℕ) → rank < 2 ^ 32 → (2 ^ 63 + count * 2 ^ 40 + at * 2 ^ 32 + rank) % 2 ^ 32 ≡ rank
head-rank count at rank small = omega arith

-- and the position above it
head-at : (count at rank : ℕ) → rank < 2 ^ 32 → at < 2 ^ 8 → (2 ^ 63 + count * 2 ^ 40 + at * 2 ^ 32 + rank) / 2 ^ 32 % 2 ^ 8 ≡ at
head-at count at rank small low = omega arith

-- a row comes back from its words
pub unpacked-packed : (row : Row) → IsRow row → unpacked (row_packing row) ≡ row
unfolding unpacked
unpacked-packed row is =
    let size = length-map_words row.clause in
    let cs : List ℕ = map cite_word row.cites in
    let count : ℕ = count_by (λ v. nat_lt 0 v) row.clause in
    same_rows (unpacked (row_packing row)) row
    (head-rank count row.at row.rank is.rank)
    (head-at count row.at row.rank is.rank is.at)
    (ap nibbles (clause_words (head_of row) (map_words row.clause) cs size) ∙ nibbles-map_words row.clause is.clause)
    (ap (map cite_of) (cite_words (head_of row) (map_words row.clause) cs size) ∙ cites_back row.cites is.cites)

-- so rows have words of their own
pub rows_have_words_of_their_own : RowsHaveWordsOfTheirOwn
rows_have_words_of_their_own a b isa isb same = sym (unpacked-packed a isa) ∙ ap unpacked same ∙ unpacked-packed b isb

-- the words have the head and the clause of a row, and its first cites, which are such as a row may have
pub record IsPackedTo (row : Row) (words : List ℕ) (k : ℕ) : Type 0 where
  pub size : length words ≡ ROW_WORDS
  pub front : take 7 words ≡ head_of row ∷ map_words row.clause
  pub cites : (j : ℕ) → j < k → (length row.cites ≡ VALUES) × IsCite (cite_for row j) × (get_or words (7 + j) 0 ≡ cite_word (cite_for row j))

-- the head and the clause are written first
pub packed_none : (row : Row) (h : ℕ) (ws ys : List ℕ) → h ≡ head_of row → ws ≡ map_words row.clause → length ys ≡ VALUES → IsPackedTo row (h ∷ (ws ++ ys)) 0
packed_none row h ws ys head clause rest =
    let six : length ws ≡ CLAUSE_WORDS = ap length clause ∙ length-map_words row.clause in
    record {
      size = omega (arith, length-append ws ys);
      front = ap (λ t. h ∷ t) (ap (λ n. take n (ws ++ ys)) (sym six) ∙ take-append_seam ws ys) ∙ ap (λ n. n ∷ ws) head ∙ ap (λ t. head_of row ∷ t) clause;
      cites = λ j lt. absurd (omega arith);
    }

-- then one cite after another
pub packed_more : (row : Row) (words : List ℕ) (k w : ℕ) (cite : Cite) → k < VALUES → length row.cites ≡ VALUES → cite ≡ cite_for row k → IsCite cite → w ≡ cite_word cite → IsPackedTo row words k → IsPackedTo row (set words (7 + k) w) (k + 1)
packed_more row words k w cite lt count is good word h = record {
  size = length-set words (7 + k) w ∙ h.size;
  front = take-set-le 7 words (7 + k) w (omega arith) ∙ h.front;
  cites = λ j below. ⊎_elim
      (λ (l : j < k). let old = h.cites j l in (old.0, old.1, get_or-set_other words (7 + k) (7 + j) w 0 (omega arith) ∙ old.2))
      (λ (ge : k ≤ j).
      let same : k ≡ j = omega arith in
      let here : get_or (set words (7 + k) w) (7 + k) 0 ≡ cite_word (cite_for row k) = get_or-set_same words (7 + k) w 0 (let n = h.size in omega arith) ∙ word ∙ ap cite_word is in
      (count, subst (λ i. IsCite (cite_for row i)) same (subst IsCite is good), subst (λ i. get_or (set words (7 + k) w) (7 + i) 0 ≡ cite_word (cite_for row i)) same here))
      (cases_lt j k);
}

-- after the last they are the words of the row
pub packed_all : (row : Row) (words : List ℕ) → IsPackedTo row words VALUES → words ≡ row_packing row
packed_all row words h =
    let count = (h.cites 0 (omega arith)).0 in
    let back : drop 7 words ≡ map cite_word row.cites =
    ext_get_or 0 (drop 7 words) (map cite_word row.cites) (let n = h.size in let m = length-map row.cites cite_word in omega (arith, length-drop 7 words)) (λ j lt.
    let inside : j < VALUES = let n = h.size in omega (arith, length-drop 7 words) in
    get_or-drop 7 words j 0 ∙ (h.cites j inside).2 ∙ sym (get_or-map cite_word row.cites j Nothing 0 (omega arith))) in
    sym (take-append-drop 7 words) ∙ ap (λ t. t ++ drop 7 words) h.front ∙ ap (λ t. (head_of row ∷ map_words row.clause) ++ t) back

-- and the row is such as the code may hold it
pub packed_row : (row : Row) (words : List ℕ) → row.rank < 2 ^ 32 → row.at < 2 ^ 8 → IsAssign row.clause → IsPackedTo row words VALUES → IsRow row
packed_row row words rank at clause h = record {
  rank = rank;
  at = at;
  clause = clause;
  count = (h.cites 0 (omega arith)).0;
  cites = λ k d lt. let count = (h.cites 0 (omega arith)).0 in subst IsCite (get_or_default row.cites k Nothing d lt) (h.cites k (omega arith)).1;
}

-- the row of the clause and the cites that were read
pub read_all : (words clause : List ℕ) (cites : List Cite) → length words ≡ ROW_WORDS → clause ≡ nibbles (slice_range words 1 7) → length cites ≡ VALUES
    → ((j : ℕ) → j < VALUES → get_or cites j Nothing ≡ cite_of (get_or words (7 + j) 0)) → made (get_or words 0 0 % 2 ^ 32) (get_or words 0 0 / 2 ^ 32 % 2 ^ 8) clause cites ≡ unpacked words
unfolding unpacked
read_all words clause cites size clause_is count reads =
    let back : cites ≡ map cite_of (drop 7 words) =
    ext_get_or Nothing cites (map cite_of (drop 7 words)) (omega (arith, length-map (drop 7 words) cite_of, length-drop 7 words)) (λ j lt.
    reads j (omega arith) ∙ ap cite_of (sym (get_or-drop 7 words j 0)) ∙ sym (get_or-map cite_of (drop 7 words) j 0 Nothing (omega (arith, length-drop 7 words)))) in
    ap (λ c. made (get_or words 0 0 % 2 ^ 32) (get_or words 0 0 / 2 ^ 32 % 2 ^ 8) c cites) clause_is ∙ ap (made (get_or words 0 0 % 2 ^ 32) (get_or words 0 0 / 2 ^ 32 % 2 ^ 8) (nibbles (slice_range words 1 7))) back

-- the words of a row give that row
pub is_unpacked : (words : List ℕ) (r row : Row) → r ≡ unpacked words → IsRow row → words ≡ row_packing row → r ≡ row
is_unpacked words r row is good same = is ∙ ap unpacked same ∙ unpacked-packed row good

-- so its words are those of what is read from them
pub packed-unpacked : (words : List ℕ) (r row : Row) → r ≡ unpacked words → IsRow row → words ≡ row_packing row → row_packing r ≡ words
packed-unpacked words r row is good same = ap row_packing (is_unpacked words r row is good same) ∙ sym same

-- and no nibble of the clause's words is above the values
pub none_large : (words : List ℕ) (row : Row) → IsRow row → words ≡ row_packing row → Any (λ v. VALUES < v) (nibbles (slice_range words 1 7)) → ⊥
unfolding unpacked
none_large words row good same (p, v, lt, read, large) =
    let clause_is : nibbles (slice_range words 1 7) ≡ row.clause = ap (λ (r : Row). r.clause) (ap unpacked same ∙ unpacked-packed row good) in
    let small : get_or (nibbles (slice_range words 1 7)) p v ≤ VALUES = subst (λ a. All (λ k. k ≤ VALUES) a) (sym clause_is) good.clause.values p v lt in
    omega (arith, read)
