-- Partial maps by their values.
use Rattle.std.proofs.Common.{◌≡◌, ◌≢◌, ℕ, zero, suc, ◌+◌, ◌<◌, ◌≤◌, ◌↔◌, true, false, cond, eqb, List, [], ◌∷◌, length, set, take, get_or, refl, sym, ap, subst, ◌∙◌, ⊎_elim, inl, inr, arith, length-set, get_or-set_same, get_or-set_other}
use Rattle.std.specs.Prelude.{Any, IsTrue, ◌==◌, if◌then◌else◌, count_by, nat_lt}
use Rattle.std.proofs.Common.{◌*◌}
use Rattle.std.specs.Prelude.{◌/◌, ◌%◌, ◌^◌}
use Rattle.std.proofs.Math.Nat.{zero-div}
use Rattle.std.proofs.lemmas.Bool.{cases_eq, cases_lt}
use Rattle.std.proofs.lemmas.Bool.Decides.{nat_tests, Decides-eqb, Decides-ltb}
use Rattle.std.proofs.lemmas.List.{ext_get_or, get_or_default, get_or_past, get_or-replicate, length-replicate, take_all, length-take-le}
use Rattle.std.proofs.lemmas.List.Elements.{All-from_get_or}
use Rattle.std.proofs.lemmas.List.Sums.{count_by-le-length, count_by_more_yes, count_by_more_no}
use Rattle.mr_assign.specs.declared.TheConstants.{POSITIONS, VALUES}
use Rattle.mr_assign.specs.Assign.{IsAssign, IsPartOf, IsConflict, map_union, no_values}
use Rattle.mr_assign.specs.Packing.{nibble_at, nibbles}
use Rattle.mr_assign.specs.Private.Packing.{IsPacking}
use Rattle.mr_assign.specs.Private.Again.{length-nibbles, get_or-nibbles}

-- the nibbles of a packing are a value or 0 at each position
pub assign-nibbles : (ws : List ℕ) → IsPacking ws → IsAssign (nibbles ws)
assign-nibbles ws h = record {
  positions = length-nibbles ws;
  values = All-from_get_or (λ v. v ≤ VALUES) (nibbles ws) 0 (λ p lt.
      subst (λ v. v ≤ VALUES) (sym (get_or-nibbles ws p (let n = length-nibbles ws in omega arith))) (h.values p));
}

-- and so is the map that is seen in it
pub assign-view : (ws a : List ℕ) → nibbles ws ≡ a → IsPacking ws → IsAssign a
assign-view ws a is h = subst IsAssign is (assign-nibbles ws h)

-- the nibble at a position is the map's value there
pub value-view : (ws a : List ℕ) (p : ℕ) → nibbles ws ≡ a → p < POSITIONS → nibble_at ws p ≡ get_or a p 0
value-view ws a p is lt = sym (get_or-nibbles ws p lt) ∙ ap (λ x. get_or x p 0) is

-- below position p the first words have each value of the second
abbrev pub AgreesBelow : List ℕ → List ℕ → ℕ → Type 0
AgreesBelow ws vs p = (k : ℕ) → k < p → nibble_at vs k ≢ 0 → nibble_at ws k ≡ nibble_at vs k

-- where they have it at all positions, the second map is part of the first
pub part : (ws vs a b : List ℕ) → nibbles ws ≡ a → nibbles vs ≡ b → AgreesBelow ws vs POSITIONS → IsTrue true ↔ IsPartOf b a
part ws vs a b isa isb agrees = (
  λ yes p some. elim (cases_lt p POSITIONS) [
    | inl lt ↦
        let va = value-view ws a p isa lt in
        let vb = value-view vs b p isb lt in
        sym va ∙ agrees p lt (λ e. some (sym vb ∙ e)) ∙ vb
    | inr past ↦ absurd (some (ap (λ x. get_or x p 0) (sym isb) ∙ get_or_past (nibbles vs) p 0 (let n = length-nibbles vs in omega arith)))
  ],
  λ h. refl,
)

-- the value of a position in the union of two maps
abbrev pub either : ℕ → ℕ → ℕ
either x y = if x == 0 then y else x

-- the union is made position by position
pub get_or-union : (a b : List ℕ) (p : ℕ) → length a ≡ length b → get_or (map_union a b) p 0 ≡ either (get_or a p 0) (get_or b p 0)
get_or-union [] [] p same = refl
get_or-union [] (y ∷ b) p same = absurd (omega arith)
get_or-union (x ∷ a) [] p same = absurd (omega arith)
get_or-union (x ∷ a) (y ∷ b) zero same = refl
get_or-union (x ∷ a) (y ∷ b) (suc p) same = get_or-union a b p (omega arith)

-- and has the positions of the two maps
pub length-union : (a b : List ℕ) → length a ≡ length b → length (map_union a b) ≡ length a
length-union [] [] same = refl
length-union [] (y ∷ b) same = absurd (omega arith)
length-union (x ∷ a) [] same = absurd (omega arith)
length-union (x ∷ a) (y ∷ b) same = let rest = length-union a b (omega arith) in omega arith

-- both has the pairs of the two maps at positions below p, and those of the first from there on
pub record IsJoined (ws vs both : List ℕ) (p : ℕ) : Type 0 where
  pub size : length both ≡ POSITIONS
  pub apart : (k : ℕ) → k < p → nibble_at ws k ≢ 0 → nibble_at vs k ≢ 0 → nibble_at ws k ≡ nibble_at vs k
  pub below : (k : ℕ) → k < p → get_or both k 0 ≡ either (nibble_at ws k) (nibble_at vs k)
  pub above : (k : ℕ) → p ≤ k → k < POSITIONS → get_or both k 0 ≡ nibble_at ws k

-- before the first position the join is the first map
pub joined_none : (ws vs a : List ℕ) → nibbles ws ≡ a → IsJoined ws vs a 0
joined_none ws vs a is = record {
  size = sym (ap length is) ∙ length-nibbles ws;
  apart = λ k lt. absurd (omega arith);
  below = λ k lt. absurd (omega arith);
  above = λ k le lt. sym (value-view ws a k is lt);
}

-- where the first map has no other value, the second's stands
either_same : (x y : ℕ) → (x ≢ 0 → x ≡ y) → either x y ≡ y
either_same x y same = elim (cases_eq x 0) as (λ _. either x y ≡ y) [
  | inl none ↦ ap (λ b. cond b y x) ((Decides-eqb x 0).1 none)
  | inr some ↦ let e : eqb x 0 ≡ false = grind (arith, nat_tests) in ap (λ b. cond b y x) e ∙ same some
]

-- where the second map has no value, the first's stands
either_zero : (x y : ℕ) → y ≡ 0 → either x y ≡ x
either_zero x y none = elim (cases_eq x 0) as (λ _. either x y ≡ x) [
  | inl zero_x ↦ ap (λ b. cond b y x) ((Decides-eqb x 0).1 zero_x) ∙ none ∙ sym zero_x
  | inr some ↦ let e : eqb x 0 ≡ false = grind (arith, nat_tests) in ap (λ b. cond b y x) e
]

-- the join with the second map's value at p, where the first map has no other
pub joined_with : (ws vs both : List ℕ) (p : ℕ) → IsJoined ws vs both p → p < POSITIONS → (nibble_at ws p ≢ 0 → nibble_at ws p ≡ nibble_at vs p) → IsJoined ws vs (set both p (nibble_at vs p)) (p + 1)
joined_with ws vs both p h lt agrees = record {
  size = length-set both p (nibble_at vs p) ∙ h.size;
  apart = λ k below l r. elim (cases_eq k p) [
    | inl same ↦ ap (nibble_at ws) same ∙ agrees (λ e. l (ap (nibble_at ws) same ∙ e)) ∙ sym (ap (nibble_at vs) same)
    | inr other ↦ h.apart k (omega arith) l r
  ];
  below = λ k below. elim (cases_eq k p) as (λ _. get_or (set both p (nibble_at vs p)) k 0 ≡ either (nibble_at ws k) (nibble_at vs k)) [
    | inl same ↦ ap (λ i. get_or (set both p (nibble_at vs p)) i 0) same ∙ get_or-set_same both p (nibble_at vs p) 0 (let n = h.size in omega arith)
        ∙ sym (ap (λ i. either (nibble_at ws i) (nibble_at vs i)) same ∙ either_same (nibble_at ws p) (nibble_at vs p) agrees)
    | inr other ↦ get_or-set_other both p k (nibble_at vs p) 0 other ∙ h.below k (omega arith)
  ];
  above = λ k le inside. get_or-set_other both p k (nibble_at vs p) 0 (λ e. absurd (omega arith)) ∙ h.above k (omega arith) inside;
}

-- the join stays where the second map has no value
pub joined_without : (ws vs both : List ℕ) (p : ℕ) → IsJoined ws vs both p → p < POSITIONS → nibble_at vs p ≡ 0 → IsJoined ws vs both (p + 1)
joined_without ws vs both p h lt none = record {
  size = h.size;
  apart = λ k below l r. elim (cases_eq k p) [
    | inl same ↦ absurd (r (ap (nibble_at vs) same ∙ none))
    | inr other ↦ h.apart k (omega arith) l r
  ];
  below = λ k below. elim (cases_eq k p) as (λ _. get_or both k 0 ≡ either (nibble_at ws k) (nibble_at vs k)) [
    | inl same ↦ ap (λ i. get_or both i 0) same ∙ h.above p (omega arith) lt
        ∙ sym (ap (λ i. either (nibble_at ws i) (nibble_at vs i)) same ∙ either_zero (nibble_at ws p) (nibble_at vs p) none)
    | inr other ↦ h.below k (omega arith)
  ];
  above = λ k le inside. h.above k (omega arith) inside;
}

-- after the last position the join is the union
pub joined_all : (ws vs a b both : List ℕ) → nibbles ws ≡ a → nibbles vs ≡ b → IsJoined ws vs both POSITIONS → both ≡ map_union a b
joined_all ws vs a b both isa isb h =
    let na : length a ≡ POSITIONS = sym (ap length isa) ∙ length-nibbles ws in
    let nb : length b ≡ POSITIONS = sym (ap length isb) ∙ length-nibbles vs in
    let same : length a ≡ length b = na ∙ sym nb in
    ext_get_or 0 both (map_union a b) (h.size ∙ sym (length-union a b same ∙ na)) (λ k lt.
    let small : k < POSITIONS = let n = h.size in omega arith in
    h.below k small ∙ ap (λ x. either x (nibble_at vs k)) (value-view ws a k isa small) ∙ ap (either (get_or a k 0)) (value-view vs b k isb small) ∙ sym (get_or-union a b k same))

-- and no position has two different values
pub no_conflict : (ws vs a b both : List ℕ) → nibbles ws ≡ a → nibbles vs ≡ b → IsJoined ws vs both POSITIONS → (p : ℕ) → IsConflict a b p → ⊥
no_conflict ws vs a b both isa isb h p x = elim (cases_lt p POSITIONS) [
  | inl lt ↦
      let va = value-view ws a p isa lt in
      let vb = value-view vs b p isb lt in
      x.differs (sym va ∙ h.apart p lt (λ e. x.left (sym va ∙ e)) (λ e. x.right (sym vb ∙ e)) ∙ vb)
  | inr past ↦ x.right (ap (λ z. get_or z p 0) (sym isb) ∙ get_or_past (nibbles vs) p 0 (let n = length-nibbles vs in omega arith))
]

-- two different values at a position are a conflict
pub conflict_at : (ws vs a b : List ℕ) (p : ℕ) → nibbles ws ≡ a → nibbles vs ≡ b → p < POSITIONS → nibble_at ws p ≢ 0 → nibble_at vs p ≢ 0 → nibble_at ws p ≢ nibble_at vs p → IsConflict a b p
conflict_at ws vs a b p isa isb lt l r differs = record {
  left = λ e. l (value-view ws a p isa lt ∙ e);
  right = λ e. r (value-view vs b p isb lt ∙ e);
  differs = λ e. differs (value-view ws a p isa lt ∙ e ∙ sym (value-view vs b p isb lt));
}

-- the count of the values below p
abbrev pub count_below : List ℕ → ℕ → ℕ
count_below ws p = count_by (λ v. nat_lt 0 v) (take p (nibbles ws))

-- at most p positions below p have a value
pub count_below-le : (ws : List ℕ) (p : ℕ) → p ≤ POSITIONS → count_below ws p ≤ p
count_below-le ws p le =
    let n = count_by-le-length (λ v. nat_lt 0 v) (take p (nibbles ws)) in
    let m = length-take-le p (nibbles ws) (let k = length-nibbles ws in omega arith) in
    omega arith

-- a position with a value counts one
pub count_below_yes : (ws : List ℕ) (p : ℕ) → p < POSITIONS → 0 < nibble_at ws p → count_below ws (p + 1) ≡ count_below ws p + 1
count_below_yes ws p lt some =
    count_by_more_yes (λ v. nat_lt 0 v) (nibbles ws) p 0 (let n = length-nibbles ws in omega arith)
    (ap (nat_lt 0) (get_or-nibbles ws p lt) ∙ (Decides-ltb 0 (nibble_at ws p)).1 some)

-- a position with none counts nothing
pub count_below_no : (ws : List ℕ) (p : ℕ) → p < POSITIONS → nibble_at ws p ≤ 0 → count_below ws (p + 1) ≡ count_below ws p
count_below_no ws p lt none =
    count_by_more_no (λ v. nat_lt 0 v) (nibbles ws) p 0 (let n = length-nibbles ws in omega arith)
    (ap (nat_lt 0) (get_or-nibbles ws p lt) ∙ (let e : nibble_at ws p ≡ 0 = omega arith in ap (nat_lt 0) e))

-- a word of zeros has no value
pub no_nibble : (ws : List ℕ) (k : ℕ) → get_or ws (k / 16) 0 ≡ 0 → nibble_at ws k ≡ 0
no_nibble ws k none = ap (λ (w : ℕ). w / 2 ^ (4 * (k % 16)) % 16) none ∙ ap (λ (w : ℕ). w % 16) (zero-div (2 ^ (4 * (k % 16))))

-- so it counts nothing
pub count_below_skip : (ws : List ℕ) (i n : ℕ) → i < 6 → n ≤ 16 → get_or ws i 0 ≡ 0 → count_below ws (16 * i + n) ≡ count_below ws (16 * i)
count_below_skip ws i zero small le none = ap (count_below ws) (let e : 16 * i + 0 ≡ 16 * i = omega arith in e)
count_below_skip ws i (suc n) small le none =
    let next : 16 * i + suc n ≡ (16 * i + n) + 1 = omega arith in
    let word : (16 * i + n) / 16 ≡ i = omega arith in
    let nothing = no_nibble ws (16 * i + n) (ap (λ (k : ℕ). get_or ws k 0) word ∙ none) in
    ap (count_below ws) next ∙ count_below_no ws (16 * i + n) (omega arith) (omega arith) ∙ count_below_skip ws i n small (omega arith) none

-- below the last position all values are counted
pub count_below_all : (ws a : List ℕ) → nibbles ws ≡ a → count_below ws POSITIONS ≡ count_by (λ v. nat_lt 0 v) a
count_below_all ws a is = ap (count_by (λ v. nat_lt 0 v)) (take_all POSITIONS (nibbles ws) (let n = length-nibbles ws in omega arith)) ∙ ap (count_by (λ v. nat_lt 0 v)) is

-- a nibble above VALUES is one among those of all positions
pub above_at : (ws : List ℕ) (p : ℕ) → p < POSITIONS → VALUES < nibble_at ws p → Any (λ v. VALUES < v) (nibbles ws)
above_at ws p lt high = (p, nibble_at ws p, (let n = length-nibbles ws in omega arith), get_or_default (nibbles ws) p (nibble_at ws p) 0 (let n = length-nibbles ws in omega arith) ∙ get_or-nibbles ws p lt, high)

-- where each is a value or 0, none is above VALUES
pub none_above : (ws : List ℕ) → ((p : ℕ) → p < POSITIONS → nibble_at ws p ≤ VALUES) → Any (λ v. VALUES < v) (nibbles ws) → ⊥
none_above ws small (p, v, lt, read, high) =
    let inside : p < POSITIONS = let n = length-nibbles ws in omega arith in
    let is : v ≡ nibble_at ws p = sym read ∙ get_or_default (nibbles ws) p v 0 lt ∙ get_or-nibbles ws p inside in
    let le = small p inside in
    omega arith

-- the map without values gives none
pub get_or-no_values : (p : ℕ) → get_or no_values p 0 ≡ 0
get_or-no_values p = ⊎_elim
    (λ (lt : p < POSITIONS). get_or-replicate POSITIONS p 0 0 lt)
    (λ (le : POSITIONS ≤ p). get_or_past no_values p 0 (let size = length-replicate {A = ℕ} POSITIONS 0 in omega arith))
    (cases_lt p POSITIONS)
