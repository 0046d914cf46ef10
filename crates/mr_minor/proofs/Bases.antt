-- The bases of a matroid obey the law of exchange as tests, and what obeys it makes a matroid.
use Rattle.std.proofs.Common.{◌≡◌, ◌≢◌, ℕ, get_or, Err, zero, suc, ◌<◌, ◌≤◌, ◌↔◌, ◌⊎◌, Bool, true, false, eqb, not, ◌&&◌, ◌||◌, List, [], ◌∷◌, length, refl, sym, ap, subst, ◌∙◌, ⊎_elim, inl, inr, arith}
use Rattle.std.specs.Prelude.{Contains, nat_eq}
use Rattle.std.specs.Ordering.{nat_cmp}
use Rattle.std.specs.Cmp.Lexicographic.{pointwise, same_text, other_text}
use Rattle.std.proofs.lemmas.Bool.{cases_eq, cases_lt, cases_Bool, and_parts, both_ways}
use Rattle.std.proofs.lemmas.List.Elements.{Contains-get_or}
use Rattle.std.proofs.lemmas.List.Kept.{IsStrictlySortedBy-filter}
use Rattle.mr_set.specs.Elements.{IsSet, is_element, with_element, without_element}
use Rattle.mr_set.specs.Subsets.{IsSetOf}
use Rattle.mr_set.specs.Matroid.{Presentation, IsPresentation, IsBasis, IsMatroid}
use Rattle.mr_set.proofs.Members.{same_sets, is_element-with, is_element-without, is_element-from_Contains, Contains-from_element}
use Rattle.mr_set.proofs.Ordered.{member_first, member_later, member_cases, member_none}
use Rattle.mr_set.proofs.Tests.{set_of, set_of-is_element, is_element-set_of, length-set_of, IsSet-set_of, count-is_element, element-lt, element-above, IsSet-from_below, IsSet-with}
use Rattle.mr_matroid.specs.Answers.{IsMatroidVerdict}
use Rattle.mr_matroid.specs.declared.fault.MatroidFault.{MatroidFault}
use Rattle.mr_matroid.specs.declared.fault.MatroidFault.TheVariants.{NoBasis, Exchange, Memory}
use Rattle.mr_minor.specs.Private.Collected.{AreNonbases}
use Rattle.mr_minor.proofs.Counting.{Agree, count-agree, no}
use Rattle.mr_minor.proofs.Exchanging.{Exchanging, swapped}

-- some number below n is as P says, or none is
pub find_below : (n : ℕ) (P : ℕ → Type 0) → ((e : ℕ) → e < n → P e ⊎ ¬ (P e)) → ((e : ℕ) × (e < n) × P e) ⊎ ((e : ℕ) → e < n → ¬ (P e))
find_below zero P decide = inr (λ e l. absurd (omega arith))
find_below (suc n) P decide = ⊎_elim
    (λ (found : (e : ℕ) × (e < n) × P e). inl (found.0, omega arith, found.2))
    (λ (none : (e : ℕ) → e < n → ¬ (P e)). ⊎_elim
    (λ (here : P n). inl (n, omega arith, here))
    (λ (other : ¬ (P n)). inr (λ e l. ⊎_elim (λ (same : e ≡ n). subst (λ k. ¬ (P k)) (sym same) other) (λ (differs : e ≢ n). none e (omega arith)) (cases_eq e n)))
    (decide n (omega arith)))
    (find_below n P (λ e l. decide e (omega arith)))

-- two lists are equal or not
cases_list : (x y : List ℕ) → (x ≡ y) ⊎ (x ≢ y)
cases_list x y = ⊎_elim
    (λ (t : pointwise nat_eq x y ≡ true). inl (same_text x y (sym t)))
    (λ (f : pointwise nat_eq x y ≡ false). inr (other_text x y (sym f)))
    (cases_Bool (pointwise nat_eq x y))

-- a set is listed or not
pub cases_listed : (sets : List (List ℕ)) (x : List ℕ) → Contains sets x ⊎ ¬ (Contains sets x)
cases_listed [] x = inr (member_none x)
cases_listed (y ∷ ys) x = ⊎_elim
    (λ (same : y ≡ x). inl (subst (Contains (y ∷ ys)) same (member_first y ys)))
    (λ (other : y ≢ x). ⊎_elim
    (λ (later : Contains ys x). inl (member_later y ys x later))
    (λ (none : ¬ (Contains ys x)). inr (λ inside. ⊎_elim other none (member_cases y ys x inside)))
    (cases_listed ys x))
    (cases_list y x)

-- a set is a basis or not
pub cases_basis : (m : Presentation) (x : List ℕ) → IsSet m.elements x → IsBasis m x ⊎ ¬ (IsBasis m x)
cases_basis m x set = ⊎_elim
    (λ (size : length x ≡ m.rank). ⊎_elim
    (λ (inside : Contains m.nonbases x). inr (λ basis. basis.1 inside))
    (λ (out : ¬ (Contains m.nonbases x)). inl (record { set = set; size = size }, out))
    (cases_listed m.nonbases x))
    (λ (other : length x ≢ m.rank). inr (λ basis. other basis.0.size))
    (cases_eq (length x) m.rank)

-- tests that agree have the same set
pub set_of-agree : (n : ℕ) (x y : ℕ → Bool) → Agree n x y → set_of n x ≡ set_of n y
set_of-agree n x y agree = same_sets (set_of n x) (set_of n y) (IsSet-set_of n x).increasing (IsSet-set_of n y).increasing (λ e. ⊎_elim
    (λ (l : e < n). is_element-set_of n x e l ∙ agree e l ∙ sym (is_element-set_of n y e l))
    (λ (l : n ≤ e). element-above n (set_of n x) (IsSet-set_of n x) e l ∙ sym (element-above n (set_of n y) (IsSet-set_of n y) e l))
    (cases_lt e n))

-- a set has the elements of its test
pub same_as_set_of : (n : ℕ) (x : List ℕ) (t : ℕ → Bool) → IsSet n x → ((e : ℕ) → e < n → is_element x e ≡ t e) → x ≡ set_of n t
same_as_set_of n x t set same = same_sets x (set_of n t) set.increasing (IsSet-set_of n t).increasing (λ e. ⊎_elim
    (λ (l : e < n). same e l ∙ sym (is_element-set_of n t e l))
    (λ (l : n ≤ e). element-above n x set e l ∙ sym (element-above n (set_of n t) (IsSet-set_of n t) e l))
    (cases_lt e n))

-- the test of a set with one element in another's place
pub is_element-swapped : (x : List ℕ) (d e j : ℕ) → is_element (with_element e (without_element d x)) j ≡ swapped (is_element x) d e j
is_element-swapped x d e j = is_element-with e j (without_element d x) ∙ ap (λ b. eqb j e || b) (is_element-without d j x)

-- it is a set
pub IsSet-swapped : (n d e : ℕ) (x : List ℕ) → e < n → IsSet n x → IsSet n (with_element e (without_element d x))
IsSet-swapped n d e x l set = IsSet-with n e (without_element d x) l
    (IsSet-from_below n (without_element d x) (IsStrictlySortedBy-filter nat_cmp (λ k. not (eqb k d)) x set.increasing)
    (λ k h. element-lt n x set k (and_parts (not (eqb k d)) (is_element x k) (sym (is_element-without d k x) ∙ h)).1))

-- what isn't contained fails the test
pub not_element : (x : List ℕ) (e : ℕ) → ¬ (Contains x e) → is_element x e ≡ false
not_element x e out = no (is_element x e) (λ holds. out (Contains-from_element x e holds))

-- the set of the test is a basis
abbrev pub IsBasisTest : Presentation → (ℕ → Bool) → Type 0
IsBasisTest m x = IsBasis m (set_of m.elements x)

-- the bases of a matroid obey the law of exchange
pub exchanging-bases : (m : Presentation) → IsMatroid m → Exchanging m.elements m.rank (IsBasisTest m)
exchanging-bases m matroid = record {
  same = λ x y agree basis. subst (IsBasis m) (set_of-agree m.elements x y agree) basis;
  size = λ x basis. sym (length-set_of m.elements x) ∙ basis.0.size;
  exchange = λ x y d bx by_ l holds none. swap x y d bx by_ l holds none (find_below m.elements (CanSwap x y d) (decide x y d));
}
  where
    CanSwap : (ℕ → Bool) → (ℕ → Bool) → ℕ → ℕ → Type 0
    CanSwap x y d e = (y e ≡ true) × (x e ≡ false) × IsBasisTest m (swapped x d e)

    decide : (x y : ℕ → Bool) (d e : ℕ) → e < m.elements → CanSwap x y d e ⊎ ¬ (CanSwap x y d e)
    decide x y d e l = ⊎_elim
        (λ (out : x e ≡ true). inr (λ can. both_ways (x e) can.1 out))
        (λ (in_x : x e ≡ false). ⊎_elim
        (λ (in_y : y e ≡ true). ⊎_elim
        (λ (basis : IsBasisTest m (swapped x d e)). inl (in_y, in_x, basis))
        (λ (none : ¬ (IsBasisTest m (swapped x d e))). inr (λ can. none can.2))
        (cases_basis m (set_of m.elements (swapped x d e)) (IsSet-set_of m.elements (swapped x d e))))
        (λ (not_y : y e ≡ false). inr (λ can. both_ways (y e) not_y can.0))
        (cases_Bool (y e)))
        (cases_Bool (x e))

    swap : (x y : ℕ → Bool) (d : ℕ) → IsBasisTest m x → IsBasisTest m y → d < m.elements → x d ≡ true → y d ≡ false
        → ((e : ℕ) × (e < m.elements) × CanSwap x y d e) ⊎ ((e : ℕ) → e < m.elements → ¬ (CanSwap x y d e))
        → (e : ℕ) × (e < m.elements) × (y e ≡ true) × (x e ≡ false) × IsBasisTest m (swapped x d e)
    swap x y d bx by_ l holds none (inl found) = (found.0, found.1, found.2.0, found.2.1, found.2.2)
    swap x y d bx by_ l holds none (inr nothing) = absurd (matroid.exchange (set_of m.elements x) (set_of m.elements y) d (record {
      first = bx;
      second = by_;
      inside = Contains-from_element (set_of m.elements x) d (is_element-set_of m.elements x d l ∙ holds);
      outside = λ inside. both_ways (y d) none (sym (is_element-set_of m.elements y d l) ∙ is_element-from_Contains (set_of m.elements y) d inside);
      none = λ e in_y out basis.
          let found = is_element-from_Contains (set_of m.elements y) e in_y in
          let small : e < m.elements = element-lt m.elements (set_of m.elements y) (IsSet-set_of m.elements y) e found in
          nothing e small (
            sym (is_element-set_of m.elements y e small) ∙ found,
            sym (is_element-set_of m.elements x e small) ∙ not_element (set_of m.elements x) e out,
            subst (IsBasis m) (same_as_set_of m.elements (with_element e (without_element d (set_of m.elements x))) (swapped x d e)
                (IsSet-swapped m.elements d e (set_of m.elements x) small (IsSet-set_of m.elements x))
                (λ j k. is_element-swapped (set_of m.elements x) d e j ∙ ap (λ b. eqb j e || (not (eqb j d) && b)) (is_element-set_of m.elements x j k))) basis,
          );
    }))

-- the bases of numbers and sets are such a family
pub record HasBases (m : Presentation) (B : (ℕ → Bool) → Type 0) : Type 0 where
  pub presentation : IsPresentation m
  pub bases : (x : List ℕ) → IsSetOf m.elements m.rank x → (¬ (Contains m.nonbases x)) ↔ B (is_element x)

-- then they are a matroid
pub matroid-from_family : (m : Presentation) (B : (ℕ → Bool) → Type 0) → Exchanging m.elements m.rank B → HasBases m B → (b : ℕ → Bool) → B b → IsMatroid m
matroid-from_family m B law has b member = record {
  presentation = has.presentation;
  basis = (set_of n b, (set, (has.bases (set_of n b) set).1 (law.same b (is_element (set_of n b)) (λ j l. sym (is_element-set_of n b j l)) member)));
  exchange = λ b1 b2 x fails.
      let first = (has.bases b1 fails.first.0).0 fails.first.1 in
      let second = (has.bases b2 fails.second.0).0 fails.second.1 in
      let inside = is_element-from_Contains b1 x fails.inside in
      let small = element-lt n b1 fails.first.0.set x inside in
      let swap = law.exchange (is_element b1) (is_element b2) x first second small inside (not_element b2 x fails.outside) in
      fails.none swap.0 (Contains-from_element b2 swap.0 swap.2) (λ again. both_ways (is_element b1 swap.0) swap.3 (is_element-from_Contains b1 swap.0 again))
      (taken b1 x swap.0 fails.first.0.set swap.1 swap.4);
}
  where
    n : ℕ
    n = m.elements

    set : IsSetOf n m.rank (set_of n b)
    set = record { set = IsSet-set_of n b; size = length-set_of n b ∙ law.size b member }

    taken : (x : List ℕ) (d e : ℕ) → IsSet n x → e < n → B (swapped (is_element x) d e) → IsBasis m (with_element e (without_element d x))
    taken x d e s l there =
        let y : List ℕ = with_element e (without_element d x) in
        let is : IsSet n y = IsSet-swapped n d e x l s in
        let size : length y ≡ m.rank = sym (count-is_element n y is) ∙ count-agree n (is_element y) (swapped (is_element x) d e) (λ j k. is_element-swapped x d e j) ∙ law.size (swapped (is_element x) d e) there in
        let sized : IsSetOf n m.rank y = record { set = is; size = size } in
        (sized, (has.bases y sized).1 (law.same (swapped (is_element x) d e) (is_element y) (λ j k. sym (is_element-swapped x d e j)) there))

-- what is a matroid is refused for want of memory alone
pub memory_alone : (m : Presentation) (fault : MatroidFault) → IsMatroid m → IsMatroidVerdict m (Err fault) → fault ≡ Memory
memory_alone m NoBasis matroid none = let b = matroid.basis in absurd (none b.0 b.1)
memory_alone m (Exchange b1 b2 x) matroid first = absurd (matroid.exchange b1 b2 x first.fails)
memory_alone m Memory matroid h = refl

-- a basis by its test
pub test-of_basis : (m : Presentation) (b : List ℕ) → IsBasis m b → IsBasisTest m (is_element b)
test-of_basis m b basis = subst (IsBasis m) (sym (set_of-is_element m.elements b basis.0.set)) basis

-- the bases of numbers and sets that are the nonbases of a family
pub has-bases : (n r : ℕ) (sets : List (List ℕ)) (P : List ℕ → Type 0) (B : (ℕ → Bool) → Type 0) → r ≤ n → AreNonbases n r P sets → ((x : List ℕ) → IsSetOf n r x → P x ↔ B (is_element x))
    → HasBases (record { elements = n; rank = r; nonbases = sets }) B
has-bases n r sets P B flat are same = record {
  presentation = record { rank = flat; sets = λ k d l. (are.each (get_or sets k d) (Contains-get_or sets k d l)).0; increasing = are.increasing };
  bases = λ x set. (
    (λ out. (same x set).0 (⊎_elim (λ (inside : Contains sets x). absurd (out inside)) (λ (p : P x). p) (are.all x set))),
    (λ h inside. (are.each x inside).1 ((same x set).1 h)),
  );
}

-- the bases are the sets that are as P says
pub basis-from_nonbases : (n r : ℕ) (sets : List (List ℕ)) (P : List ℕ → Type 0) → AreNonbases n r P sets → (x : List ℕ) → IsBasis (record { elements = n; rank = r; nonbases = sets }) x ↔ (IsSetOf n r x × P x)
basis-from_nonbases n r sets P are x = (
  (λ basis. (basis.0, ⊎_elim (λ (inside : Contains sets x). absurd (basis.1 inside)) (λ (p : P x). p) (are.all x basis.0))),
  (λ h. (h.0, λ inside. (are.each x inside).1 h.1)),
)
