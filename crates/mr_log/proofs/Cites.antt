-- The words of sets and cites.
use Rattle.std.proofs.Common.{◌≡◌, ◌≢◌, ℕ, ◌+◌, ◌-◌, ◌<◌, ◌≤◌, List, [], ◌∷◌, ◌++◌, get_or, refl, sym, ap, subst, ◌∙◌, Option, Some, None, arith, codes, map}
use Rattle.std.specs.Prelude.{decimal, option_map}
use Rattle.mr_set.specs.declared.TheConstants.{ELEMENTS}
use Rattle.mr_set.specs.Elements.{with_element}
use Rattle.mr_set.specs.Subsets.{IsSetOf}
use Rattle.mr_set.specs.Matroid.{Presentation}
use Rattle.mr_set.proofs.Sorted.{all_head, all_tail, all_cons, all_none, below_all, all_above, sorted_cons, sorted_parts, sorted_none, with_front}
use Rattle.mr_nogood.specs.declared.row.Cite.{Cite}
use Rattle.mr_nogood.specs.declared.row.Cite.TheVariants.{Nothing, Test, Slot}
use Rattle.mr_text.specs.declared.TheConstants.{NUMBERS}
use Rattle.mr_text.proofs.Decimals.{decimal_one}
use Rattle.mr_log.specs.Lines.{IsLogCite}
use Rattle.mr_log.specs.Private.Words.{Reads, IsSetFrom, set_words, cite_words}

-- no words of a number stand first
abbrev pub NoNumber : List (List ℕ) → Type 0
NoNumber old = (v : ℕ) (rest : List (List ℕ)) → v < NUMBERS → old ≢ (decimal v ∷ []) ++ rest

-- no words of such a set stand first
abbrev pub NoSetFrom : ℕ → ℕ → ℕ → List (List ℕ) → Type 0
NoSetFrom low n r old = (x : List ℕ) (rest : List (List ℕ)) → IsSetFrom low n r x → old ≢ map decimal x ++ rest

-- the empty set
pub no_elements : (low n : ℕ) → IsSetFrom low n 0 []
no_elements low n = record { set = record { set = record { increasing = sorted_none; elements = all_none (λ e. e < n) }; size = refl }; from = all_none (λ e. low ≤ e) }

-- a set by its least element
pub record FirstElement (low n r : ℕ) (x : List ℕ) : Type 0 where
  pub first : ℕ
  pub others : List ℕ
  pub parts : x ≡ first ∷ others
  pub low_enough : low ≤ first
  pub within : first < n
  pub more : IsSetFrom (first + 1) n (r - 1) others

-- a set with elements has one
pub first_element : (low n r : ℕ) (x : List ℕ) → 0 < r → IsSetFrom low n r x → FirstElement low n r x
first_element low n r [] some is = let e = is.set.size in absurd (omega arith)
first_element low n r (y ∷ ys) some is =
    let parts = sorted_parts y ys is.set.set.increasing in
    record {
      first = y;
      others = ys;
      parts = refl;
      low_enough = all_head (λ e. low ≤ e) y ys is.from;
      within = all_head (λ e. e < n) y ys is.set.set.elements;
      more = record {
        set = record { set = record { increasing = parts.1; elements = all_tail (λ e. e < n) y ys is.set.set.elements }; size = (let e = is.set.size in omega arith) };
        from = all_above y ys parts.0;
      };
    }

-- a set with a smaller element before the others
pub element_before : (low n r e : ℕ) (others : List ℕ) → 0 < r → low ≤ e → e < n → IsSetFrom (e + 1) n (r - 1) others → IsSetFrom low n r (e ∷ others)
element_before low n r e others some le lt is = record {
  set = record {
    set = record {
      increasing = sorted_cons e others (below_all e others is.from) is.set.set.increasing;
      elements = all_cons (λ k. k < n) e others lt is.set.set.elements;
    };
    size = (let s = is.set.size in omega arith);
  };
  from = all_cons (λ k. low ≤ k) e others le (λ k d inside. let h = is.from k d inside in omega arith);
}

-- no number stands first
pub no_first : (low n r : ℕ) (old : List (List ℕ)) → n ≤ ELEMENTS → 0 < r → NoNumber old → NoSetFrom low n r old
no_first low n r old limit some never x rest is words =
    let f = first_element low n r x some is in
    let lt = f.within in
    never f.first (map decimal f.others ++ rest) (omega arith) (words ∙ ap (λ z. map decimal z ++ rest) f.parts)

-- the number that stands first is the least element
pub first_number : (low n r e : ℕ) (old mid : List (List ℕ)) (x : List ℕ) (rest : List (List ℕ)) → n ≤ ELEMENTS → e < NUMBERS → old ≡ (decimal e ∷ []) ++ mid → (f : FirstElement low n r x) → old ≡ map decimal x ++ rest → (f.first ≡ e) × (mid ≡ map decimal f.others ++ rest)
first_number low n r e old mid x rest limit small is f words =
    let lt = f.within in
    let both : decimal f.first ∷ (map decimal f.others ++ rest) ≡ decimal e ∷ mid = ap (λ z. map decimal z ++ rest) (sym f.parts) ∙ sym words ∙ is in
    (decimal_one f.first e (omega arith) small (let h : decimal f.first ≡ decimal e = cc in h), (let h : mid ≡ map decimal f.others ++ rest = cc in h))

-- a first number that is too small or too large
pub number_out : (low n r e : ℕ) (old mid : List (List ℕ)) → n ≤ ELEMENTS → 0 < r → e < NUMBERS → old ≡ (decimal e ∷ []) ++ mid → ((low ≤ e) × (e < n) → ⊥) → NoSetFrom low n r old
number_out low n r e old mid limit some small is out x rest set words =
    let f = first_element low n r x some set in
    let same = first_number low n r e old mid x rest limit small is f words in
    out (subst (λ k. low ≤ k) same.0 f.low_enough, subst (λ k. k < n) same.0 f.within)

-- a first number that no others follow
pub no_more : (low n r e : ℕ) (old mid : List (List ℕ)) → n ≤ ELEMENTS → 0 < r → e < NUMBERS → old ≡ (decimal e ∷ []) ++ mid → NoSetFrom (e + 1) n (r - 1) mid → NoSetFrom low n r old
no_more low n r e old mid limit some small is never x rest set words =
    let f = first_element low n r x some set in
    let same = first_number low n r e old mid x rest limit small is f words in
    never f.others rest (subst (λ k. IsSetFrom (k + 1) n (r - 1) f.others) same.0 f.more) same.1

-- an element more before the others that were read
pub element_read : (low n r e : ℕ) (others : List ℕ) (old mid new : List (List ℕ)) → 0 < r → low ≤ e → e < n → old ≡ (decimal e ∷ []) ++ mid → IsSetFrom (e + 1) n (r - 1) others → mid ≡ map decimal others ++ new
    → IsSetFrom low n r (with_element e others) × (old ≡ map decimal (with_element e others) ++ new)
element_read low n r e others old mid new some le lt is set words =
    subst (λ (x : List ℕ). IsSetFrom low n r x × (old ≡ map decimal x ++ new)) (sym (with_front e others set.from))
    (element_before low n r e others some le lt set, is ∙ ap (λ z. decimal e ∷ z) words)

-- a set of some elements, from 0 on
pub set_read : (n r : ℕ) (old new : List (List ℕ)) (result : Option (List ℕ)) → 0 < r → Reads (IsSetFrom 0 n r) (map decimal) result old new → Reads (IsSetOf n r) set_words result old new
set_read n r old new None some never = λ x rest. never_set x rest
  where
    never_set : (x : List ℕ) (rest : List (List ℕ)) → IsSetOf n r x → old ≢ set_words x ++ rest
    never_set [] rest is words = let e = is.size in omega arith
    never_set (y ∷ ys) rest is words = never (y ∷ ys) rest (record { set = is; from = λ k d lt. omega arith }) words
set_read n r old new (Some []) some found = let e = found.0.set.size in absurd (omega arith)
set_read n r old new (Some (y ∷ ys)) some found = (found.0.set, found.1)

-- the empty set is `-`
pub empty_read : (n r : ℕ) → r ≡ 0 → IsSetOf n r []
empty_read n r none = record { set = (no_elements 0 n).set.set; size = sym none }

-- no cite stands first
abbrev pub NoCite : Presentation → List (List ℕ) → Type 0
NoCite m old = (c : Cite) (rest : List (List ℕ)) → IsLogCite m c → old ≢ cite_words c ++ rest

-- a first word tells a set from a step
pub test_or_slot : (a b : List (List ℕ)) → codes "t" ∷ a ≡ codes "s" ∷ b → ⊥
test_or_slot a b same = let e : ◌≡◌ {A = ℕ} 116 115 = ap (λ ws. get_or (get_or ws 0 []) 0 0) same in omega arith

-- a cite of a set
pub test_read : (m : Presentation) (word : List ℕ) (old mid new : List (List ℕ)) (r : Option (List ℕ)) (result : Option Cite) → old ≡ word ∷ mid → word ≡ codes "t" → result ≡ option_map Test r
    → Reads (IsSetOf m.elements m.rank) set_words r mid new → Reads (IsLogCite m) cite_words result old new
test_read m word old mid new r result is first made reads = subst (λ (z : Option Cite). Reads (IsLogCite m) cite_words z old new) (sym made) (by_cases r reads)
  where
    there : old ≡ codes "t" ∷ mid
    there = is ∙ ap (λ w. w ∷ mid) first

    by_cases : (s : Option (List ℕ)) → Reads (IsSetOf m.elements m.rank) set_words s mid new → Reads (IsLogCite m) cite_words (option_map Test s) old new
    by_cases None never = λ c rest. none_of c rest
      where
        none_of : (c : Cite) (rest : List (List ℕ)) → IsLogCite m c → old ≢ cite_words c ++ rest
        none_of Nothing rest cite words = cite
        none_of (Test x) rest cite words = let e : mid ≡ set_words x ++ rest = (let h : codes "t" ∷ mid ≡ codes "t" ∷ (set_words x ++ rest) = sym there ∙ words in cc) in never x rest cite e
        none_of (Slot s) rest cite words = test_or_slot mid (decimal s ∷ rest) (sym there ∙ words)
    by_cases (Some x) found = (found.0, there ∙ ap (λ z. codes "t" ∷ z) found.1)
