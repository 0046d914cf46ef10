-- Sets as their numbers with spaces between them.
use Rattle.std.proofs.Common.{◌≡◌, ℕ, suc, ◌+◌, ◌-◌, ◌≤◌, List, [], ◌∷◌, ◌++◌, refl, sym, ap, subst, ◌∙◌, arith, Option, Some, None, false}
use Rattle.std.specs.Prelude.{codes, ◌<◌, ◌↔◌, decimal}
use Rattle.mr_set.specs.declared.TheConstants.{ELEMENTS}
use Rattle.mr_set.specs.Elements.{is_element, with_element}
use Rattle.mr_set.proofs.Sorted.{all_head, all_tail, all_cons, below_all, all_above, sorted_cons, sorted_parts, sorted_none, with_front}
use Rattle.mr_text.specs.declared.TheConstants.{NUMBERS}
use Rattle.mr_text.specs.Text.{numbers_text}
use Rattle.mr_file.specs.Private.Numbers.{AreNumbersFrom, SpellsSet}
use Rattle.mr_text.proofs.Formats.{same_parts, has_separator}
use Rattle.mr_text.proofs.Decimals.{decimal_without}

-- what a number's reader says
abbrev Reads : Option ℕ → List ℕ → Type 0
Reads r word = (v : ℕ) → (r ≡ Some v) ↔ ((v < NUMBERS) × (word ≡ decimal v))

-- one number
one : (low n : ℕ) (word x : List ℕ) → AreNumbersFrom low n 1 word x → (y : ℕ) × (x ≡ y ∷ []) × (word ≡ decimal y) × (low ≤ y) × (y < n)
one low n word [] are = let e = are.set.size in absurd (omega arith)
one low n word (y ∷ []) are = (y, refl, are.text, all_head (λ e. low ≤ e) y [] are.from, all_head (λ e. e < n) y [] are.set.set.elements)
one low n word (y ∷ z ∷ zs) are = let e = are.set.size in absurd (omega arith)

-- the word of the last element, which is read
pub last_found : (low n e : ℕ) (word : List ℕ) (r : Option ℕ) → n ≤ ELEMENTS → Reads r word → r ≡ Some e → low ≤ e → e < n → (x : List ℕ) → (Some (with_element e []) ≡ Some x) ↔ AreNumbersFrom low n 1 word x
last_found low n e word r limit reads is from within x = (
  λ same. subst (AreNumbersFrom low n 1 word) (let h : e ∷ [] ≡ x = cc in h) record {
    set = record { set = record { increasing = sorted_cons e [] tt sorted_none; elements = all_cons (λ k. k < n) e [] within (λ k d lt. absurd (omega arith)) }; size = refl };
    from = all_cons (λ k. low ≤ k) e [] from (λ k d lt. absurd (omega arith));
    text = ((reads e).0 is).1;
  },
  λ are.
      let found = one low n word x are in
      let y = found.0 in
      let yes : r ≡ Some y = (reads y).1 ((let h = found.4 in omega arith), found.2) in
      let same : e ≡ y = cc in
      ap Some (ap (λ k. k ∷ []) same ∙ sym found.1),
)

-- a word that is no number
pub last_none : (low n : ℕ) (word : List ℕ) (r : Option ℕ) → n ≤ ELEMENTS → Reads r word → r ≡ None → (x : List ℕ) → (◌≡◌ {A = Option (List ℕ)} None (Some x)) ↔ AreNumbersFrom low n 1 word x
last_none low n word r limit reads is x = (
  λ same. cc,
  λ are.
      let found = one low n word x are in
      let yes : r ≡ Some found.0 = (reads found.0).1 ((let h = found.4 in omega arith), found.2) in
      cc,
)

-- a number that is too small or too large
pub last_out : (low n e : ℕ) (word : List ℕ) (r : Option ℕ) → n ≤ ELEMENTS → Reads r word → r ≡ Some e → ((low ≤ e) × (e < n) → ⊥) → (x : List ℕ) → (◌≡◌ {A = Option (List ℕ)} None (Some x)) ↔ AreNumbersFrom low n 1 word x
last_out low n e word r limit reads is out x = (
  λ same. cc,
  λ are.
      let found = one low n word x are in
      let yes : r ≡ Some found.0 = (reads found.0).1 ((let h = found.4 in omega arith), found.2) in
      let same : found.0 ≡ e = cc in
      absurd (out (subst (λ k. low ≤ k) same found.3, subst (λ k. k < n) same found.4)),
)

-- a number, a space and more numbers
pub more : (low n e k : ℕ) (word rest others : List ℕ) → 0 < k → low ≤ e → e < n → word ≡ decimal e → AreNumbersFrom (e + 1) n k rest others → AreNumbersFrom low n (suc k) (word ++ 32 ∷ rest) (e ∷ others)
more low n e k word rest [] some from within is are = let h = are.set.size in absurd (omega arith)
more low n e k word rest (z ∷ zs) some from within is are = record {
  set = record {
    set = record {
      increasing = sorted_cons e (z ∷ zs) (below_all e (z ∷ zs) are.from) are.set.set.increasing;
      elements = all_cons (λ j. j < n) e (z ∷ zs) within are.set.set.elements;
    };
    size = ap suc are.set.size;
  };
  from = all_cons (λ j. low ≤ j) e (z ∷ zs) from (λ j d lt. let h = are.from j d lt in omega arith);
  text = ap (λ w. w ++ 32 ∷ rest) is ∙ ap (λ w. decimal e ++ 32 ∷ w) are.text;
}

-- and back
pub first_of_more : (low n k : ℕ) (line x : List ℕ) → AreNumbersFrom low n (suc (suc k)) line x
    → (y : ℕ) × (others : List ℕ) × (x ≡ y ∷ others) × (line ≡ decimal y ++ 32 ∷ numbers_text others) × (low ≤ y) × (y < n) × AreNumbersFrom (y + 1) n (suc k) (numbers_text others) others
first_of_more low n k line [] are = let e = are.set.size in absurd (omega arith)
first_of_more low n k line (y ∷ []) are = let e = are.set.size in absurd (omega arith)
first_of_more low n k line (y ∷ z ∷ zs) are =
    let parts = sorted_parts y (z ∷ zs) are.set.set.increasing in (
      y,
      z ∷ zs,
      refl,
      are.text,
      all_head (λ e. low ≤ e) y (z ∷ zs) are.from,
      all_head (λ e. e < n) y (z ∷ zs) are.set.set.elements,
      record {
        set = record { set = record { increasing = parts.1; elements = all_tail (λ e. e < n) y (z ∷ zs) are.set.set.elements }; size = (let e = are.set.size in omega arith) };
        from = all_above y (z ∷ zs) parts.0;
        text = refl;
      },
    )

-- the first number of a longer line, when the line was split
pub record FirstOf (low n k : ℕ) (word rest x : List ℕ) : Type 0 where
  pub first : ℕ
  pub others : List ℕ
  pub parts : x ≡ first ∷ others
  pub spelled : word ≡ decimal first
  pub small : first < NUMBERS
  pub from : low ≤ first
  pub within : first < n
  pub more : AreNumbersFrom (first + 1) n k rest others

-- the first word is the first number
pub split_first : (low n k : ℕ) (line word rest x : List ℕ) → n ≤ ELEMENTS → line ≡ word ++ 32 ∷ rest → is_element word 32 ≡ false → AreNumbersFrom low n (suc (suc k)) line x → FirstOf low n (suc k) word rest x
split_first low n k line word rest x limit is none are =
    let found = first_of_more low n k line x are in
    let y = found.0 in
    let small : y < NUMBERS = (let h = found.5 in omega arith) in
    let both = same_parts 32 word (decimal y) rest (numbers_text found.1) none (decimal_without 32 y (omega arith) small) (sym is ∙ found.3) in
    record {
      first = y;
      others = found.1;
      parts = found.2;
      spelled = both.0;
      small = small;
      from = found.4;
      within = found.5;
      more = record { set = found.6.set; from = found.6.from; text = both.1 };
    }

-- the answers of the reader of several numbers; inner is the answer for the rest
pub unsplit : (low n count k : ℕ) (line : List ℕ) → count ≡ suc (suc k) → is_element line 32 ≡ false → (x : List ℕ) → (◌≡◌ {A = Option (List ℕ)} None (Some x)) ↔ AreNumbersFrom low n count line x
unsplit low n count k line is none x = (
  λ same. cc,
  λ are.
      let found = first_of_more low n k line x (subst (λ c. AreNumbersFrom low n c line x) is are) in
      let yes = has_separator 32 (decimal found.0) (numbers_text found.1) in
      let e = ap (λ w. is_element w 32) found.3 in
      cc,
)

-- a first word that is no number
pub first_none : (low n count k : ℕ) (line word rest : List ℕ) (r : Option ℕ) → n ≤ ELEMENTS → count ≡ suc (suc k) → line ≡ word ++ 32 ∷ rest → is_element word 32 ≡ false → Reads r word → r ≡ None → (x : List ℕ) → (◌≡◌ {A = Option (List ℕ)} None (Some x)) ↔ AreNumbersFrom low n count line x
first_none low n count k line word rest r limit is line_is none reads nothing x = (
  λ same. cc,
  λ are.
      let found = split_first low n k line word rest x limit line_is none (subst (λ c. AreNumbersFrom low n c line x) is are) in
      let yes : r ≡ Some found.first = (reads found.first).1 (found.small, found.spelled) in
      cc,
)

-- a first number that is too small or too large
pub first_out : (low n count k e : ℕ) (line word rest : List ℕ) (r : Option ℕ) → n ≤ ELEMENTS → count ≡ suc (suc k) → line ≡ word ++ 32 ∷ rest → is_element word 32 ≡ false → Reads r word → r ≡ Some e → ((low ≤ e) × (e < n) → ⊥) → (x : List ℕ) → (◌≡◌ {A = Option (List ℕ)} None (Some x)) ↔ AreNumbersFrom low n count line x
first_out low n count k e line word rest r limit is line_is none reads some out x = (
  λ same. cc,
  λ are.
      let found = split_first low n k line word rest x limit line_is none (subst (λ c. AreNumbersFrom low n c line x) is are) in
      let yes : r ≡ Some found.first = (reads found.first).1 (found.small, found.spelled) in
      let same : found.first ≡ e = cc in
      absurd (out (subst (λ j. low ≤ j) same found.from, subst (λ j. j < n) same found.within)),
)

-- what the reader of the other numbers says
abbrev Inner : ℕ → ℕ → ℕ → List ℕ → Option (List ℕ) → Type 0
Inner low n k rest inner = (z : List ℕ) → (inner ≡ Some z) ↔ AreNumbersFrom low n k rest z

-- the other numbers aren't spelled
pub others_none : (low n count k e : ℕ) (line word rest : List ℕ) (r : Option ℕ) (inner : Option (List ℕ)) → n ≤ ELEMENTS → count ≡ suc (suc k) → line ≡ word ++ 32 ∷ rest → is_element word 32 ≡ false → Reads r word → r ≡ Some e → Inner (e + 1) n (count - 1) rest inner → inner ≡ None → (x : List ℕ) → (◌≡◌ {A = Option (List ℕ)} None (Some x)) ↔ AreNumbersFrom low n count line x
others_none low n count k e line word rest r inner limit is line_is none reads some answers nothing x = (
  λ same. cc,
  λ are.
      let found = split_first low n k line word rest x limit line_is none (subst (λ c. AreNumbersFrom low n c line x) is are) in
      let yes : r ≡ Some found.first = (reads found.first).1 (found.small, found.spelled) in
      let same : found.first ≡ e = cc in
      let less : suc k ≡ count - 1 = omega arith in
      let there = subst (λ c. AreNumbersFrom (e + 1) n c rest found.others) less (subst (λ j. AreNumbersFrom (j + 1) n (suc k) rest found.others) same found.more) in
      let got : inner ≡ Some found.others = (answers found.others).1 there in
      cc,
)

-- the other numbers are read
pub others_found : (low n count k e : ℕ) (line word rest others : List ℕ) (r : Option ℕ) (inner : Option (List ℕ)) → n ≤ ELEMENTS → count ≡ suc (suc k) → line ≡ word ++ 32 ∷ rest → is_element word 32 ≡ false → Reads r word → r ≡ Some e → (low ≤ e) × (e < n) → Inner (e + 1) n (count - 1) rest inner → inner ≡ Some others → (x : List ℕ) → (Some (with_element e others) ≡ Some x) ↔ AreNumbersFrom low n count line x
others_found low n count k e line word rest others r inner limit is line_is none reads some within answers got x = (
  λ same.
      let whole = more low n e (suc k) word rest others (omega arith) within.0 within.1 ((reads e).0 some).1 own in
      let e1 : e ∷ others ≡ x = (let h : with_element e others ≡ x = cc in sym front ∙ h) in
      subst (λ z. AreNumbersFrom low n count line z) e1 (subst (λ w. AreNumbersFrom low n count w (e ∷ others)) (sym line_is) (subst (λ c. AreNumbersFrom low n c (word ++ 32 ∷ rest) (e ∷ others)) (sym is) whole)),
  λ are.
      let found = split_first low n k line word rest x limit line_is none (subst (λ c. AreNumbersFrom low n c line x) is are) in
      let yes : r ≡ Some found.first = (reads found.first).1 (found.small, found.spelled) in
      let same : found.first ≡ e = cc in
      let there = subst (λ c. AreNumbersFrom (e + 1) n c rest found.others) less (subst (λ j. AreNumbersFrom (j + 1) n (suc k) rest found.others) same found.more) in
      let again : inner ≡ Some found.others = (answers found.others).1 there in
      let equal : others ≡ found.others = cc in
      let parts = found.parts in
      ap Some (front ∙ (let h : e ∷ others ≡ x = cc in h)),
)
  where
    less : suc k ≡ count - 1
    less = omega arith

    own : AreNumbersFrom (e + 1) n (suc k) rest others
    own = subst (λ c. AreNumbersFrom (e + 1) n c rest others) (sym less) ((answers others).0 got)

    front : with_element e others ≡ e ∷ others
    front = with_front e others own.from

-- a set line with elements, and one without
pub set_line : (n r : ℕ) (line x : List ℕ) (result : Option (List ℕ)) → 0 < r → ((z : List ℕ) → (result ≡ Some z) ↔ AreNumbersFrom 0 n r line z) → (result ≡ Some x) ↔ SpellsSet n r line x
set_line n r line [] result some answers =
    (λ is. let are = (answers []).0 is in let e = are.set.size in absurd (omega arith), λ are. let e = are.set.size in absurd (omega arith))
set_line n r line (y ∷ ys) result some answers = (
  λ is. let are = (answers (y ∷ ys)).0 is in record { set = are.set; text = are.text },
  λ are. (answers (y ∷ ys)).1 (record { set = are.set; from = λ k d lt. omega arith; text = are.text }),
)

-- the line `-` is the empty set
pub empty_line : (n r : ℕ) (line x : List ℕ) → r ≡ 0 → line ≡ codes "-" → (◌≡◌ {A = Option (List ℕ)} (Some []) (Some x)) ↔ SpellsSet n r line x
empty_line n r line [] none is = (λ _. record { set = record { set = record { increasing = sorted_none; elements = λ k d lt. absurd (omega arith) }; size = sym none }; text = is }, λ _. refl)
empty_line n r line (y ∷ ys) none is = (λ same. cc, λ are. let e = are.set.size in absurd (omega arith))

-- no other line is
pub other_line : (n r : ℕ) (line x : List ℕ) → r ≡ 0 → (line ≡ codes "-" → ⊥) → (◌≡◌ {A = Option (List ℕ)} None (Some x)) ↔ SpellsSet n r line x
other_line n r line [] none differs = (λ same. cc, λ are. absurd (differs are.text))
other_line n r line (y ∷ ys) none differs = (λ same. cc, λ are. let e = are.set.size in absurd (omega arith))
