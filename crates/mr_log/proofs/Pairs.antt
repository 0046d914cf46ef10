-- Pairs of a position and its value.
use Rattle.std.proofs.Common.{◌≡◌, ◌≢◌, ℕ, zero, suc, ◌+◌, ◌≤◌, List, [], ◌∷◌, ◌++◌, length, set, get_or, refl, sym, ap, subst, ◌∙◌, false, cond, eqb, ◌||◌, arith, append_assoc}
use Rattle.std.specs.Prelude.{◌<◌, decimal, nat_eq}
use Rattle.std.specs.Str.Parse.{AllDigits}
use Rattle.std.proofs.lemmas.Bool.Decides.{nat_tests}
use Rattle.std.proofs.lemmas.Fmt.{digits_decimal}
use Rattle.std.proofs.lemmas.Str.Parse.{digit_from_value}
use Rattle.mr_set.specs.Elements.{is_element}
use Rattle.mr_text.specs.declared.TheConstants.{NUMBERS}
use Rattle.mr_text.specs.Text.{Lacks}
use Rattle.mr_text.proofs.Decimals.{own, decimal_without, decimal_one}
use Rattle.mr_text.proofs.Formats.{same_parts, has_separator, lacks-append}
use Rattle.mr_log.specs.Lines.{pair_text, pair_texts}

-- digits are no colon
digits_without : (ds : List ℕ) → AllDigits 10 ds → is_element ds 58 ≡ false
digits_without [] all = refl
digits_without (d ∷ ds) all =
    let digit = digit_from_value d all.0 in
    let other : nat_eq 58 d ≡ false = different d (let h = digit.1 in omega arith) in
    ap (λ b. b || is_element ds 58) other ∙ digits_without ds all.1
  where
    different : (n : ℕ) → n < 58 → nat_eq 58 n ≡ false
    different n lt = grind (arith, nat_tests)

-- a number has no colon
pub no_colon : (v : ℕ) → v < NUMBERS → Lacks 58 (decimal v)
no_colon v small = digits_without (decimal v) (digits_decimal own v (omega arith))

-- a pair from its front
pub pair_text-parts : (p v : ℕ) → pair_text p v ≡ decimal p ++ 58 ∷ decimal v
pair_text-parts p v = append_assoc (decimal p) (58 ∷ []) (decimal v)

-- a pair has one position and one value
pub pair_one : (p v k w : ℕ) → p < NUMBERS → v < NUMBERS → k < NUMBERS → w < NUMBERS → pair_text p v ≡ pair_text k w → (p ≡ k) × (v ≡ w)
pair_one p v k w sp sv sk sw same =
    let parts = same_parts 58 (decimal p) (decimal k) (decimal v) (decimal w) (no_colon p sp) (no_colon k sk) (sym (pair_text-parts p v) ∙ same ∙ pair_text-parts k w) in
    (decimal_one p k sp sk parts.0, decimal_one v w sv sw parts.1)

-- a pair holds no byte below the digits
pub pair_lacks : (c p v : ℕ) → c < 48 → p < NUMBERS → v < NUMBERS → Lacks c (pair_text p v)
pair_lacks c p v low sp sv =
    let colon : nat_eq c 58 ≡ false = different c (omega arith) in
    subst (Lacks c) (sym (pair_text-parts p v)) (lacks-append c (decimal p) (58 ∷ decimal v) (decimal_without c p low sp) (ap (λ b. b || is_element (decimal v) c) colon ∙ decimal_without c v low sv))
  where
    different : (n : ℕ) → n < 58 → nat_eq n 58 ≡ false
    different n lt = grind (arith, nat_tests)

-- a word without a colon is no pair
pub no_pair : (word : List ℕ) (p v : ℕ) → Lacks 58 word → word ≡ pair_text p v → ⊥
no_pair word p v none is = let yes = has_separator 58 (decimal p) (decimal v) in let e = ap (λ w. is_element w 58) (is ∙ pair_text-parts p v) in cc

-- the numbers round the colon
pub colon_parts : (word left right : List ℕ) (p v : ℕ) → word ≡ left ++ 58 ∷ right → Lacks 58 left → p < NUMBERS → word ≡ pair_text p v → (left ≡ decimal p) × (right ≡ decimal v)
colon_parts word left right p v is none small spelled = same_parts 58 left (decimal p) right (decimal v) none (no_colon p small) (sym is ∙ spelled ∙ pair_text-parts p v)

-- one with a value has one
pub pair_texts-some : (s v : ℕ) (a : List ℕ) → v ≢ 0 → pair_texts s (v ∷ a) ≡ pair_text s v ∷ pair_texts (s + 1) a
pair_texts-some s v a some = let no_zero : eqb v 0 ≡ false = grind (arith, nat_tests) in ap (λ b. cond b (pair_texts (s + 1) a) (pair_text s v ∷ pair_texts (s + 1) a)) no_zero

-- a pair more before all others
pub pair_texts-set : (s : ℕ) (a : List ℕ) (k v : ℕ) → k < length a → v ≢ 0 → ((j : ℕ) → j ≤ k → get_or a j 0 ≡ 0) → pair_texts s (set a k v) ≡ pair_text (s + k) v ∷ pair_texts s a
pair_texts-set s [] k v lt some none = absurd (omega arith)
pair_texts-set s (x ∷ a) zero v lt some none =
    let first : x ≡ 0 = none 0 (omega arith) in
    let here : s ≡ s + 0 = omega arith in
    pair_texts-some s v a some ∙ ap (λ p. pair_text p v ∷ pair_texts (s + 1) a) here ∙ ap (λ y. pair_text (s + 0) v ∷ pair_texts s (y ∷ a)) (sym first)
pair_texts-set s (x ∷ a) (suc k) v lt some none =
    let first : x ≡ 0 = none 0 (omega arith) in
    let next : s + 1 + k ≡ s + suc k = omega arith in
    ap (λ y. pair_texts s (y ∷ set a k v)) first ∙ pair_texts-set (s + 1) a k v (omega arith) some (λ j le. none (suc j) (omega arith))
    ∙ ap (λ p. pair_text p v ∷ pair_texts (s + 1) a) next ∙ ap (λ y. pair_text (s + suc k) v ∷ pair_texts s (y ∷ a)) (sym first)

-- the least position with a value, if there is one
pub data Least (s : ℕ) (a : List ℕ) : Type 0 where
  vacant : pair_texts s a ≡ [] → Least s a
  valued : (k : ℕ) → k < length a → get_or a k 0 ≢ 0 → ((j : ℕ) → j < k → get_or a j 0 ≡ 0) → pair_texts s a ≡ pair_text (s + k) (get_or a k 0) ∷ pair_texts s (set a k 0) → Least s a

-- the same with a first position that has no value
least_more : (s : ℕ) (a : List ℕ) → Least (s + 1) a → Least s (0 ∷ a)
least_more s a (vacant is) = vacant is
least_more s a (valued k lt value before is) =
    let next : s + 1 + k ≡ s + suc k = omega arith in
    valued (suc k) (omega arith) value (λ j below. earlier j below) (is ∙ ap (λ p. pair_text p (get_or a k 0) ∷ pair_texts (s + 1) (set a k 0)) next)
  where
    earlier : (j : ℕ) → j < suc k → get_or (0 ∷ a) j 0 ≡ 0
    earlier zero below = refl
    earlier (suc j) below = before j (omega arith)

-- either no position has a value, or there is a least one
pub least : (s : ℕ) (a : List ℕ) → Least s a
least s [] = vacant refl
least s (zero ∷ a) = least_more s a (least (s + 1) a)
least s (suc v ∷ a) =
    let here : s ≡ s + 0 = omega arith in
    valued 0 (omega arith) (λ e. omega arith) (λ j below. absurd (omega arith)) (pair_texts-some s (suc v) a (λ e. omega arith) ∙ ap (λ p. pair_text p (suc v) ∷ pair_texts (s + 1) a) here)
