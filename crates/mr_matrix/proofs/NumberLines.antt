-- Numbers on a line, one after another.
use Rattle.std.proofs.Common.{◌≡◌, ◌↔◌, ℕ, zero, suc, ◌<◌, List, [], ◌∷◌, ◌++◌, length, refl, sym, ap, subst, ◌∙◌, arith, append_assoc, Option, Some, None}
use Rattle.std.specs.Prelude.{All, decimal}
use Rattle.mr_set.specs.Elements.{is_element}
use Rattle.mr_set.proofs.Sorted.{all_head, all_tail, all_cons, all_none}
use Rattle.mr_text.specs.declared.TheConstants.{NUMBERS}
use Rattle.mr_text.specs.Text.{Lacks, Spells, numbers_text}
use Rattle.mr_text.proofs.Decimals.{decimal_without, decimal_one}
use Rattle.mr_text.proofs.Formats.{same_parts, has_separator, lacks-append}
use Rattle.mr_matrix.specs.Private.Numbers.{AreNumbers}

-- small numbers
abbrev Small : ℕ → Type 0
Small v = v < NUMBERS

-- a line without a space has one number
no_split : (k : ℕ) (line xs : List ℕ) → Lacks 32 line → AreNumbers (suc (suc k)) line xs → ⊥
no_split k line [] lacks are = let size = are.size in omega arith
no_split k line (x ∷ []) lacks are = let size = are.size in omega arith
no_split k line (x ∷ y ∷ xs) lacks are = let found = has_separator 32 (decimal x) (numbers_text (y ∷ xs)) in let same = ap (λ w. is_element w 32) are.text in cc

-- the first of some numbers
first_number : (k : ℕ) (line word rest xs : List ℕ) → line ≡ word ++ 32 ∷ rest → Lacks 32 word → AreNumbers (suc (suc k)) line xs
    → (v : ℕ) × (tail : List ℕ) × (xs ≡ v ∷ tail) × Spells word v × AreNumbers (suc k) rest tail
first_number k line word rest [] is whole are = absurd (let size = are.size in omega arith)
first_number k line word rest (x ∷ []) is whole are = absurd (let size = are.size in omega arith)
first_number k line word rest (x ∷ y ∷ xs) is whole are =
    let small : x < NUMBERS = all_head Small x (y ∷ xs) are.small in
    let parts = same_parts 32 word (decimal x) rest (numbers_text (y ∷ xs)) whole (decimal_without 32 x (omega arith) small) (sym is ∙ are.text) in
    (x, y ∷ xs, refl, (small, parts.0), record { size = (let size = are.size in omega arith); small = all_tail Small x (y ∷ xs) are.small; text = parts.1 })

-- one number before others
more_numbers : (k : ℕ) (line word rest : List ℕ) (v : ℕ) (tail : List ℕ) → line ≡ word ++ 32 ∷ rest → Spells word v → AreNumbers (suc k) rest tail → AreNumbers (suc (suc k)) line (v ∷ tail)
more_numbers k line word rest v [] is spelled are = absurd (let size = are.size in omega arith)
more_numbers k line word rest v (y ∷ tail) is spelled are = record {
  size = (let size = are.size in omega arith);
  small = all_cons Small v (y ∷ tail) spelled.0 are.small;
  text = is ∙ ap (λ w. w ++ 32 ∷ rest) spelled.1 ∙ ap (λ w. decimal v ++ 32 ∷ w) are.text;
}

-- one number alone
last_number : (line xs : List ℕ) → AreNumbers 1 line xs → (v : ℕ) × (xs ≡ v ∷ []) × Spells line v
last_number line [] are = absurd (let size = are.size in omega arith)
last_number line (x ∷ []) are = (x, refl, (all_head Small x [] are.small, are.text))
last_number line (x ∷ y ∷ xs) are = absurd (let size = are.size in omega arith)

-- the line of one number
one_number : (line : List ℕ) (v : ℕ) → Spells line v → AreNumbers 1 line (v ∷ [])
one_number line v spelled = record { size = refl; small = all_cons Small v [] spelled.0 (all_none Small); text = spelled.1 }

-- the numbers of the line are those of the list, and then k more on the rest
pub record NumbersLeft (count k : ℕ) (line list rest : List ℕ) : Type 0 where
  pub joined : (tail : List ℕ) → AreNumbers k rest tail → AreNumbers count line (list ++ tail)
  pub parted : (xs : List ℕ) → AreNumbers count line xs → (tail : List ℕ) × (xs ≡ list ++ tail) × AreNumbers k rest tail

-- before the first
pub left_start : (count : ℕ) (line list : List ℕ) → list ≡ [] → NumbersLeft count count line list line
left_start count line list none = subst (λ (l : List ℕ). NumbersLeft count count line l line) (sym none) (record { joined = λ tail are. are; parted = λ xs are. (xs, refl, are) })

-- after one more
pub left_next : (count k j : ℕ) (line list rest word others more : List ℕ) (v : ℕ) → k ≡ suc j → 0 < j → NumbersLeft count k line list rest → rest ≡ word ++ 32 ∷ others → Lacks 32 word → Spells word v → more ≡ list ++ v ∷ []
    → NumbersLeft count j line more others
left_next count k zero line list rest word others more v is some left split whole spelled pushed = absurd (omega arith)
left_next count k (suc j) line list rest word others more v is some left split whole spelled pushed =
    subst (λ (l : List ℕ). NumbersLeft count (suc j) line l others) (sym pushed) (record {
      joined = λ tail are. subst (AreNumbers count line) (sym (append_assoc list (v ∷ []) tail)) (left.joined (v ∷ tail) (subst (λ i. AreNumbers i rest (v ∷ tail)) (sym is) (more_numbers j rest word others v tail split spelled are)));
      parted = λ xs are.
          let parts = left.parted xs are in
          let first = first_number j rest word others parts.0 split whole (subst (λ i. AreNumbers i rest parts.0) is parts.2) in
          let same : word ≡ decimal first.0 = first.3.1 in
          (first.1, parts.1 ∙ ap (λ w. list ++ w) (first.2 ∙ ap (λ u. u ∷ first.1) (spelled_one word first.0 v first.3 spelled)) ∙ sym (append_assoc list (v ∷ []) first.1), first.4);
    })
  where
    spelled_one : (w : List ℕ) (x y : ℕ) → Spells w x → Spells w y → x ≡ y
    spelled_one w x y p q = decimal_one x y p.0 q.0 (sym p.1 ∙ q.1)

-- the rest has no other space
pub left_stop : (count k j : ℕ) (line list rest : List ℕ) → k ≡ suc j → 0 < j → NumbersLeft count k line list rest → Lacks 32 rest → (xs : List ℕ) → AreNumbers count line xs → ⊥
left_stop count k zero line list rest is some left lacks xs are = omega arith
left_stop count k (suc j) line list rest is some left lacks xs are = let parts = left.parted xs are in no_split j rest parts.0 lacks (subst (λ i. AreNumbers i rest parts.0) is parts.2)

-- the next word is no number
pub left_stray : (count k j : ℕ) (line list rest word others : List ℕ) → k ≡ suc j → 0 < j → NumbersLeft count k line list rest → rest ≡ word ++ 32 ∷ others → Lacks 32 word → ((v : ℕ) → ¬ (Spells word v)) → (xs : List ℕ) → AreNumbers count line xs → ⊥
left_stray count k zero line list rest word others is some left split whole none xs are = omega arith
left_stray count k (suc j) line list rest word others is some left split whole none xs are =
    let parts = left.parted xs are in
    let first = first_number j rest word others parts.0 split whole (subst (λ i. AreNumbers i rest parts.0) is parts.2) in
    none first.0 first.3

-- the last word is a number
pub left_last : (count k : ℕ) (line list rest more : List ℕ) (v : ℕ) → k ≡ 1 → NumbersLeft count k line list rest → Spells rest v → more ≡ list ++ v ∷ [] → AreNumbers count line more
left_last count k line list rest more v is left spelled pushed = subst (AreNumbers count line) (sym pushed) (left.joined (v ∷ []) (subst (λ i. AreNumbers i rest (v ∷ [])) (sym is) (one_number rest v spelled)))

-- or it is none
pub left_none : (count k : ℕ) (line list rest : List ℕ) → k ≡ 1 → NumbersLeft count k line list rest → ((v : ℕ) → ¬ (Spells rest v)) → (xs : List ℕ) → AreNumbers count line xs → ⊥
left_none count k line list rest is left none xs are =
    let parts = left.parted xs are in
    let last = last_number rest parts.0 (subst (λ i. AreNumbers i rest parts.0) is parts.2) in
    none last.0 last.2

-- an answer that is none
pub never_spelled : (word : List ℕ) (r : Option ℕ) → ((v : ℕ) → (r ≡ Some v) ↔ Spells word v) → r ≡ None → (v : ℕ) → ¬ (Spells word v)
never_spelled word r answer none v spelled = let some = (answer v).1 spelled in cc

-- a listing stands for its numbers alone
pub same_listing : (x y : List ℕ) → length x ≡ length y → All (λ v. v < NUMBERS) x → All (λ v. v < NUMBERS) y → numbers_text x ≡ numbers_text y → x ≡ y
same_listing [] [] size p q same = refl
same_listing [] (f ∷ fs) size p q same = absurd (omega arith)
same_listing (e ∷ es) [] size p q same = absurd (omega arith)
same_listing (e ∷ []) (f ∷ []) size p q same = ap (λ k. k ∷ []) (decimal_one e f (all_head Small e [] p) (all_head Small f [] q) same)
same_listing (e ∷ []) (f ∷ g ∷ fs) size p q same = absurd (omega arith)
same_listing (e ∷ d ∷ es) (f ∷ []) size p q same = absurd (omega arith)
same_listing (e ∷ d ∷ es) (f ∷ g ∷ fs) size p q same =
    let se = all_head Small e (d ∷ es) p in
    let sf = all_head Small f (g ∷ fs) q in
    let parts = same_parts 32 (decimal e) (decimal f) (numbers_text (d ∷ es)) (numbers_text (g ∷ fs)) (decimal_without 32 e (omega arith) se) (decimal_without 32 f (omega arith) sf) same in
    let head = decimal_one e f se sf parts.0 in
    let tail = same_listing (d ∷ es) (g ∷ fs) (omega arith) (all_tail Small e (d ∷ es) p) (all_tail Small f (g ∷ fs) q) parts.1 in
    ap (λ k. k ∷ d ∷ es) head ∙ ap (λ w. f ∷ w) tail

-- a line has no byte but digits and spaces, so no newline
pub no_newline : (x : List ℕ) → All (λ v. v < NUMBERS) x → Lacks 10 (numbers_text x)
no_newline [] all = refl
no_newline (e ∷ []) all = decimal_without 10 e (omega arith) (all_head Small e [] all)
no_newline (e ∷ d ∷ es) all = lacks-append 10 (decimal e) (32 ∷ numbers_text (d ∷ es)) (decimal_without 10 e (omega arith) (all_head Small e (d ∷ es) all)) (no_newline (d ∷ es) (all_tail Small e (d ∷ es) all))
