-- A line of a matroid file spells one value.
use Rattle.std.proofs.Common.{◌≡◌, ℕ, zero, suc, ◌≤◌, List, [], ◌∷◌, ◌++◌, length, refl, sym, ap, ◌∙◌, arith, Option, Some, None, codes}
use Rattle.std.specs.Prelude.{◌<◌, All, decimal}
use Rattle.std.proofs.lemmas.List.{append_cancel_left}
use Rattle.mr_set.specs.Elements.{is_element}
use Rattle.mr_set.specs.Subsets.{IsSetOf}
use Rattle.mr_set.specs.declared.TheConstants.{ELEMENTS}
use Rattle.mr_text.specs.declared.TheConstants.{NUMBERS}
use Rattle.mr_text.specs.Text.{numbers_text, set_text}
use Rattle.mr_text.specs.Tables.{keyed}
use Rattle.mr_text.specs.Private.Sharp.{IsSharpTable, IsSharp}
use Rattle.mr_text.proofs.Formats.{same_parts, has_separator, fixed_sharp}
use Rattle.mr_text.proofs.Decimals.{decimal_without, decimal_one}
use Rattle.mr_file.specs.File.{ElementsExceed, RankExceeds, CountExceeds, set_lines}
use Rattle.mr_file.specs.Reading.{whole_file}
use Rattle.mr_file.specs.Private.Reading.{from_sets}
use Rattle.mr_file.specs.declared.fault.Measure.{Measure}
use Rattle.mr_file.specs.declared.fault.Measure.TheVariants.{Elements, Rank, Sets, Nonbases}
use Rattle.mr_file.proofs.Whole.{at_most}

-- a line of a key and a number
keyed_sharp : (key : List ℕ) (exceeds : ℕ → Measure → Type 0) → ((v : ℕ) (m n : Measure) → exceeds v m → exceeds v n → m ≡ n) → IsSharpTable (keyed key exceeds)
keyed_sharp key exceeds one = record {
  one_value = λ line v w p q. decimal_one v w p.0 q.0 (append_cancel_left key (decimal v) (decimal w) (sym p.1 ∙ q.1));
  one_measure = one;
}

-- a number of elements is too large by one measure
elements_one : (v : ℕ) (m n : Measure) → ElementsExceed v m → ElementsExceed v n → m ≡ n
elements_one v Elements Elements p q = refl
elements_one v Elements Rank p q = absurd q
elements_one v Elements Sets p q = absurd q
elements_one v Elements Nonbases p q = absurd q
elements_one v Rank n p q = absurd p
elements_one v Sets n p q = absurd p
elements_one v Nonbases n p q = absurd p

-- so is a rank
rank_one : (k v : ℕ) (m n : Measure) → RankExceeds k v m → RankExceeds k v n → m ≡ n
rank_one k v Elements n p q = absurd p
rank_one k v Rank Elements p q = absurd q
rank_one k v Rank Rank p q = refl
rank_one k v Rank Sets p q = let h = q.0 in absurd (omega arith)
rank_one k v Rank Nonbases p q = absurd q
rank_one k v Sets Elements p q = absurd q
rank_one k v Sets Rank p q = let h = p.0 in absurd (omega arith)
rank_one k v Sets Sets p q = refl
rank_one k v Sets Nonbases p q = absurd q
rank_one k v Nonbases n p q = absurd p

-- so is a number of nonbases
count_one : (k r v : ℕ) (m n : Measure) → CountExceeds k r v m → CountExceeds k r v n → m ≡ n
count_one k r v Elements n p q = absurd p
count_one k r v Rank n p q = absurd p
count_one k r v Sets n p q = absurd p
count_one k r v Nonbases Elements p q = absurd q
count_one k r v Nonbases Rank p q = absurd q
count_one k r v Nonbases Sets p q = absurd q
count_one k r v Nonbases Nonbases p q = refl

-- the first element has at most nine digits
small_head : (x : ℕ) (xs : List ℕ) → All (λ e. e < ELEMENTS) (x ∷ xs) → x < NUMBERS
small_head x xs all = let h = all 0 x (omega arith) in omega arith

-- the others are small too
small_tail : (x : ℕ) (xs : List ℕ) → All (λ e. e < ELEMENTS) (x ∷ xs) → All (λ e. e < ELEMENTS) xs
small_tail x xs all k d lt = all (suc k) d (omega arith)

-- one number is no longer listing
lone : (e f : ℕ) (rest : List ℕ) → e < NUMBERS → decimal e ≡ decimal f ++ 32 ∷ rest → ⊥
lone e f rest small same =
    let yes = has_separator 32 (decimal f) rest in
    let never_one = decimal_without 32 e (omega arith) small in
    let h = ap (λ w. is_element w 32) same in cc

-- a listing stands for its numbers alone
numbers_one : (x y : List ℕ) → length x ≡ length y → All (λ e. e < ELEMENTS) x → All (λ e. e < ELEMENTS) y → numbers_text x ≡ numbers_text y → x ≡ y
numbers_one [] [] size p q same = refl
numbers_one [] (f ∷ fs) size p q same = absurd (omega arith)
numbers_one (e ∷ es) [] size p q same = absurd (omega arith)
numbers_one (e ∷ []) (f ∷ []) size p q same = ap (λ k. k ∷ []) (decimal_one e f (small_head e [] p) (small_head f [] q) same)
numbers_one (e ∷ []) (f ∷ g ∷ fs) size p q same = absurd (omega arith)
numbers_one (e ∷ d ∷ es) (f ∷ []) size p q same = absurd (omega arith)
numbers_one (e ∷ d ∷ es) (f ∷ g ∷ fs) size p q same =
    let se = small_head e (d ∷ es) p in
    let sf = small_head f (g ∷ fs) q in
    let parts = same_parts 32 (decimal e) (decimal f) (numbers_text (d ∷ es)) (numbers_text (g ∷ fs)) (decimal_without 32 e (omega arith) se) (decimal_without 32 f (omega arith) sf) same in
    let head = decimal_one e f se sf parts.0 in
    let tail = numbers_one (d ∷ es) (g ∷ fs) (omega arith) (small_tail e (d ∷ es) p) (small_tail f (g ∷ fs) q) parts.1 in
    ap (λ k. k ∷ d ∷ es) head ∙ ap (λ w. f ∷ w) tail

-- a line stands for one set
set_one : (n r : ℕ) (x y : List ℕ) → n ≤ ELEMENTS → IsSetOf n r x → IsSetOf n r y → set_text x ≡ set_text y → x ≡ y
set_one n r [] [] limit p q same = refl
set_one n r [] (f ∷ fs) limit p q same = let a = p.size in let b = q.size in absurd (omega arith)
set_one n r (e ∷ es) [] limit p q same = let a = p.size in let b = q.size in absurd (omega arith)
set_one n r (e ∷ es) (f ∷ fs) limit p q same =
    numbers_one (e ∷ es) (f ∷ fs) (p.size ∙ sym q.size) (λ k d lt. let h = p.set.elements k d lt in omega arith) (λ k d lt. let h = q.set.elements k d lt in omega arith) same

-- the lines of sets
sets_sharp : (n r k : ℕ) (sets : List (List ℕ)) (last : Option (List ℕ)) → n ≤ ELEMENTS → IsSharp (from_sets n r k sets last)
unfolding set_lines
sets_sharp n r zero sets last limit = (fixed_sharp (codes "end"), λ line a spelled fits. tt)
sets_sharp n r (suc k) sets last limit = (
  record { one_value = λ line x y p q. set_one n r x y limit p.set q.set (sym p.text ∙ q.text); one_measure = λ a m n p q. absurd p },
  λ line x spelled fits. sets_sharp n r k (sets ++ x ∷ []) (Some x) limit,
)

-- the lines of a matroid file
pub file_sharp : IsSharp whole_file
file_sharp = (
  fixed_sharp (codes "matroid 1"),
  λ l1 u s1 f1. (
    keyed_sharp (codes "elements ") ElementsExceed elements_one,
    λ l2 n s2 f2. (
      keyed_sharp (codes "rank ") (RankExceeds n) (rank_one n),
      λ l3 r s3 f3. (
        keyed_sharp (codes "nonbases ") (CountExceeds n r) (count_one n r),
        λ l4 k s4 f4.
            sets_sharp n r k [] None (at_most ELEMENTS n (f2 Elements)),
      ),
    ),
  ),
)
