-- The words of a clause, pair by pair.
use Rattle.std.proofs.Common.{◌≡◌, ◌≢◌, ℕ, ◌+◌, ◌<◌, ◌≤◌, List, [], ◌∷◌, ◌++◌, length, set, get_or, refl, sym, ap, subst, ◌∙◌, inl, inr, Option, Some, None, Bool, true, false, eqb, arith, length-set, get_or-set_same, get_or-set_other, codes}
use Rattle.std.specs.Prelude.{◌↔◌, All, IsTrue, MatchOption}
use Rattle.std.specs.Cmp.Lexicographic.{pointwise, same_text, other_text}
use Rattle.std.proofs.lemmas.Bool.{cases_eq, cases_lt}
use Rattle.std.proofs.lemmas.List.{get_or-replicate, get_or_past, set-set, set-get_or}
use Rattle.std.proofs.lemmas.List.Elements.{All-set, All-replicate}
use Rattle.mr_assign.specs.Assign.{no_values}
use Rattle.mr_assign.specs.declared.TheConstants.{POSITIONS, VALUES}
use Rattle.mr_log.specs.Lines.{pair_text, pair_texts}
use Rattle.mr_log.specs.Private.Words.{Reads, IsClauseFrom, or_dash, pair_words, clause_words}
use Rattle.mr_log.proofs.Pairs.{pair_one, no_pair, pair_texts-set, Least, vacant, valued, least}
use Rattle.mr_text.specs.declared.TheConstants.{NUMBERS}

-- a text that was compared with another and is the same
pub agrees : (w s t : List ℕ) (r : Bool) → r ≡ pointwise eqb w s → r ≡ true → s ≡ t → w ≡ t
agrees w s t r tested same is = same_text w s (sym same ∙ tested) ∙ is

-- and one that is not
pub differs : (w s t : List ℕ) (r : Bool) → r ≡ pointwise eqb w s → r ≡ false → s ≡ t → w ≢ t
differs w s t r tested no_more is same = other_text w s (sym no_more ∙ tested) (same ∙ sym is)

-- a test that answered no
pub untrue : {P : Type 0} (r : Bool) → IsTrue r ↔ P → r ≡ false → P → ⊥
untrue true tells is p = absurd cc
untrue false tells is p = let same = tells.1 p in absurd cc

-- the map without values, in which no position below low has one
pub empty_clause : (q low : ℕ) → 0 < q → IsClauseFrom q low no_values
empty_clause q low some = record {
  assign = record { positions = refl; values = All-replicate (λ v. v ≤ VALUES) POSITIONS 0 (omega arith) };
  values = All-replicate (λ v. v < q) POSITIONS 0 some;
  none = λ p lt. nothing p;
}
  where
    nothing : (p : ℕ) → get_or no_values p 0 ≡ 0
    nothing p = elim (cases_lt p POSITIONS) [
      | inl lt ↦ get_or-replicate POSITIONS p 0 0 lt
      | inr past ↦ get_or_past no_values p 0 past
    ]

-- a value of a map at a position
value_at : (P : ℕ → Type 0) (a : List ℕ) (k : ℕ) → All P a → k < length a → P (get_or a k 0)
value_at P a k all lt = all k 0 lt

-- a value put back where it was
put_back : (a : List ℕ) (k : ℕ) → k < length a → a ≡ set (set a k 0) k (get_or a k 0)
put_back a k lt = sym (set-set a k 0 (get_or a k 0) ∙ set-get_or a k 0)

-- the first word is that of a pair, and the words of the others follow
pub record FirstIs (q low : ℕ) (word : List ℕ) (old : List (List ℕ)) (a : List ℕ) (rest : List (List ℕ)) : Type 0 where
  pub position : ℕ
  pub value : ℕ
  pub others : List ℕ
  pub low_enough : low ≤ position
  pub place : position < POSITIONS
  pub nonzero : 0 < value
  pub small : value < q
  pub spelled : word ≡ pair_text position value
  pub clause : IsClauseFrom q (position + 1) others
  pub words : old ≡ pair_words others ++ rest
  pub whole : a ≡ set others position value

-- where the word is not the one after the pairs
pub first_is : (q low : ℕ) (word : List ℕ) (old : List (List ℕ)) (a : List ℕ) (rest : List (List ℕ)) → IsClauseFrom q low a → word ≢ codes "by" → word ∷ old ≡ pair_words a ++ rest → FirstIs q low word old a rest
first_is q low word old a rest is other words = by_least (least 0 a)
  where
    by_least : Least 0 a → FirstIs q low word old a rest
    by_least (vacant empty) = absurd (other (let e : word ∷ old ≡ codes "by" ∷ rest = words ∙ ap (λ ts. (ts ++ codes "by" ∷ []) ++ rest) empty in cc))
    by_least (valued k lt value before texts) =
        let e : word ∷ old ≡ pair_text (0 + k) (get_or a k 0) ∷ (pair_words (set a k 0) ++ rest) = words ∙ ap (λ ts. (ts ++ codes "by" ∷ []) ++ rest) texts in
        let same : 0 + k ≡ k = omega arith in
        record {
          position = k;
          value = get_or a k 0;
          others = set a k 0;
          low_enough = elim (cases_lt k low) [
            | inl less ↦ absurd (value (is.none k less))
            | inr le ↦ le
          ];
          place = (let n = is.assign.positions in omega arith);
          nonzero = (let h = value in omega arith);
          small = value_at (λ v. v < q) a k is.values lt;
          spelled = (let h : word ≡ pair_text (0 + k) (get_or a k 0) = cc in h ∙ ap (λ p. pair_text p (get_or a k 0)) same);
          clause = record {
            assign = record { positions = length-set a k 0 ∙ is.assign.positions; values = All-set (λ v. v ≤ VALUES) a k 0 (omega arith) is.assign.values };
            values = All-set (λ v. v < q) a k 0 (let h = value_at (λ v. v < q) a k is.values lt in omega arith) is.values;
            none = λ p below. elim (cases_eq p k) as (λ _. get_or (set a k 0) p 0 ≡ 0) [
              | inl here ↦ ap (λ i. get_or (set a k 0) i 0) here ∙ get_or-set_same a k 0 0 lt
              | inr there ↦ get_or-set_other a k p 0 0 there ∙ before p (let h = there in omega arith)
            ];
          };
          words = (let h : old ≡ pair_words (set a k 0) ++ rest = cc in h);
          whole = put_back a k lt;
        }

-- a pair more before the others
pub with_pair : (q low p v : ℕ) (word : List ℕ) (a : List ℕ) (old new : List (List ℕ)) → q ≤ 9 → low ≤ p → p < POSITIONS → 0 < v → v < q → word ≡ pair_text p v → IsClauseFrom q (p + 1) a → old ≡ pair_words a ++ new
    → IsClauseFrom q low (set a p v) × (word ∷ old ≡ pair_words (set a p v) ++ new)
with_pair q low p v word a old new nine le place nonzero small spelled is words =
    let inside : p < length a = (let n = is.assign.positions in omega arith) in
    let same : p ≡ 0 + p = omega arith in (
      record {
        assign = record { positions = length-set a p v ∙ is.assign.positions; values = All-set (λ w. w ≤ VALUES) a p v (omega arith) is.assign.values };
        values = All-set (λ w. w < q) a p v small is.values;
        none = λ k below. get_or-set_other a p k v 0 (λ e. omega arith) ∙ is.none k (omega arith);
      },
      ap (λ w. w ∷ old) spelled ∙ ap (λ z. pair_text p v ∷ z) words ∙ ap (λ i. pair_text i v ∷ (pair_words a ++ new)) same
          ∙ ap (λ ts. (ts ++ codes "by" ∷ []) ++ new) (sym (pair_texts-set 0 a p v inside (λ e. omega arith) (λ j below. is.none j (omega arith)))),
    )

-- what a reader of pairs did not read stands nowhere
abbrev pub NoPairs : ℕ → ℕ → List (List ℕ) → Type 0
NoPairs q low old = (a : List ℕ) (rest : List (List ℕ)) → IsClauseFrom q low a → old ≢ pair_words a ++ rest

-- a first word that is no pair
pub not_a_pair : (q low : ℕ) (word : List ℕ) (old : List (List ℕ)) → q ≤ 9 → word ≢ codes "by" → ((p v : ℕ) → p < NUMBERS → v < NUMBERS → word ≢ pair_text p v) → NoPairs q low (word ∷ old)
not_a_pair q low word old nine other never a rest is words =
    let f = first_is q low word old a rest is other words in
    let place = f.place in
    let small = f.small in
    never f.position f.value (omega arith) (omega arith) f.spelled

-- the first word is the pair that was read
pub pair_is : (q low p v : ℕ) (word : List ℕ) (old : List (List ℕ)) (a : List ℕ) (rest : List (List ℕ)) → q ≤ 9 → p < NUMBERS → v < NUMBERS → word ≡ pair_text p v → (f : FirstIs q low word old a rest) → (f.position ≡ p) × (f.value ≡ v)
pair_is q low p v word old a rest nine sp sv is f =
    let place = f.place in
    let small = f.small in
    pair_one f.position f.value p v (omega arith) (omega arith) sp sv (sym f.spelled ∙ is)

-- a pair that may not stand here
pub pair_out : (q low p v : ℕ) (word : List ℕ) (old : List (List ℕ)) → q ≤ 9 → word ≢ codes "by" → p < NUMBERS → v < NUMBERS → word ≡ pair_text p v → ((low ≤ p) × (p < POSITIONS) × (0 < v) × (v < q) → ⊥) → NoPairs q low (word ∷ old)
pair_out q low p v word old nine other sp sv spelled out a rest is words =
    let f = first_is q low word old a rest is other words in
    let same = pair_is q low p v word old a rest nine sp sv spelled f in
    out (subst (λ k. low ≤ k) same.0 f.low_enough, subst (λ k. k < POSITIONS) same.0 f.place, subst (λ k. 0 < k) same.1 f.nonzero, subst (λ k. k < q) same.1 f.small)

-- a pair that no others follow
pub no_others : (q low p v : ℕ) (word : List ℕ) (old : List (List ℕ)) → q ≤ 9 → word ≢ codes "by" → p < NUMBERS → v < NUMBERS → word ≡ pair_text p v → NoPairs q (p + 1) old → NoPairs q low (word ∷ old)
no_others q low p v word old nine other sp sv spelled never a rest is words =
    let f = first_is q low word old a rest is other words in
    let same = pair_is q low p v word old a rest nine sp sv spelled f in
    never f.others rest (subst (λ k. IsClauseFrom q (k + 1) f.others) same.0 f.clause) f.words

-- pairs are some, or the word after them stands first
pub some_pairs : (word : List ℕ) (old new : List (List ℕ)) (a : List ℕ) → word ≢ codes "by" → word ∷ old ≡ pair_words a ++ new → word ∷ old ≡ clause_words a ++ new
some_pairs word old new a other words = by_texts (pair_texts 0 a) words
  where
    by_texts : (ts : List (List ℕ)) → word ∷ old ≡ (ts ++ codes "by" ∷ []) ++ new → word ∷ old ≡ (or_dash ts ++ codes "by" ∷ []) ++ new
    by_texts [] e = absurd (other (let h : word ≡ codes "by" = cc in h))
    by_texts (t ∷ ts) e = e

-- a clause that does not begin with `-` is pairs
pub pairs_of_clause : (word : List ℕ) (old new : List (List ℕ)) (a : List ℕ) → word ≢ codes "-" → word ∷ old ≡ clause_words a ++ new → word ∷ old ≡ pair_words a ++ new
pairs_of_clause word old new a other words = by_texts (pair_texts 0 a) words
  where
    by_texts : (ts : List (List ℕ)) → word ∷ old ≡ (or_dash ts ++ codes "by" ∷ []) ++ new → word ∷ old ≡ (ts ++ codes "by" ∷ []) ++ new
    by_texts [] e = absurd (other (let h : word ≡ codes "-" = cc in h))
    by_texts (t ∷ ts) e = e

-- a clause does not begin with the word after it
pub not_by : (q : ℕ) (a : List ℕ) (word : List ℕ) (old new : List (List ℕ)) → q ≤ 9 → IsClauseFrom q 0 a → word ≡ codes "by" → word ∷ old ≢ clause_words a ++ new
not_by q a word old new nine is by words = by_least (least 0 a)
  where
    by_least : Least 0 a → ⊥
    by_least (vacant empty) =
        let e : word ∷ old ≡ codes "-" ∷ codes "by" ∷ new = words ∙ ap (λ ts. (or_dash ts ++ codes "by" ∷ []) ++ new) empty in
        let h : codes "by" ≡ codes "-" = cc in
        absurd cc
    by_least (valued k lt value before texts) =
        let e : word ∷ old ≡ pair_text (0 + k) (get_or a k 0) ∷ (pair_words (set a k 0) ++ new) = words ∙ ap (λ ts. (or_dash ts ++ codes "by" ∷ []) ++ new) texts in
        no_pair (codes "by") (0 + k) (get_or a k 0) refl (let h : codes "by" ≡ pair_text (0 + k) (get_or a k 0) = cc in h)

-- a clause that begins with `-` is empty
pub no_pairs_after : (q : ℕ) (a : List ℕ) (word : List ℕ) (old new : List (List ℕ)) → word ≡ codes "-" → word ∷ old ≡ clause_words a ++ new → old ≡ codes "by" ∷ new
no_pairs_after q a word old new dash words = by_least (least 0 a)
  where
    by_least : Least 0 a → old ≡ codes "by" ∷ new
    by_least (vacant empty) =
        let e : word ∷ old ≡ codes "-" ∷ codes "by" ∷ new = words ∙ ap (λ ts. (or_dash ts ++ codes "by" ∷ []) ++ new) empty in
        let h : old ≡ codes "by" ∷ new = cc in h
    by_least (valued k lt value before texts) =
        let e : word ∷ old ≡ pair_text (0 + k) (get_or a k 0) ∷ (pair_words (set a k 0) ++ new) = words ∙ ap (λ ts. (or_dash ts ++ codes "by" ∷ []) ++ new) texts in
        absurd (no_pair (codes "-") (0 + k) (get_or a k 0) refl (let h : codes "-" ≡ pair_text (0 + k) (get_or a k 0) = cc in h))

-- what is read after `-`
pub dash_clause : (q : ℕ) (word : List ℕ) (old mid new : List (List ℕ)) (r : Option (List ℕ)) → 0 < q → old ≡ word ∷ mid → word ≡ codes "-"
    → MatchOption r ((rest : List (List ℕ)) → mid ≢ codes "by" ∷ rest) (λ a. (a ≡ no_values) × (mid ≡ codes "by" ∷ new)) → Reads (IsClauseFrom q 0) clause_words r old new
dash_clause q word old mid new None positive is dash never = λ a rest clause words. never rest (no_pairs_after q a word mid rest dash (sym is ∙ words))
dash_clause q word old mid new (Some a) positive is dash found = (
  subst (IsClauseFrom q 0) (sym found.0) (empty_clause q 0 positive),
  is ∙ ap (λ w. w ∷ mid) dash ∙ ap (λ z. codes "-" ∷ z) found.1 ∙ ap (λ (b : List ℕ). clause_words b ++ new) (sym found.0),
)

-- what is read after another word
pub pairs_clause : (q : ℕ) (word : List ℕ) (old mid new : List (List ℕ)) (r : Option (List ℕ)) → old ≡ word ∷ mid → word ≢ codes "-" → word ≢ codes "by" → Reads (IsClauseFrom q 0) pair_words r (word ∷ mid) new → Reads (IsClauseFrom q 0) clause_words r old new
pairs_clause q word old mid new None is no_dash no_end never = λ a rest clause words. never a rest clause (pairs_of_clause word mid rest a no_dash (sym is ∙ words))
pairs_clause q word old mid new (Some a) is no_dash no_end found = (found.0, is ∙ some_pairs word mid new a no_end found.1)
