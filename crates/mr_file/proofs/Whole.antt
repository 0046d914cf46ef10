-- The text of a whole file.
use Rattle.std.proofs.Common.{◌≡◌, ℕ, zero, suc, ◌+◌, ◌≤◌, List, [], ◌∷◌, ◌++◌, length, map, refl, sym, ap, subst, ◌∙◌, inl, inr, arith, Option, Some, None, append_assoc, append-nil, codes}
use Rattle.std.specs.Prelude.{◌<◌, All, IfSome, decimal}
use Rattle.std.specs.List.{AllByRecursion}
use Rattle.std.specs.List.Sorted.{IsStrictlySortedBy}
use Rattle.std.proofs.lemmas.Bool.{cases_lt}
use Rattle.std.proofs.lemmas.Cmp.{nat_list_cmp_total}
use Rattle.mr_set.specs.Matroid.{Presentation, IsPresentation}
use Rattle.mr_set.specs.Subsets.{IsSetOf, IsBefore, choose, list_cmp}
use Rattle.mr_set.specs.declared.TheConstants.{ELEMENTS, SETS}
use Rattle.mr_matroid.specs.Exchange.{IsWithinLimits}
use Rattle.mr_text.specs.declared.TheConstants.{NUMBERS}
use Rattle.mr_text.specs.Text.{text_of_lines, set_text, numbers_text, Lacks}
use Rattle.mr_text.proofs.Formats.{lacks-append}
use Rattle.mr_text.proofs.Decimals.{decimal_without}
use Rattle.mr_set.proofs.Counting.{no_more_sets}
use Rattle.mr_file.proofs.Outcomes.{elements_fit, rank_fits, count_fits}
use Rattle.mr_text.specs.Format.{IsLineOf, StandsFor}
use Rattle.mr_text.specs.Tables.{fixed, keyed}
use Rattle.mr_file.specs.File.{ElementsExceed, RankExceeds, CountExceeds, set_lines, file_text}
use Rattle.mr_file.specs.Reading.{whole_file}
use Rattle.mr_file.specs.Private.Reading.{from_sets}
use Rattle.mr_file.specs.declared.fault.Measure.{Measure}
use Rattle.mr_file.specs.declared.fault.Measure.TheVariants.{Elements, Rank, Sets}

-- sets in order
abbrev Sorted : List (List ℕ) → Type 0
Sorted sets = IsStrictlySortedBy list_cmp sets

-- sets in order, after the last one if there was one
SortedAfter : Option (List ℕ) → List (List ℕ) → Type 0
SortedAfter None sets = Sorted sets
SortedAfter (Some y) sets = Sorted (y ∷ sets)

-- what stands before the first stands before all
before_all : (x y : List ℕ) (sets : List (List ℕ)) → IsBefore x y → AllByRecursion (λ z. IsBefore y z) sets → AllByRecursion (λ z. IsBefore x z) sets
before_all x y [] lt all = tt
before_all x y (z ∷ sets) lt all = (nat_list_cmp_total.trans x y z lt all.0, before_all x y sets lt all.1)

-- no sets are in order
after_none : (last : Option (List ℕ)) → SortedAfter last []
unfolding SortedAfter IsStrictlySortedBy
after_none None = tt
after_none (Some y) = (tt, tt)

-- a set after the last one, in front of those after it
after_cons : (last : Option (List ℕ)) (x : List ℕ) (sets : List (List ℕ)) → IfSome last (λ y. IsBefore y x) → SortedAfter (Some x) sets → SortedAfter last (x ∷ sets)
unfolding SortedAfter IsStrictlySortedBy
after_cons None x sets lt sorted = sorted
after_cons (Some y) x sets lt sorted = ((lt, before_all y x sets lt sorted.0), sorted)

-- where there is no last one they are in order
after_sorted : (sets : List (List ℕ)) → SortedAfter None sets → Sorted sets
unfolding SortedAfter
after_sorted sets sorted = sorted

-- of no sets
all_none : (P : List ℕ → Type 0) → All P []
all_none P k d lt = absurd (omega arith)

-- of the first set and the others
all_cons : (P : List ℕ → Type 0) (x : List ℕ) (sets : List (List ℕ)) → P x → All P sets → All P (x ∷ sets)
all_cons P x sets here rest zero d lt = here
all_cons P x sets here rest (suc k) d lt = rest k d (omega arith)

-- the sets that lines stand for
record SetsRead (n r k : ℕ) (sets : List (List ℕ)) (last : Option (List ℕ)) (number : ℕ) (bytes : List ℕ) (m : Presentation) (rest : List ℕ) (next : ℕ) : Type 0 where
  more : List (List ℕ)
  whole : m ≡ record { elements = n; rank = r; nonbases = sets ++ more }
  count : length more ≡ k
  each : All (IsSetOf n r) more
  sorted : SortedAfter last more
  text : bytes ≡ text_of_lines (map set_text more ++ codes "end" ∷ []) ++ rest
  numbers : next ≡ number + k + 1

-- a line, the rest and what follows
line_text : (line rest tail : List ℕ) → line ++ 10 ∷ (rest ++ tail) ≡ ((line ++ 10 ∷ []) ++ rest) ++ tail
line_text line rest tail = sym (append_assoc (line ++ 10 ∷ []) rest tail ∙ append_assoc line (10 ∷ []) (rest ++ tail))

-- the lines of sets and the last line were those of a file
sets_read : (n r k : ℕ) (sets : List (List ℕ)) (last : Option (List ℕ)) (number : ℕ) (bytes : List ℕ) (m : Presentation) (rest : List ℕ) (next : ℕ) → StandsFor (from_sets n r k sets last) number bytes m rest next → SetsRead n r k sets last number bytes m rest next
unfolding set_lines
sets_read n r zero sets last number bytes m rest next (u, after, line, (is, same, at)) = record {
  more = [];
  whole = is ∙ ap (λ s. record { elements = n; rank = r; nonbases = s }) (sym (append-nil sets));
  count = refl;
  each = all_none (IsSetOf n r);
  sorted = after_none last;
  text = line.begins.text ∙ ap (λ w. w ++ 10 ∷ after) line.spelled ∙ ap (λ w. codes "end" ++ 10 ∷ w) (sym same);
  numbers = at ∙ (let e : number + 1 ≡ number + 0 + 1 = omega arith in e);
}
sets_read n r (suc k) sets last number bytes m rest next (x, after, line, more) =
    let tail = sets_read n r k (sets ++ x ∷ []) (Some x) (number + 1) after m rest next more in
    record {
      more = x ∷ tail.more;
      whole = tail.whole ∙ ap (λ s. record { elements = n; rank = r; nonbases = s }) (append_assoc sets (x ∷ []) tail.more);
      count = ap suc tail.count;
      each = all_cons (IsSetOf n r) x tail.more line.spelled.set tail.each;
      sorted = after_cons last x tail.more line.spelled.after tail.sorted;
      text = line.begins.text ∙ ap (λ w. w ++ 10 ∷ after) line.spelled.text ∙ ap (λ w. set_text x ++ 10 ∷ w) tail.text ∙ line_text (set_text x) (text_of_lines (map set_text tail.more ++ codes "end" ∷ [])) rest;
      numbers = (let h = tail.numbers in omega arith);
    }

-- what a file stands for, and its text
pub record FileRead (number : ℕ) (bytes : List ℕ) (m : Presentation) (rest : List ℕ) (next : ℕ) : Type 0 where
  pub text : bytes ≡ file_text m ++ rest
  pub presentation : IsPresentation m
  pub limits : IsWithinLimits m
  pub numbers : next ≡ number + 5 + length m.nonbases

-- the four lines of the head, the rest and what follows
head_text : (a b c d rest tail : List ℕ) → a ++ 10 ∷ (b ++ 10 ∷ (c ++ 10 ∷ (d ++ 10 ∷ (rest ++ tail)))) ≡ ((a ++ 10 ∷ []) ++ ((b ++ 10 ∷ []) ++ ((c ++ 10 ∷ []) ++ ((d ++ 10 ∷ []) ++ rest)))) ++ tail
head_text a b c d rest tail =
    ap (λ w. a ++ 10 ∷ (b ++ 10 ∷ (c ++ 10 ∷ w))) (line_text d rest tail)
    ∙ ap (λ w. a ++ 10 ∷ (b ++ 10 ∷ w)) (line_text c ((d ++ 10 ∷ []) ++ rest) tail)
    ∙ ap (λ w. a ++ 10 ∷ w) (line_text b ((c ++ 10 ∷ []) ++ ((d ++ 10 ∷ []) ++ rest)) tail)
    ∙ line_text a ((b ++ 10 ∷ []) ++ ((c ++ 10 ∷ []) ++ ((d ++ 10 ∷ []) ++ rest))) tail

-- what isn't greater is at most as great
pub at_most : (a b : ℕ) → (a < b → ⊥) → b ≤ a
at_most a b no_less = elim (cases_lt a b) [ inl lt ↦ absurd (no_less lt) | inr le ↦ le ]

-- the lines of a file were its text
pub file_read : (number : ℕ) (bytes : List ℕ) (m : Presentation) (rest : List ℕ) (next : ℕ) → StandsFor whole_file number bytes m rest next → FileRead number bytes m rest next
file_read number bytes m rest next (u, r1, l1, (n, r2, l2, (r, r3, l3, (k, r4, l4, lines)))) =
    let s = sets_read n r k [] None (number + 1 + 1 + 1 + 1) r4 m rest next lines in
    let le : r ≤ n = at_most n r (l3.fits Rank) in
    subst (λ (p : Presentation). FileRead number bytes p rest next) (sym s.whole) (record {
      text = l1.begins.text ∙ ap (λ w. w ++ 10 ∷ r1) l1.spelled
          ∙ ap (λ w. codes "matroid 1" ++ 10 ∷ w) (l2.begins.text ∙ ap (λ w. w ++ 10 ∷ r2) l2.spelled.1
          ∙ ap (λ w. (codes "elements " ++ decimal n) ++ 10 ∷ w) (l3.begins.text ∙ ap (λ w. w ++ 10 ∷ r3) l3.spelled.1
          ∙ ap (λ w. (codes "rank " ++ decimal r) ++ 10 ∷ w) (l4.begins.text ∙ ap (λ w. w ++ 10 ∷ r4) (l4.spelled.1 ∙ ap (λ c. codes "nonbases " ++ decimal c) (sym s.count))
          ∙ ap (λ w. (codes "nonbases " ++ decimal (length s.more)) ++ 10 ∷ w) s.text)))
          ∙ head_text (codes "matroid 1") (codes "elements " ++ decimal n) (codes "rank " ++ decimal r) (codes "nonbases " ++ decimal (length s.more)) (text_of_lines (map set_text s.more ++ codes "end" ∷ [])) rest;
      presentation = record { rank = le; sets = s.each; increasing = after_sorted s.more s.sorted };
      limits = record { elements = at_most ELEMENTS n (l2.fits Elements); sets = at_most SETS (choose n r) (λ lt. l3.fits Sets (le, lt)) };
      numbers = (let h = s.numbers in let g = s.count in omega arith);
    })

-- and back: the text of a file stands for it
keyed_line : (key : List ℕ) (v : ℕ) (exceeds : ℕ → Measure → Type 0) (tail : List ℕ) → Lacks 10 key → v < NUMBERS → ((m : Measure) → ¬ (exceeds v m)) → IsLineOf (keyed key exceeds) ((key ++ decimal v) ++ 10 ∷ tail) v tail
keyed_line key v exceeds tail whole small fits = record {
  line = key ++ decimal v;
  begins = record { text = refl; whole = lacks-append 10 key (decimal v) whole (decimal_without 10 v (omega arith) small) };
  spelled = (small, refl);
  fits = fits;
}

-- a line of a fixed text
fixed_line : (text tail : List ℕ) → Lacks 10 text → IsLineOf (fixed {M = Measure} text) (text ++ 10 ∷ tail) tt tail
fixed_line text tail whole = record { line = text; begins = record { text = refl; whole = whole }; spelled = refl; fits = λ m h. h }

-- numbers hold no newline
numbers_lack : (x : List ℕ) → All (λ e. e < ELEMENTS) x → Lacks 10 (numbers_text x)
numbers_lack [] small = refl
numbers_lack (e ∷ []) small = decimal_without 10 e (omega arith) (let h = small 0 e (omega arith) in omega arith)
numbers_lack (e ∷ f ∷ es) small = lacks-append 10 (decimal e) (32 ∷ numbers_text (f ∷ es)) (decimal_without 10 e (omega arith) (let h = small 0 e (omega arith) in omega arith)) (numbers_lack (f ∷ es) (λ k d lt. small (suc k) d (omega arith)))

-- nor does a set
set_lacks : (n r : ℕ) (x : List ℕ) → n ≤ ELEMENTS → IsSetOf n r x → Lacks 10 (set_text x)
set_lacks n r [] limit is = refl
set_lacks n r (e ∷ es) limit is = numbers_lack (e ∷ es) (λ k d lt. let h = is.set.elements k d lt in omega arith)

-- the first of sets in order stands after the last one
first_after : (last : Option (List ℕ)) (x : List ℕ) (sets : List (List ℕ)) → SortedAfter last (x ∷ sets) → IfSome last (λ y. IsBefore y x) × SortedAfter (Some x) sets
unfolding SortedAfter IsStrictlySortedBy
first_after None x sets sorted = (tt, sorted)
first_after (Some y) x sets sorted = (sorted.0.0, sorted.1)

-- the lines of sets stand for them
sets_stand : (n r : ℕ) (done_sets more : List (List ℕ)) (last : Option (List ℕ)) (number : ℕ) (rest : List ℕ) → n ≤ ELEMENTS → All (IsSetOf n r) more → SortedAfter last more
    → StandsFor (from_sets n r (length more) done_sets last) number (text_of_lines (map set_text more ++ codes "end" ∷ []) ++ rest) (record { elements = n; rank = r; nonbases = done_sets ++ more }) rest (number + length more + 1)
unfolding set_lines
sets_stand n r done_sets [] last number rest limit all sorted =
    (tt, rest, fixed_line (codes "end") rest refl, (ap (λ s. record { elements = n; rank = r; nonbases = s }) (append-nil done_sets), refl, (let e : number + 0 + 1 ≡ number + 1 = omega arith in e)))
sets_stand n r done_sets (x ∷ more) last number rest limit all sorted =
    let p = first_after last x more sorted in
    let here : IsSetOf n r x = all 0 x (omega arith) in
    let tail = sets_stand n r (done_sets ++ x ∷ []) more (Some x) (number + 1) rest limit (λ k d lt. all (suc k) d (omega arith)) p.1 in (
      x,
      text_of_lines (map set_text more ++ codes "end" ∷ []) ++ rest,
      record {
        line = set_text x;
        begins = record { text = sym (line_text (set_text x) (text_of_lines (map set_text more ++ codes "end" ∷ [])) rest); whole = set_lacks n r x limit here };
        spelled = record { set = here; after = p.0; text = refl };
        fits = λ m h. h;
      },
      subst (λ k. StandsFor (from_sets n r (length more) (done_sets ++ x ∷ []) (Some x)) (number + 1) (text_of_lines (map set_text more ++ codes "end" ∷ []) ++ rest) (record { elements = n; rank = r; nonbases = done_sets ++ x ∷ more }) rest k)
          (let e : number + 1 + length more + 1 ≡ number + suc (length more) + 1 = omega arith in e)
          (subst (λ s. StandsFor (from_sets n r (length more) (done_sets ++ x ∷ []) (Some x)) (number + 1) (text_of_lines (map set_text more ++ codes "end" ∷ []) ++ rest) (record { elements = n; rank = r; nonbases = s }) rest (number + 1 + length more + 1))
          (append_assoc done_sets (x ∷ []) more) tail),
    )

-- sets in order after none
sorted_after : (sets : List (List ℕ)) → Sorted sets → SortedAfter None sets
unfolding SortedAfter
sorted_after sets sorted = sorted

-- the text of a file stands for its numbers and sets
pub file_stands : (number : ℕ) (m : Presentation) (rest : List ℕ) → IsPresentation m → IsWithinLimits m → StandsFor whole_file number (file_text m ++ rest) m rest (number + 1 + 1 + 1 + 1 + length m.nonbases + 1)
file_stands number m rest is limits =
    let count = no_more_sets m.elements m.rank m.nonbases is.sets is.increasing in
    let low = is.rank in
    let few = limits.elements in
    let sized = limits.sets in
    subst (λ w. StandsFor whole_file number w m rest (number + 1 + 1 + 1 + 1 + length m.nonbases + 1))
    (head_text (codes "matroid 1") (codes "elements " ++ decimal m.elements) (codes "rank " ++ decimal m.rank) (codes "nonbases " ++ decimal (length m.nonbases)) (text_of_lines (map set_text m.nonbases ++ codes "end" ∷ [])) rest) (
      tt,
      _,
      fixed_line (codes "matroid 1") _ refl,
      (
        m.elements,
        _,
        keyed_line (codes "elements ") m.elements ElementsExceed _ refl (omega arith) (elements_fit m.elements limits.elements),
        (
          m.rank,
          _,
          keyed_line (codes "rank ") m.rank (RankExceeds m.elements) _ refl (omega arith) (rank_fits m.elements m.rank is.rank limits.sets),
          (
            length m.nonbases,
            _,
            keyed_line (codes "nonbases ") (length m.nonbases) (CountExceeds m.elements m.rank) _ refl (omega arith) (count_fits m.elements m.rank (length m.nonbases) count),
            sets_stand m.elements m.rank [] m.nonbases None (number + 1 + 1 + 1 + 1) rest limits.elements is.sets (sorted_after m.nonbases is.increasing),
          ),
        ),
      ),
    )
