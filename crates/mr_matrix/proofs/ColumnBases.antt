-- The sets of as many independent columns as there are rows are the bases of a matroid.
use Rattle.std.proofs.Common.{◌≡◌, ◌≢◌, ◌↔◌, ℕ, ◌<◌, ◌≤◌, Bool, true, false, List, Result, Ok, Err, refl, sym, ap, subst, ◌∙◌, ⊎_elim, arith}
use Rattle.std.specs.Prelude.{IfOk, IsErrOf, IsTrue, MatchBool}
use Rattle.std.proofs.lemmas.Bool.{cases_eq, both_ways}
use Rattle.mr_set.specs.Elements.{is_element}
use Rattle.mr_set.specs.Subsets.{IsSetOf, choose}
use Rattle.mr_set.specs.Matroid.{Presentation, IsBasis}
use Rattle.mr_set.specs.declared.TheConstants.{ELEMENTS, SETS}
use Rattle.mr_set.proofs.Tests.{count, without, without-other, without-same, count-without, count-is_element}
use Rattle.mr_matroid.specs.Exchange.{IsWithinLimits}
use Rattle.mr_linear.specs.Columns.{every}
use Rattle.mr_linear.specs.Matrix.{Grid, IsGrid, height, entry, AreDependent, AreIndependent, IsColumnRank}
use Rattle.mr_linear.specs.Representation.{Represents}
use Rattle.mr_linear.proofs.Dependence.{OnlyZero, OnlyZero-independent, independent-OnlyZero}
use Rattle.mr_linear.proofs.Augment.{augment, independent-count, dependent-same}
use Rattle.mr_linear.proofs.Agreement.{OnlyZero-within}
use Rattle.mr_linear.proofs.Leads.{only_zero-grid}
use Rattle.mr_minor.specs.Private.Collected.{AreNonbases}
use Rattle.mr_minor.proofs.Counting.{Agree, count-agree}
use Rattle.mr_minor.proofs.Exchanging.{Exchanging, count-swapped}
use Rattle.mr_minor.proofs.Bases.{has-bases, basis-from_nonbases, matroid-from_family}
use Rattle.mr_matrix.specs.Represented.{IsMatroidOf, IsRankShort}
use Rattle.mr_matrix.specs.declared.fault.OfFault.{OfFault}
use Rattle.mr_matrix.specs.declared.fault.OfFault.TheVariants.{RankShort}
use Rattle.mr_matrix.proofs.Differences.{no_difference}

-- the columns of the test are independent, and as many as there are rows
abbrev pub IsColumnBasis : Grid → (ℕ → Bool) → Type 0
IsColumnBasis a t = OnlyZero a.field (height a) every a.cols (entry a) t × (count a.cols t ≡ height a)

-- only the columns that there are count
pub only_zero-agree : (a : Grid) (x y : ℕ → Bool) → Agree a.cols x y → OnlyZero a.field (height a) every a.cols (entry a) x → OnlyZero a.field (height a) every a.cols (entry a) y
only_zero-agree a x y agree h = independent-OnlyZero a.field (height a) every a.cols (entry a) y (λ d.
    OnlyZero-independent a.field (height a) every a.cols (entry a) x h
    (dependent-same a.field (height a) a.cols every every (entry a) (entry a) y x (λ i l. refl) (λ i j l m. refl) (λ j l. sym (agree j l)) d))

-- they obey the law of exchange
exchanging-columns : (a : Grid) → Exchanging a.cols (height a) (IsColumnBasis a)
exchanging-columns a = record {
  same = λ x y agree basis. (only_zero-agree a x y agree basis.0, sym (count-agree a.cols x y agree) ∙ basis.1);
  size = λ x basis. basis.1;
  exchange = λ x y d bx by_ l in_x not_y.
      let less = count-without a.cols x d l in_x in
      let size_x = bx.1 in
      let size_y = by_.1 in
      let p = augment a.field (height a) a.cols (entry a) (without x d) y (OnlyZero-within a.field (height a) a.cols (entry a) (without x d) x (within x d) bx.0) by_.0 (omega arith) in
      let e : ℕ = p.0 in
      let other : e ≢ d = λ same. both_ways (y d) not_y (rw same at p.2) in
      let out : x e ≡ false = sym (without-other x d e other) ∙ p.3 in
      (e, p.1, p.2, out, (p.4, count-swapped a.cols x d e l p.1 in_x out ∙ bx.1));
}
  where
    within : (x : ℕ → Bool) (d j : ℕ) → without x d j ≡ true → x j ≡ true
    within x d j h = ⊎_elim (λ (same : j ≡ d). absurd (both_ways (without x d d) (without-same x d) (rw same at h))) (λ (other : j ≢ d). sym (without-other x d j other) ∙ h) (cases_eq j d)

-- the numbers and nonbases of the matrix's matroid
abbrev pub matroid_with : Grid → List (List ℕ) → Presentation
matroid_with a sets = record { elements = a.cols; rank = height a; nonbases = sets }

-- columns of a set are independent where those of its test are
independent-test : (a : Grid) (x : List ℕ) → IsSetOf a.cols (height a) x → AreIndependent a x ↔ IsColumnBasis a (is_element x)
independent-test a x set = (
  (λ h. (only_zero-grid a x h, count-is_element a.cols x set.set ∙ set.size)),
  (λ h. OnlyZero-independent a.field (height a) every a.cols (entry a) (is_element x) h.0),
)

-- where the rank is the number of rows they are a matroid
pub columns_make : (a : Grid) (sets : List (List ℕ)) → IsGrid a → IsColumnRank a (height a) → AreNonbases a.cols (height a) (AreIndependent a) sets → IsMatroidOf a (matroid_with a sets)
columns_make a sets grid full are = record {
  matroid = matroid-from_family (matroid_with a sets) (IsColumnBasis a) (exchanging-columns a)
      (has-bases a.cols (height a) sets (AreIndependent a) (IsColumnBasis a) grid.rows are (independent-test a)) (is_element full.reached.0) ((independent-test a full.reached.0 full.reached.1).0 full.reached.2);
  elements = refl;
  rank = refl;
  bases = λ x set. (
    (λ basis. ((basis-from_nonbases a.cols (height a) sets (AreIndependent a) are x).0 basis).1),
    (λ independent. (basis-from_nonbases a.cols (height a) sets (AreIndependent a) are x).1 (set, independent)),
  );
}

-- the rank of a matrix is at most its number of rows
pub rank_le : (a : Grid) (k : ℕ) → IsColumnRank a k → k ≤ height a
rank_le a k rank =
    let x = rank.reached in
    let le = independent-count a.field (height a) a.cols (entry a) (is_element x.0) (only_zero-grid a x.0 x.2) in
    let size = count-is_element a.cols x.0 x.1.set in
    let is = x.1.size in
    omega arith

-- so where it isn't below, it is that number
pub rank_full : (a : Grid) (k r : ℕ) → IsColumnRank a k → r ≡ height a → r ≤ k → IsColumnRank a (height a)
rank_full a k r rank is more = subst (IsColumnRank a) (let le = rank_le a k rank in let e : k ≡ height a = omega arith in e) rank

-- a matrix has one rank
pub rank_one : (a : Grid) (j k : ℕ) → IsColumnRank a j → IsColumnRank a k → j ≡ k
rank_one a j k one two =
    let x = one.reached in
    let y = two.reached in
    let le = two.greatest x.0 x.1.set x.2 in
    let ge = one.greatest y.0 y.1.set y.2 in
    let size_x = x.1.size in
    let size_y = y.1.size in
    omega arith

-- a rank that is too short is named
pub short_named : (a : Grid) (rank r k : ℕ) → IsColumnRank a rank → r ≡ height a → rank < r → IsErrOf {T = Presentation} (Err (RankShort rank)) (RankShort k) ↔ IsRankShort a k
short_named a rank r k is rows less = (
  (λ h. let same : rank ≡ k = cc in subst (IsRankShort a) same (record { rank = is; short = omega arith })),
  (λ short. ap (λ j. Err (RankShort j)) (rank_one a rank k is short.rank)),
)

-- and no other
pub full_named : (a : Grid) (k : ℕ) (r : Result Presentation OfFault) → IsColumnRank a (height a) → (IsErrOf r (RankShort k) → ⊥) → IsErrOf r (RankShort k) ↔ IsRankShort a k
full_named a k r full never = ((λ h. absurd (never h)), (λ short. absurd (let same = rank_one a k (height a) short.rank full in let less = short.short in omega arith)))

-- the answer whether columns are independent
pub independent_answer : (a : Grid) (x : List ℕ) (b : Bool) → MatchBool b (AreIndependent a x) (AreDependent a x) → IsTrue b ↔ AreIndependent a x
independent_answer a x true answer = ((λ h. answer), (λ h. refl))
independent_answer a x false answer = ((λ h. cc), (λ h. absurd (h answer)))

-- the limits of the matroid
pub matroid_within : (a : Grid) (sets : List (List ℕ)) → a.cols ≤ ELEMENTS → choose a.cols (height a) ≤ SETS → IsWithinLimits (matroid_with a sets)
matroid_within a sets wide few = record { elements = wide; sets = few }

-- the numbers and nonbases, by equal ones
pub as_matroid : (a : Grid) (n r : ℕ) (sets : List (List ℕ)) → n ≡ a.cols → r ≡ height a → record { elements = n; rank = r; nonbases = sets } ≡ matroid_with a sets
as_matroid a n r sets same size =
    ap (λ j. let p : Presentation = record { elements = j; rank = r; nonbases = sets } in p) same ∙ ap (λ j. let p : Presentation = record { elements = a.cols; rank = j; nonbases = sets } in p) size

-- what was made of them
pub matroid_made : {E : Type 0} (q : Result Presentation E) (a : Grid) (n r : ℕ) (sets : List (List ℕ)) → n ≡ a.cols → r ≡ height a → IsMatroidOf a (matroid_with a sets)
    → IfOk q (λ m. m ≡ record { elements = n; rank = r; nonbases = sets }) → IfOk q (IsMatroidOf a)
matroid_made (Ok m) a n r sets same size is made = subst (IsMatroidOf a) (sym (made ∙ as_matroid a n r sets same size)) is
matroid_made (Err e) a n r sets same size is made = tt

-- a matrix represents its matroid
pub matrix-represents : (a : Grid) (m : Presentation) → IsGrid a → IsMatroidOf a m → Represents a m
matrix-represents a m grid is = no_difference m a is.matroid (record { grid = grid; rows = sym is.rank; cols = sym is.elements }) (λ x set differs.
    let there : IsSetOf a.cols (height a) x = subst (λ r. IsSetOf a.cols r x) is.rank (subst (λ n. IsSetOf n m.rank x) is.elements set) in
    ⊎_elim
    (λ (h : IsBasis m x × AreDependent a x). (is.bases x there).0 h.0 h.1)
    (λ (h : ¬ (IsBasis m x) × AreIndependent a x). h.0 ((is.bases x there).1 h.1))
    differs)
