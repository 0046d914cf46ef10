-- A matroid has an answer: of each of the finitely many matrices it is told whether it represents the matroid.
use Rattle.std.proofs.Common.{ℕ, ◌<◌, ◌≤◌, ◌≡◌, ◌⊎◌, ◌↔◌, List, [], ◌∷◌, length, get_or, refl, sym, ap, subst, ◌∙◌, inl, inr, ⊎_elim, arith}
use Rattle.std.specs.Prelude.{Contains, flat_map}
use Rattle.std.specs.List.Sorted.{IsStrictlySortedBy}
use Rattle.std.specs.Cmp.{IsTotalOrder, on_total}
use Rattle.std.proofs.lemmas.Cmp.{nat_list_cmp_total}
use Rattle.std.proofs.lemmas.List.Elements.{Contains-get_or}
use Rattle.mr_field.specs.Gf.{Gf, order}
use Rattle.mr_set.specs.Elements.{is_element, numbers_below}
use Rattle.mr_set.specs.Subsets.{IsSetOf}
use Rattle.mr_set.specs.Places.{IsAllSets}
use Rattle.mr_set.specs.Matroid.{Presentation, IsMatroid, IsIndependent}
use Rattle.mr_set.proofs.Ordered.{member_first, member_later, member_cases, member_none}
use Rattle.mr_set.proofs.Uniqueness.{sets-listed}
use Rattle.mr_set.proofs.Tests.{count}
use Rattle.mr_linear.specs.Columns.{every}
use Rattle.mr_linear.specs.Matrix.{Grid, IsGrid, IsMatrixRow, height, entry, grid_cmp, AreDependent, AreIndependent}
use Rattle.mr_linear.specs.Operations.{AreEquivalent}
use Rattle.mr_linear.specs.Representation.{FitsMatroid, Represents, IsMember}
use Rattle.mr_linear.proofs.Dependence.{OnlyZero, OnlyZero-independent}
use Rattle.mr_linear.proofs.Augment.{decide}
use Rattle.mr_linear.proofs.Grids.{Same, SameShape, same_grids}
use Rattle.mr_linear.proofs.LawsOfMatrices.{bases-decide, basis-from_independent, basis-independent}
use Rattle.mr_linear.proofs.Pivots.{below_all}
use Rattle.mr_frame.proofs.Filled.{listed_or_not}
use Rattle.mr_class.specs.Laws.{HasOneChosen, MatroidsHaveAnswers}
use Rattle.mr_class.proofs.Compare.{IsSmaller, compare, smaller-less}
use Rattle.mr_class.proofs.FirstBasis.{each_has_one_chosen}
use Rattle.mr_class.proofs.InsertedMember.{IsCompared, with_member}
use Rattle.mr_class.proofs.OneOfEach.{leads-field}
use Rattle.mr_class.proofs.Words.{words, words_have, words_are}

-- the columns of a set are independent or not
independent_or_not : (a : Grid) (x : List ℕ) → AreIndependent a x ⊎ (AreIndependent a x → ⊥)
independent_or_not a x = ⊎_elim
    (λ (dependent : AreDependent a x). inr (λ independent. independent dependent))
    (λ (only : OnlyZero a.field (height a) every a.cols (entry a) (is_element x) × (count a.cols (is_element x) ≤ height a)). inl (OnlyZero-independent a.field (height a) every a.cols (entry a) (is_element x) only.0))
    (decide a.field (height a) a.cols (entry a) (is_element x))

-- two facts that are each told are told to agree or not
agree_or_not : (P Q : Type 0) → P ⊎ (P → ⊥) → Q ⊎ (Q → ⊥) → (P ↔ Q) ⊎ ((P ↔ Q) → ⊥)
agree_or_not P Q (inl p) (inl q) = inl ((λ _. q), (λ _. p))
agree_or_not P Q (inl p) (inr no_q) = inr (λ same. no_q (same.0 p))
agree_or_not P Q (inr no_p) (inl q) = inr (λ same. no_p (same.1 q))
agree_or_not P Q (inr no_p) (inr no_q) = inl ((λ p. absurd (no_p p)), (λ q. absurd (no_q q)))

-- what is told of each member of a list is told of all
all_or_not : {X : Type 0} (P : X → Type 0) (xs : List X) → ((x : X) → Contains xs x → P x ⊎ (P x → ⊥)) → ((x : X) → Contains xs x → P x) ⊎ (((x : X) → Contains xs x → P x) → ⊥)
all_or_not P [] each = inl (λ x inside. absurd (member_none x inside))
all_or_not {X} P (y ∷ ys) each = ⊎_elim
    (λ (first : P y). ⊎_elim
    (λ (rest : (x : X) → Contains ys x → P x). inl (λ x inside. ⊎_elim (λ (is : y ≡ x). subst P is first) (λ (later : Contains ys x). rest x later) (member_cases y ys x inside)))
    (λ (none : ((x : X) → Contains ys x → P x) → ⊥). inr (λ all. none (λ x later. all x (member_later y ys x later))))
    (all_or_not P ys (λ x later. each x (member_later y ys x later))))
    (λ (none : P y → ⊥). inr (λ all. none (all y (member_first y ys))))
    (each y (member_first y ys))

-- matrices by their order are totally ordered
grids_total : IsTotalOrder grid_cmp
grids_total = on_total (λ (a : Grid). flat_map (λ row. row) a.rows) nat_list_cmp_total

module _ (m : Presentation) (field : Gf) (matroid : IsMatroid m) where
  -- a set of the rank's size is independent or not
  told : (x : List ℕ) → IsSetOf m.elements m.rank x → IsIndependent m x ⊎ (IsIndependent m x → ⊥)
  told x set = ⊎_elim
      (λ (listed : Contains m.nonbases x). inr (λ independent. (basis-from_independent m x set independent).1 listed))
      (λ (free : Contains m.nonbases x → ⊥). inl (basis-independent m x (set, free)))
      (listed_or_not m.nonbases x)

  -- a matrix of the matroid's size represents it or not
  represents_or_not : (a : Grid) → FitsMatroid m a → Represents a m ⊎ (Represents a m → ⊥)
  represents_or_not a fits =
      let all = sets-listed m.elements m.rank in
      let sets : IsAllSets m.elements m.rank all.0 = all.1 in
      ⊎_elim
      (λ (yes_all : (x : List ℕ) → Contains all.0 x → AreIndependent a x ↔ IsIndependent m x). inl (bases-decide m a matroid (record { fits = fits; agrees = λ x set. yes_all x ((sets.exactly x).1 set) })))
      (λ (none : ((x : List ℕ) → Contains all.0 x → AreIndependent a x ↔ IsIndependent m x) → ⊥). inr (λ represents. none (λ x inside. represents.agrees x ((sets.exactly x).0 inside).set)))
      (all_or_not (λ x. AreIndependent a x ↔ IsIndependent m x) all.0 (λ x inside. agree_or_not (AreIndependent a x) (IsIndependent m x) (independent_or_not a x) (told x ((sets.exactly x).0 inside))))

  -- members are compared
  compared : (a b : Grid) → IsMember m field a → IsMember m field b → IsCompared grid_cmp a b
  compared a b ha hb = ⊎_elim
      (λ (same : Same (height a) a.cols (entry a) (entry b)). inl (same_grids a b ga gb there same))
      (λ (other : IsSmaller (height a) a.cols (entry a) (entry b) ⊎ IsSmaller (height a) a.cols (entry b) (entry a)). inr (⊎_elim
      (λ (less : IsSmaller (height a) a.cols (entry a) (entry b)). inl (smaller-less a b ga gb there less))
      (λ (more : IsSmaller (height a) a.cols (entry b) (entry a)). inr (smaller-less b a gb ga back (subst (λ r. IsSmaller r b.cols (entry b) (entry a)) there.rows (subst (λ n. IsSmaller (height a) n (entry b) (entry a)) there.cols more))))
      other))
      (compare (height a) a.cols (entry a) (entry b))
    where
      ga : IsGrid a
      ga = ha.represents.fits.grid

      gb : IsGrid b
      gb = hb.represents.fits.grid

      there : SameShape a b
      there = record { field = ha.field ∙ sym hb.field; rows = ha.represents.fits.rows ∙ sym hb.represents.fits.rows; cols = ha.represents.fits.cols ∙ sym hb.represents.fits.cols }

      back : SameShape b a
      back = record { field = sym there.field; rows = sym there.rows; cols = sym there.cols }

  -- members in order, among them each that is one of the matrices
  record AreMembers (grids answer : List Grid) : Type 0 where
    increasing : IsStrictlySortedBy grid_cmp answer
    members : (a : Grid) → Contains answer a → IsMember m field a
    all : (a : Grid) → Contains grids a → IsMember m field a → Contains answer a

  -- no matrix
  no_members : AreMembers [] []
  unfolding IsStrictlySortedBy
  no_members = record { increasing = tt; members = λ a inside. absurd (member_none a inside); all = λ a inside member. absurd (member_none a inside) }

  -- the chosen matrix of a representation's class is a member
  chosen_member : (a : Grid) → a.field ≡ field → (one : HasOneChosen m a) → IsMember m field one.chosen
  chosen_member a over one = record { field = leads-field one.equivalent.0 a one.chosen one.equivalent.1 ∙ over; chosen = one.is; represents = one.represents }

  -- the members among matrices with one more
  next_members : (a : Grid) (rest : List Grid) → a.field ≡ field → FitsMatroid m a → (later : (answer : List Grid) × AreMembers rest answer) → (answer : List Grid) × AreMembers (a ∷ rest) answer
  next_members a rest over fits later = ⊎_elim
      (λ (represents : Represents a m).
      let one = each_has_one_chosen m a matroid represents in
      let more = with_member grids_total one.chosen later.0 later.1.increasing (λ b inside. compared one.chosen b (chosen_member a over one) (later.1.members b inside)) in (
        more.0,
        record {
          increasing = more.1.increasing;
          members = λ b inside. ⊎_elim
              (λ (is : one.chosen ≡ b). subst (IsMember m field) is (chosen_member a over one))
              (λ (old : Contains later.0 b). later.1.members b old)
              (more.1.only b inside);
          all = λ b inside member. ⊎_elim
              (λ (is : a ≡ b). subst (Contains more.0) (sym (one.only b (subst (λ (g : Grid). AreEquivalent a g) is ([], refl)) member.chosen)) more.1.new)
              (λ (among : Contains rest b). more.1.old b (later.1.all b among member))
              (member_cases a rest b inside);
        },
      ))
      (λ (none : Represents a m → ⊥). (
        later.0,
        record {
          increasing = later.1.increasing;
          members = later.1.members;
          all = λ b inside member. ⊎_elim
              (λ (is : a ≡ b). absurd (none (subst (λ (g : Grid). Represents g m) (sym is) member.represents)))
              (λ (among : Contains rest b). later.1.all b among member)
              (member_cases a rest b inside);
        },
      ))
      (represents_or_not a fits)

  -- the members among matrices of the matroid's size
  members_of : (grids : List Grid) → ((a : Grid) → Contains grids a → (a.field ≡ field) × FitsMatroid m a) → (answer : List Grid) × AreMembers grids answer
  members_of [] fit = ([], no_members)
  members_of (a ∷ rest) fit = next_members a rest (fit a (member_first a rest)).0 (fit a (member_first a rest)).1 (members_of rest (λ b inside. fit b (member_later a rest b inside)))

  -- the matrix of these rows
  grid_with : List (List ℕ) → Grid
  grid_with rows = record { field = field; cols = m.elements; rows = rows }

  -- the rows of the matroid's length
  row_words : List (List ℕ)
  row_words = words (numbers_below (order field)) m.elements

  -- matrices of these rows
  grids_with : List (List (List ℕ)) → List Grid
  grids_with [] = []
  grids_with (rows ∷ more) = grid_with rows ∷ grids_with more

  -- a matrix of rows of the list is among them
  grids_have : (all : List (List (List ℕ))) (rows : List (List ℕ)) → Contains all rows → Contains (grids_with all) (grid_with rows)
  unfolding grids_with
  grids_have [] rows inside = absurd (member_none rows inside)
  grids_have (first ∷ more) rows inside = ⊎_elim
      (λ (is : first ≡ rows). subst (λ r. Contains (grids_with (first ∷ more)) (grid_with r)) is (member_first (grid_with first) (grids_with more)))
      (λ (later : Contains more rows). member_later (grid_with first) (grids_with more) (grid_with rows) (grids_have more rows later))
      (member_cases first more rows inside)

  -- and each of them is one
  grids_are : (all : List (List (List ℕ))) (a : Grid) → Contains (grids_with all) a → (rows : List (List ℕ)) × (a ≡ grid_with rows) × Contains all rows
  unfolding grids_with
  grids_are [] a inside = absurd (member_none a inside)
  grids_are (first ∷ more) a inside = ⊎_elim
      (λ (is : grid_with first ≡ a). (first, sym is, member_first first more))
      (λ (later : Contains (grids_with more) a). (let found = grids_are more a later in (found.0, found.1, member_later first more found.0 found.2)))
      (member_cases (grid_with first) (grids_with more) a inside)

  -- all matrices of the matroid's size
  all_grids : List Grid
  all_grids = grids_with (words row_words m.rank)

  -- each of them has that size
  all_fit : (a : Grid) → Contains all_grids a → (a.field ≡ field) × FitsMatroid m a
  unfolding all_grids grid_with row_words
  all_fit a inside =
      let found = grids_are (words row_words m.rank) a inside in
      let rows = words_are row_words m.rank found.0 found.2 in
      subst (λ (g : Grid). (g.field ≡ field) × FitsMatroid m g) (sym found.1) (
        refl,
        record {
          grid = record {
            each = λ k d lt. (let row = words_are (numbers_below (order field)) m.elements (get_or found.0 k d) (rows.1 (get_or found.0 k d) (Contains-get_or found.0 k d lt)) in
                record { size = row.0; elements = λ j e l. (below_all (order field) (get_or (get_or found.0 k d) j e)).0 (row.1 (get_or (get_or found.0 k d) j e) (Contains-get_or (get_or found.0 k d) j e l)) });
            rows = (let size = rows.0 in let low = matroid.presentation.rank in omega (arith, size, low));
          };
          rows = rows.0;
          cols = refl;
        },
      )

  -- and each of that size is one of them
  all_have : (a : Grid) → a.field ≡ field → FitsMatroid m a → Contains all_grids a
  unfolding all_grids grid_with row_words
  all_have a over fits =
      subst (Contains all_grids) same (grids_have (words row_words m.rank) a.rows
      (subst (λ r. Contains (words row_words r) a.rows) fits.rows (words_have row_words a.rows (λ row inside. row_word row (row_is row inside)))))
    where
      same : grid_with a.rows ≡ a
      same =
          ap (λ (f : Gf). let g : Grid = record { field = f; cols = m.elements; rows = a.rows } in g) (sym over) ∙
          ap (λ (n : ℕ). let g : Grid = record { field = a.field; cols = n; rows = a.rows } in g) (sym fits.cols)

      row_is : (row : List ℕ) → Contains a.rows row → IsMatrixRow a.field a.cols row
      row_is row inside = subst (IsMatrixRow a.field a.cols) inside.2 (fits.grid.each inside.0 row inside.1)

      row_word : (row : List ℕ) → IsMatrixRow a.field a.cols row → Contains row_words row
      row_word row is =
          subst (λ n. Contains (words (numbers_below (order field)) n) row) (is.size ∙ fits.cols)
          (words_have (numbers_below (order field)) row (λ v here. (below_all (order field) v).1 (subst (λ (f : Gf). v < order f) over (subst (λ w. w < order a.field) here.2 (is.elements here.0 v here.1)))))

-- so a matroid has an answer
pub matroids_have_answers : MatroidsHaveAnswers
matroids_have_answers m field matroid =
    let found = members_of m field matroid (all_grids m field matroid) (all_fit m field matroid) in (
      found.0,
      record {
        increasing = found.1.increasing;
        exactly = λ a. (
          (λ inside. found.1.members a inside),
          (λ member. found.1.all a (all_have m field matroid a member.field member.represents.fits) member),
        );
      },
    )
