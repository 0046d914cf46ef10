-- The row of a prefix follows from what refutes the prefix with each value of the next position.
use Rattle.std.proofs.Common.{◌≡◌, ◌⊎◌, ℕ, zero, suc, ◌+◌, ◌-◌, ◌*◌, ◌/◌, ◌%◌, ◌^◌, ◌<◌, List, [], ◌∷◌, ◌++◌, length, get_or, set, replicate, Option, Some, refl, sym, ap, subst, ◌∙◌, inl, inr, ⊎_elim, arith, append_assoc, pow-suc, div-add-mod'}
use Rattle.std.proofs.Math.Nat.{pow-zero}
use Rattle.std.proofs.lemmas.Nat.{div-mul-add, mod-mul-add, mul-add-lt, mod_below}
use Rattle.std.proofs.lemmas.List.{set_at, get_or_past, length_push}
use Rattle.std.proofs.lemmas.Option.{same_Some}
use Rattle.mr_field.specs.Gf.{order}
use Rattle.mr_assign.specs.Assign.{IsAssign}
use Rattle.mr_assign.specs.declared.TheConstants.{POSITIONS}
use Rattle.mr_frame.specs.Frame.{Framed, IsFrame}
use Rattle.mr_frame.specs.Test.{IsAssignmentOf}
use Rattle.mr_nogood.specs.declared.row.Row.{Row}
use Rattle.mr_nogood.specs.declared.row.Cite.{Cite}
use Rattle.mr_nogood.specs.declared.row.Cite.TheVariants.{Nothing, Test, Slot}
use Rattle.mr_nogood.specs.Row.{cite_for}
use Rattle.mr_nogood.specs.Follows.{Rows, in_slots, CiteHolds, Follows}
use Rattle.mr_nogood.proofs.Excluding.{more_rows_keep_what_follows, cited_rows_have_smaller_ranks}
use Rattle.mr_exchange.specs.declared.answer.CubeAnswer.TheVariants.{Refuted}
use Rattle.mr_exchange.specs.Cubes.{IsCube, values_at, cube_at, cube_count}
use Rattle.mr_exchange.specs.Right.{IsRight}
use Rattle.mr_exchange.proofs.CubesInOrder.{few_elements, few_places, pow_above, length-values_at, cube_else, cubes_are_in_order}
use Rattle.mr_merge.specs.Private.Table.{AreSupported, CiteSmaller}

-- products taken apart
regroup : (a p r k v : ℕ) → (a * p + r) * k + v ≡ a * (p * k) + (r * k + v)
regroup a p r k v = omega arith

-- the digits of a number with one digit more at the end
values_at-last : (k n c v : ℕ) → 0 < k → c < k ^ n → v < k → values_at k (suc n) (c * k + v) ≡ values_at k n c ++ (v + 1) ∷ []
unfolding values_at
values_at-last k zero c v some low small =
    let none : c ≡ 0 = omega (arith, pow-zero k) in
    let is : (c * k + v) / k ^ 0 ≡ v = ap (λ x. (x * k + v) / k ^ 0) none ∙ ap (λ x. (0 * k + v) / x) (pow-zero k) ∙ omega arith in
    ap (λ x. (x + 1) ∷ []) is
values_at-last k (suc n) c v some low small =
    let power : k ^ suc n ≡ k ^ n * k = omega (arith, pow-suc k n) in
    let below : c % k ^ n < k ^ n = mod_below c (k ^ n) (pow_above k n some) in
    let rest : c % k ^ n * k + v < k ^ n * k = omega (arith, mul-add-lt (c % k ^ n) k v (k ^ n) below small) in
    let whole : c * k + v ≡ c / k ^ n * (k ^ n * k) + (c % k ^ n * k + v) = ap (λ x. x * k + v) (sym (div-add-mod' c (k ^ n))) ∙ regroup (c / k ^ n) (k ^ n) (c % k ^ n) k v in
    let head : (c * k + v) / k ^ suc n ≡ c / k ^ n = ap (λ x. (c * k + v) / x) power ∙ ap (λ x. x / (k ^ n * k)) whole ∙ div-mul-add (c / k ^ n) (k ^ n * k) (c % k ^ n * k + v) rest in
    let tail : (c * k + v) % k ^ suc n ≡ c % k ^ n * k + v = ap (λ x. (c * k + v) % x) power ∙ ap (λ x. x % (k ^ n * k)) whole ∙ mod-mul-add (c / k ^ n) (k ^ n * k) (c % k ^ n * k + v) rest in
    ap (λ x. (x + 1) ∷ values_at k (suc n) ((c * k + v) % k ^ suc n)) head ∙ ap (λ x. (c / k ^ n + 1) ∷ values_at k (suc n) x) tail
    ∙ ap (λ xs. (c / k ^ n + 1) ∷ xs) (values_at-last k n (c % k ^ n) v some below small)

-- a prefix with a value of the next position is a longer one
pub cube_at-set : (f : Framed) (level c v : ℕ) → level < POSITIONS → c < cube_count f level → v < order f.field - 1 → set (cube_at f level c) level (v + 1) ≡ cube_at f (suc level) (c * (order f.field - 1) + v)
unfolding cube_at
cube_at-set f level c v fits low small =
    let k = order f.field - 1 in
    let zeros : replicate (POSITIONS - level) 0 ≡ 0 ∷ replicate (POSITIONS - suc level) 0 = ap (λ n. replicate n 0) (let e : POSITIONS - level ≡ suc (POSITIONS - suc level) = omega arith in e) in
    ap (λ (xs : List ℕ). set (values_at (order f.field - 1) level c ++ xs) level (v + 1)) zeros
    ∙ set_at (values_at (order f.field - 1) level c) 0 (replicate (POSITIONS - suc level) 0) (v + 1) level (length-values_at (order f.field - 1) level c)
    ∙ sym (append_assoc (values_at (order f.field - 1) level c) ((v + 1) ∷ []) (replicate (POSITIONS - suc level) 0))
    ∙ ap (λ (xs : List ℕ). xs ++ replicate (POSITIONS - suc level) 0) (sym (values_at-last (order f.field - 1) level c v (few_elements f.field).0 low small))

-- a row stays in its slot where one more comes at the end
pub in_more : (rows : List (Option Row)) (last : Option Row) (s : ℕ) (row : Row) → in_slots rows s ≡ Some row → in_slots (rows ++ last ∷ []) s ≡ Some row
in_more [] last s row is = cc
in_more (r ∷ rs) last zero row is = is
in_more (r ∷ rs) last (suc s) row is = in_more rs last s row is

-- and that one has the slot after the last
pub in_last : (rows : List (Option Row)) (last : Option Row) → in_slots (rows ++ last ∷ []) (length rows) ≡ last
in_last [] last = refl
in_last (r ∷ rs) last = in_last rs last

-- a row was there, or is the last
pub in_cases : (rows : List (Option Row)) (last row : Row) (s : ℕ) → in_slots (rows ++ Some last ∷ []) s ≡ Some row → (in_slots rows s ≡ Some row) ⊎ (last ≡ row)
in_cases [] last row zero is = inr (same_Some last row is)
in_cases [] last row (suc s) is = cc
in_cases (r ∷ rs) last row zero is = inl is
in_cases (r ∷ rs) last row (suc s) is = in_cases rs last row s is

-- a slot that has a row is one of the slots
pub in_range : (rows : List (Option Row)) (s : ℕ) (row : Row) → in_slots rows s ≡ Some row → s < length rows
in_range [] s row is = cc
in_range (r ∷ rs) zero row is = omega arith
in_range (r ∷ rs) (suc s) row is = let lt = in_range rs s row is in omega arith

-- rows that are supported cite rows of smaller rank
pub supported_cite : (f : Framed) (rows : List (Option Row)) → AreSupported f rows → CiteSmaller rows
supported_cite f rows supported s k t row there cites = let found = cited_rows_have_smaller_ranks f (in_slots rows) row k t (supported.follow s row there) cites in (found.0, found.1, found.2)

-- with a row that follows from them, of greater rank, they are as before
pub supported_more : (f : Framed) (rows : List (Option Row)) (row : Row) → AreSupported f rows → Follows f (in_slots rows) row → row.rank ≡ length rows → AreSupported f (rows ++ Some row ∷ [])
supported_more f rows row supported follows rank = record {
  follow = λ s other is. more_rows_keep_what_follows f (in_slots rows) (in_slots (rows ++ Some row ∷ [])) other (in_more rows (Some row)) (⊎_elim
      (λ (old : in_slots rows s ≡ Some other). supported.follow s other old)
      (λ (new : row ≡ other). subst (Follows f (in_slots rows)) new follows)
      (in_cases rows row other s is));
  low = λ s other is. (let long = length_push rows (Some row) in ⊎_elim
      (λ (old : in_slots rows s ≡ Some other). (let low = supported.low s other old in omega arith))
      (λ (new : row ≡ other). (let same = ap (λ (r : Row). r.rank) new in omega arith))
      (in_cases rows row other s is));
}

-- what refutes an assignment still does where there are more rows
pub right_more : (f : Framed) (rows more : Rows) (a : List ℕ) (cite : Cite) → ((s : ℕ) (row : Row) → rows s ≡ Some row → more s ≡ Some row) → IsRight f rows a (Refuted cite) → IsRight f more a (Refuted cite)
right_more f rows more a Nothing kept right = right
right_more f rows more a (Test x) kept right = right
right_more f rows more a (Slot s) kept (row, is, part) = (row, kept s row is, part)

-- a cite that refutes an assignment holds of it at each rank above those of all rows
holds_by_right : (f : Framed) (rows : List (Option Row)) (a : List ℕ) (cite : Cite) → AreSupported f rows → IsRight f (in_slots rows) a (Refuted cite) → CiteHolds f (in_slots rows) (length rows) a cite
holds_by_right f rows a Nothing supported right = right
holds_by_right f rows a (Test x) supported right = right
holds_by_right f rows a (Slot s) supported (row, is, part) = (row, is, supported.low s row is, part)

module _ (f : Framed) (frame : IsFrame f) (level c : ℕ) (free : level < length f.places) (low : c < cube_count f level) where
  -- the prefix is a cube of its level
  pub prefix_is : IsCube f level (cube_at f level c)
  prefix_is = (cubes_are_in_order f level frame (omega arith)).each c low

  -- the row of a prefix follows
  pub prefix_follows : (rows : List (Option Row)) (children : List Cite) (row : Row) → AreSupported f rows → length children ≡ order f.field - 1
      → ((v : ℕ) → v < length children → IsRight f (in_slots rows) (cube_at f (suc level) (c * (order f.field - 1) + v)) (Refuted (get_or children v Nothing)))
      → row.rank ≡ length rows → row.at ≡ level → row.clause ≡ cube_at f level c → ((k : ℕ) → cite_for row k ≡ get_or children k Nothing) → Follows f (in_slots rows) row
  prefix_follows rows children row supported count right rank at clause cites = record {
    map = subst IsAssign (sym clause) prefix_is.map;
    clause = subst (IsAssignmentOf f) (sym clause) prefix_is.assignment;
    position = omega arith;
    no_value = ap (λ (a : List ℕ). get_or a row.at 0) clause ∙ ap (λ i. get_or (cube_at f level c) i 0) at ∙ cube_else f level c level (omega arith);
    cites = λ k lt.
        let small : k < order f.field - 1 = omega arith in
        let is : set row.clause row.at (k + 1) ≡ cube_at f (suc level) (c * (order f.field - 1) + k) =
        ap (λ (a : List ℕ). set a row.at (k + 1)) clause ∙ ap (λ i. set (cube_at f level c) i (k + 1)) at ∙ cube_at-set f level c k (let fits = few_places f frame in omega arith) low small in
        let held = holds_by_right f rows (cube_at f (suc level) (c * (order f.field - 1) + k)) (get_or children k Nothing) supported (right k (omega arith)) in
        subst (λ n. CiteHolds f (in_slots rows) n (set row.clause row.at (k + 1)) (cite_for row k)) (sym rank)
        (subst (λ (a : List ℕ). CiteHolds f (in_slots rows) (length rows) a (cite_for row k)) (sym is)
        (subst (CiteHolds f (in_slots rows) (length rows) (cube_at f (suc level) (c * (order f.field - 1) + k))) (sym (cites k)) held));
    others = λ k le. cites k ∙ get_or_past children k Nothing (omega arith);
  }
