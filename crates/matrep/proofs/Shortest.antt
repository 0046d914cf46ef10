-- Over two elements a search that finds nothing ends with the short log.
use Rattle.std.proofs.Common.{◌≡◌, ◌≢◌, ℕ, zero, suc, ◌+◌, ◌-◌, ◌≤◌, ◌<◌, List, [], ◌∷◌, length, Some, refl, sym, ap, subst, ◌∙◌, arith}
use Rattle.std.specs.Prelude.{slice_get}
use Rattle.std.proofs.Math.Nat.{pow-zero}
use Rattle.mr_field.specs.Gf.{gf2, order}
use Rattle.mr_set.specs.Matroid.{Presentation}
use Rattle.mr_assign.specs.Assign.{no_values}
use Rattle.mr_frame.specs.Frame.{Framed, IsFrame}
use Rattle.mr_frame.specs.Test.{IsFirstFailing}
use Rattle.mr_nogood.specs.declared.row.Row.{Row}
use Rattle.mr_nogood.specs.declared.row.Cite.{Cite}
use Rattle.mr_nogood.specs.declared.row.Cite.TheVariants.{Nothing, Test, Slot}
use Rattle.mr_nogood.specs.Follows.{Rows, in_slots}
use Rattle.mr_log.specs.declared.log.Log.{Log}
use Rattle.mr_exchange.specs.declared.problem.Problem.{Problem}
use Rattle.mr_exchange.specs.declared.answer.CubeAnswer.{CubeAnswer}
use Rattle.mr_exchange.specs.declared.answer.CubeAnswer.TheVariants.{Found, Refuted}
use Rattle.mr_exchange.specs.Cubes.{IsProblemOf, cube_at, values_at, cube_count}
use Rattle.mr_exchange.specs.Closed.{ClosedIs, IsClosed}
use Rattle.mr_exchange.proofs.Bounds.{cubes_are, depth_is}
use Rattle.mr_merge.specs.Answers.{HasFound}
use Rattle.mr_merge.specs.Merged.{IsRefutationOf}
use Rattle.mr_merge.proofs.Boards.{board_frame, board_supported}
use Rattle.mr_exchange.specs.Right.{AreAnswers}
use Rattle.mr_pool.specs.Answers.{AreFirst, IsSearched}
use Rattle.matrep.specs.Solving.{short_log, IsShortLog}

-- the only cube of depth 0 has no values
cube_none : (f : Framed) → cube_at f 0 0 ≡ no_values
unfolding cube_at values_at
cube_none f = refl

-- a log by its parts
short_is : (l : Log) (m : Presentation) (x : List ℕ) → l.matroid ≡ m → l.q ≡ 2 → l.steps ≡ [] → l.last ≡ Test x → l ≡ short_log m x
short_is l m x matroid field steps last = λ i. record { matroid = matroid i; q = field i; steps = steps i; last = last i }

-- where no position is free, nothing was found, and a slot refutes nothing, the one cube is refuted by a set
one_set : (f : Framed) (problem : Problem) (rows : Rows) (answers : List CubeAnswer) → length answers ≡ 1 → AreAnswers f problem rows answers → ((s : ℕ) (row : Row) → rows s ≡ Some row → ⊥) → (HasFound answers → ⊥) → (x : List ℕ) × (answers ≡ Refuted (Test x) ∷ [])
one_set f problem rows [] size are no_row nothing = absurd (omega arith)
one_set f problem rows (Found xs ∷ []) size are no_row nothing = absurd (nothing (0, xs, refl))
one_set f problem rows (Refuted Nothing ∷ []) size are no_row nothing = absurd (are.right 0 (Refuted Nothing) refl)
one_set f problem rows (Refuted (Test x) ∷ []) size are no_row nothing = (x, refl)
one_set f problem rows (Refuted (Slot s) ∷ []) size are no_row nothing = (let cited = are.right 0 (Refuted (Slot s)) refl in absurd (no_row s cited.0 cited.1))
one_set f problem rows (a ∷ b ∷ answers) size are no_row nothing = absurd (omega arith)

module _ (f : Framed) (problem : Problem) (closed : ClosedIs) (answers : List CubeAnswer) (of : IsProblemOf f problem) (searched : IsSearched f problem closed) (shown : IsClosed closed) (are : AreAnswers f problem (in_slots closed.rows) answers) (first : AreFirst f problem answers) (two : f.field ≡ gf2) where
  -- it is a frame
  frame : IsFrame f
  frame = board_frame f problem closed searched.frame searched.problem_is shown

  -- no position is free
  none_free : length f.places ≡ 0
  none_free = ap length (frame.none two)

  -- so none is split
  none_split : problem.depth ≡ 0
  none_split = let few = (depth_is f problem of).1 in omega (arith, few, none_free)

  -- there is one cube
  one_cube : length answers ≡ 1
  one_cube = are.count ∙ cubes_are f problem of ∙ ap (cube_count f) none_split ∙ pow-zero (order f.field - 1)

  -- no slot has a row
  no_row : (s : ℕ) (row : Row) → in_slots closed.rows s ≡ Some row → ⊥
  no_row s row is =
      let supported = board_supported f problem closed searched.frame searched.problem_is shown in
      let at = (supported.follow s row is).position in
      omega (arith, at, none_free)

  -- the log is the short one
  pub short_log_is : (log : Log) → IsRefutationOf f log → (HasFound answers → ⊥) → ((x : List ℕ) → problem.depth ≡ 0 → answers ≡ Refuted (Test x) ∷ [] → (log.steps ≡ []) × (log.last ≡ Test x)) → IsShortLog f.matroid log
  short_log_is log refutation nothing set =
      let one = one_set f problem (in_slots closed.rows) answers one_cube are no_row nothing in
      let x : List ℕ = one.0 in
      let parts = set x none_split one.1 in
      let there : slice_get answers 0 ≡ Some (Refuted (Test x)) = ap (λ (xs : List CubeAnswer). slice_get xs 0) one.1 in
      let least : IsFirstFailing f (cube_at f problem.depth 0) x = first 0 x there in
      record {
        frame = f;
        is_frame = record { frame = frame; matroid = refl; over = two };
        set = x;
        first = subst (λ (a : List ℕ). IsFirstFailing f a x) (ap (λ (d : ℕ). cube_at f d 0) none_split ∙ cube_none f) least;
        log_is = short_is log f.matroid x refutation.matroid (refutation.field ∙ ap order two) parts.0 parts.1;
      }
