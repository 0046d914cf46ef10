-- What right answers for all cubes say of the forms.
use Rattle.std.proofs.Common.{◌≡◌, ◌≢◌, ℕ, List, [], ◌∷◌, Some, refl, sym, subst, ◌∙◌}
use Rattle.std.specs.Prelude.{Contains, flat_map}
use Rattle.std.specs.List.Sorted.{IsStrictlySortedBy}
use Rattle.mr_set.proofs.Ordered.{member_none, member_first}
use Rattle.mr_assign.specs.Assign.{no_values}
use Rattle.mr_frame.specs.Frame.{Framed, IsFrame}
use Rattle.mr_frame.specs.Completion.{IsCompletion}
use Rattle.mr_nogood.specs.declared.row.Row.{Row}
use Rattle.mr_nogood.specs.declared.row.Cite.{Cite}
use Rattle.mr_nogood.specs.declared.row.Cite.TheVariants.{Nothing, Test, Slot}
use Rattle.mr_nogood.specs.Follows.{Rows, Excludes}
use Rattle.mr_nogood.proofs.Excluding.{completes_part, fails_more}
use Rattle.mr_exchange.specs.declared.problem.Problem.{Problem}
use Rattle.mr_exchange.specs.declared.answer.CubeAnswer.{CubeAnswer}
use Rattle.mr_exchange.specs.declared.answer.CubeAnswer.TheVariants.{Found, Refuted}
use Rattle.mr_exchange.specs.Cubes.{IsProblemOf, cube_at}
use Rattle.mr_exchange.specs.Right.{AreAnswers, AreCompletions, IsRight}
use Rattle.mr_exchange.proofs.Bounds.{cubes_are, depth_is}
use Rattle.mr_merge.specs.Answers.{HasFound}
use Rattle.mr_merge.specs.Private.Answers.{found_of}
use Rattle.mr_merge.proofs.Joining.{joined, among_all}

-- a cube that is refuted has no completion
pub refuted_has_none : (f : Framed) (rows : Rows) (a c : List ℕ) (cite : Cite) → IsFrame f → ((s : ℕ) (row : Row) → rows s ≡ Some row → Excludes f row) → IsRight f rows a (Refuted cite) → IsCompletion f a c → ⊥
refuted_has_none f rows a c Nothing frame exclude right done = right
refuted_has_none f rows a c (Test x) frame exclude right done = done.holds x (fails_more f a c x frame done right)
refuted_has_none f rows a c (Slot s) frame exclude (row, is, part) done =
    exclude s row is c (completes_part f a row.clause c done (λ p some. done.contains p (λ none. some (sym (part p some) ∙ none)) ∙ part p some))

-- what was found of a cube are its completions
pub found_are_completions : (f : Framed) (rows : Rows) (a : List ℕ) (answer : CubeAnswer) → IsFrame f → ((s : ℕ) (row : Row) → rows s ≡ Some row → Excludes f row) → IsRight f rows a answer → AreCompletions f a (found_of answer)
unfolding IsStrictlySortedBy
found_are_completions f rows a (Found xs) frame exclude right = right.1
found_are_completions f rows a (Refuted cite) frame exclude right = record {
  increasing = tt;
  exactly = λ c. ((λ inside. absurd (member_none c inside)), (λ done. absurd (refuted_has_none f rows a c cite frame exclude right done)));
}

-- all that was found are the forms
pub found_are_forms : (f : Framed) (problem : Problem) (rows : Rows) (answers : List CubeAnswer) → IsFrame f → IsProblemOf f problem → ((s : ℕ) (row : Row) → rows s ≡ Some row → Excludes f row) → AreAnswers f problem rows answers
    → AreCompletions f no_values (flat_map found_of answers)
found_are_forms f problem rows answers frame of exclude are =
    joined f frame problem.depth (depth_is f problem of).1 found_of answers (are.count ∙ cubes_are f problem of) (λ k answer is. found_are_completions f rows (cube_at f problem.depth k) answer frame exclude (are.right k answer is))

-- an empty list has no first element
no_first : {A : Type 0} (x : A) (xs : List A) → x ∷ xs ≡ [] → ⊥
no_first x xs is = cc

-- where something was found of a cube, there are forms
pub found_some : (f : Framed) (problem : Problem) (rows : Rows) (answers : List CubeAnswer) → AreAnswers f problem rows answers → HasFound answers → flat_map found_of answers ≢ []
found_some f problem rows answers are (c, [], is) none = (are.right c (Found []) is).0 refl
found_some f problem rows answers are (c, x ∷ xs, is) none =
    let inside : Contains (flat_map found_of answers) x = among_all found_of answers c (Found (x ∷ xs)) x is (member_first x xs) in
    member_none x (subst (λ (l : List (List ℕ)). Contains l x) none inside)
