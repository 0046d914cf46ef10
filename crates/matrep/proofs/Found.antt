-- What the merged answers of all cubes say of a search.
use Rattle.std.proofs.Common.{◌≡◌, ◌≢◌, Result, Err, ℕ, zero, suc, ◌+◌, ◌-◌, ◌≤◌, ◌<◌, min, List, [], ◌∷◌, length, Some, refl, sym, ap, subst, ◌∙◌, ⊎_elim, arith, length-append}
use Rattle.std.specs.Prelude.{Contains, flat_map, sum_by, slice_get, IfErr}
use Rattle.std.proofs.lemmas.Cmp.{nat_list_cmp_total}
use Rattle.std.proofs.lemmas.List.Concat.{flat_map-cons}
use Rattle.std.proofs.lemmas.List.Sums.{sum_by-cons}
use Rattle.mr_set.specs.Subsets.{list_cmp}
use Rattle.mr_set.proofs.Ordered.{same_members}
use Rattle.mr_assign.specs.Assign.{no_values}
use Rattle.mr_frame.specs.Frame.{Framed, IsFrame}
use Rattle.mr_nogood.specs.Follows.{in_slots}
use Rattle.mr_exchange.specs.declared.problem.Problem.{Problem}
use Rattle.mr_exchange.specs.declared.answer.CubeAnswer.{CubeAnswer}
use Rattle.mr_exchange.specs.declared.answer.CubeAnswer.TheVariants as answer
use Rattle.mr_exchange.specs.Cubes.{IsProblemOf, problem_of}
use Rattle.mr_exchange.specs.Closed.{ClosedIs, IsClosed}
use Rattle.mr_exchange.specs.Right.{AreAnswers, AreCompletions}
use Rattle.mr_log.specs.declared.log.Log.{Log}
use Rattle.mr_merge.specs.declared.merging.Merged.{Merged}
use Rattle.mr_merge.specs.declared.merging.Merged.TheVariants.{Forms, Refuted}
use Rattle.mr_merge.specs.Merged.{MatchMerged}
use Rattle.mr_merge.specs.Private.Answers.{found_of}
use Rattle.mr_merge.proofs.Boards.{forms_are}
use Rattle.mr_pool.specs.declared.answer.PoolStop.{PoolStop}
use Rattle.mr_pool.specs.declared.answer.PoolStop.TheVariants as pool
use Rattle.mr_pool.specs.Answers.{number_found, IsSearched, IsSpent, IsStop}
use Rattle.matrep.specs.Private.Searched.{IsSpentOn}

-- the number of an answer's completions
number_of : (a : CubeAnswer) → length (found_of a) ≡ number_found a
number_of (answer.Found xs) = refl
number_of (answer.Refuted cite) = refl

-- the number of all that was found
all_found : (answers : List CubeAnswer) → length (flat_map found_of answers) ≡ sum_by number_found answers
all_found [] = refl
all_found (a ∷ answers) =
    ap length (flat_map-cons found_of a answers) ∙ length-append (found_of a) (flat_map found_of answers)
    ∙ ap (λ n. n + length (flat_map found_of answers)) (number_of a) ∙ ap (λ n. number_found a + n) (all_found answers) ∙ sym (sum_by-cons number_found a answers)

-- two lists of all completions are one
same_completions : (f : Framed) (a : List ℕ) (xs ys : List (List ℕ)) → AreCompletions f a xs → AreCompletions f a ys → xs ≡ ys
same_completions f a xs ys here there = same_members nat_list_cmp_total xs ys here.increasing there.increasing
    (λ c. ((λ inside. (there.exactly c).1 ((here.exactly c).0 inside)), (λ inside. (here.exactly c).1 ((there.exactly c).0 inside))))

-- there are no more forms than nodes
pub few_forms : (f : Framed) (problem : Problem) (closed : ClosedIs) (answers : List CubeAnswer) (forms : List (List ℕ)) → IsSearched f problem closed → IsClosed closed → AreAnswers f problem (in_slots closed.rows) answers
    → sum_by number_found answers ≤ closed.opened → AreCompletions f no_values forms → length forms ≤ problem.nodes
few_forms f problem closed answers forms searched shown are found all =
    let listed = forms_are f problem closed searched.frame searched.problem_is shown answers are in
    let same : length forms ≡ length (flat_map found_of answers) = ap length (same_completions f no_values forms (flat_map found_of answers) all listed) in
    let count = all_found answers in
    let opened = shown.shown.opened in
    let nodes : closed.problem.nodes ≡ problem.nodes = ap (λ (p : Problem). p.nodes) searched.problem_is in
    omega arith

-- what is merged to forms
pub merged_forms : (f : Framed) (m : Merged) (forms : List (List ℕ)) → m ≡ Forms forms → MatchMerged m (λ xs. (xs ≢ []) × AreCompletions f no_values xs) (λ log. AreCompletions f no_values []) → (forms ≢ []) × AreCompletions f no_values forms
merged_forms f m forms is told = subst (λ (k : Merged). MatchMerged k (λ xs. (xs ≢ []) × AreCompletions f no_values xs) (λ log. AreCompletions f no_values [])) is told

-- what is merged to a log
pub merged_log : (m : Merged) (log : Log) (P : List (List ℕ) → Type 0) (Q : Log → Type 0) → m ≡ Refuted log → MatchMerged m P Q → Q log
merged_log m log P Q is told = subst (λ (k : Merged). MatchMerged k P Q) is told

-- a search that was stopped at its budget
pub spent_on : {A : Type 0} (f : Framed) (problem : Problem) (ran : Result A PoolStop) (stop : PoolStop) (closed : ClosedIs) (opened nodes split : ℕ) → problem ≡ problem_of f split nodes → IfErr ran (IsStop f problem) → ran ≡ Err stop → stop ≡ pool.Stopped closed → opened ≡ closed.opened → IsSpentOn f nodes split opened
spent_on f problem ran stop closed opened nodes split is told failed stopped shown =
    let spent : IsSpent f problem closed = subst (IsStop f problem) stopped (subst (λ r. IfErr r (IsStop f problem)) failed told) in
    let of : IsSpent f (problem_of f split nodes) closed = subst (λ (p : Problem). IsSpent f p closed) is spent in
    record { opened_is = shown ∙ of.opened; more = of.fewer }
