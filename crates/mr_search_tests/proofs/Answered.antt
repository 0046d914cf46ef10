-- What the tests know of full assignments.
use Rattle.std.proofs.Common.{◌≡◌, ◌⊎◌, ℕ, zero, suc, ◌+◌, List, [], ◌∷◌, ◌++◌, length, get_or, Some, refl, sym, ap, subst, ◌∙◌, inl, inr, ⊎_elim, arith}
use Rattle.std.specs.Prelude.{Contains, slice_get}
use Rattle.std.specs.List.Sorted.{IsStrictlySortedBy}
use Rattle.std.proofs.lemmas.Bool.{cases_eq}
use Rattle.std.proofs.lemmas.List.{ext_get_or, length_push}
use Rattle.mr_set.specs.Subsets.{list_cmp}
use Rattle.mr_set.proofs.Ordered.{member_first, member_cases, member_none}
use Rattle.mr_assign.specs.Assign.{IsAssign}
use Rattle.mr_frame.specs.Frame.{Framed}
use Rattle.mr_frame.specs.Test.{IsAssignmentOf, IsFull, SetFails}
use Rattle.mr_frame.specs.Completion.{IsCompletion}
use Rattle.mr_nogood.specs.Follows.{Rows}
use Rattle.mr_exchange.specs.declared.answer.CubeAnswer.{CubeAnswer}
use Rattle.mr_exchange.specs.declared.problem.Problem.{Problem}
use Rattle.mr_exchange.specs.Cubes.{IsCube, cube_at}
use Rattle.mr_exchange.specs.declared.ticket.Ticket.{Ticket}
use Rattle.mr_exchange.specs.State.{slots_of}
use Rattle.mr_exchange.specs.Board.{Holding, new_holding, GainsCube, GainsTicket}
use Rattle.mr_exchange.specs.Right.{AreAnswers, AreCompletions, IsRight}
use Rattle.mr_search_tests.specs.Private.Answered.{HasCube, HasTicket}

-- one map is in order
alone : (a : List ℕ) → IsStrictlySortedBy list_cmp (a ∷ [])
unfolding IsStrictlySortedBy
alone a = (tt, tt)

-- a full assignment under which no set fails is its only completion
pub full_completions : (f : Framed) (a : List ℕ) → IsAssign a → IsAssignmentOf f a → IsFull f a → ((x : List ℕ) → SetFails f a x → ⊥) → AreCompletions f a (a ∷ [])
full_completions f a map assignment full none = record {
  increasing = alone a;
  exactly = λ c. (
    (λ inside. ⊎_elim
        (λ (same : a ≡ c). subst (IsCompletion f a) same (record { map = map; assignment = assignment; full = full; contains = λ p some. refl; holds = none }))
        (λ (later : Contains [] c). absurd (member_none c later))
        (member_cases a [] c inside)),
    (λ done. subst (Contains (a ∷ [])) (ext_get_or 0 a c (map.positions ∙ sym done.map.positions) (λ p lt. at c done p)) (member_first a [])),
  );
}
  where
    at : (c : List ℕ) → IsCompletion f a c → (p : ℕ) → get_or a p 0 ≡ get_or c p 0
    at c done p = elim (cases_eq (get_or a p 0) 0) [
      | inl nothing ↦ nothing ∙ sym (elim (cases_eq (get_or c p 0) 0) [ inl e ↦ e | inr some ↦ absurd (full p (done.assignment p some).0 nothing) ])
      | inr some ↦ sym (done.contains p some)
    ]

-- the first answers are right
pub record AreRightTo (f : Framed) (depth n : ℕ) (answers : List CubeAnswer) : Type 0 where
  pub count : length answers ≡ n
  pub right : (rows : Rows) (c : ℕ) (answer : CubeAnswer) → slice_get answers c ≡ Some answer → IsRight f rows (cube_at f depth c) answer

-- a member of a longer list
get_cases : (xs : List CubeAnswer) (y x : CubeAnswer) (s : ℕ) → slice_get (xs ++ y ∷ []) s ≡ Some x → (slice_get xs s ≡ Some x) ⊎ ((s ≡ length xs) × (y ≡ x))
get_cases [] y x zero is = inr (refl, (let same : y ≡ x = cc in same))
get_cases [] y x (suc s) is = cc
get_cases (z ∷ zs) y x zero is = inl is
get_cases (z ∷ zs) y x (suc s) is = ⊎_elim (λ (old : slice_get zs s ≡ Some x). inl old) (λ (new : (s ≡ length zs) × (y ≡ x)). inr (ap suc new.0, new.1)) (get_cases zs y x s is)

-- one answer more
pub right_further : (f : Framed) (depth n : ℕ) (answers : List CubeAnswer) (answer : CubeAnswer) → AreRightTo f depth n answers → ((rows : Rows) → IsRight f rows (cube_at f depth n) answer) → AreRightTo f depth (n + 1) (answers ++ answer ∷ [])
right_further f depth n answers answer h right = record {
  count = (let count = h.count in omega (arith, length_push answers answer));
  right = λ rows c other is. ⊎_elim
      (λ (old : slice_get answers c ≡ Some other). h.right rows c other old)
      (λ (new : (c ≡ length answers) × (answer ≡ other)). subst (λ (i : ℕ). IsRight f rows (cube_at f depth i) other) (sym (new.0 ∙ h.count)) (subst (IsRight f rows (cube_at f depth n)) new.1 (right rows)))
      (get_cases answers answer other c is);
}

-- all answers
pub right_all : (f : Framed) (problem : Problem) (n : ℕ) (answers : List CubeAnswer) → n ≡ problem.cubes → AreRightTo f problem.depth n answers → (rows : Rows) → AreAnswers f problem rows answers
right_all f problem n answers all h rows = record { count = h.count ∙ all; right = h.right rows }

-- a cube of all positions is full
pub cube_full : (f : Framed) (depth : ℕ) (a : List ℕ) → depth ≡ length f.places → IsCube f depth a → IsFull f a
cube_full f depth a all cube p lt = (cube.just p).1 (omega arith)

-- a new pass that gained the cubes 0 and 1 has them, and nothing else
pub two_claimed : (h k l : Holding) (a b : ℕ) → h ≡ new_holding h.frame h.problem → GainsCube h a k → GainsCube k b l → b ≡ 1 → HasCube l
two_claimed h k l a b fresh first second one =
    let start = new_holding h.frame h.problem in
    let mid : k ≡ record start { cubes = a ∷ [] } = first.is ∙ ap (λ (x : Holding). record x { cubes = x.cubes ++ a ∷ [] }) fresh in
    let last : l ≡ record start { cubes = a ∷ b ∷ [] } = second.is ∙ ap (λ (x : Holding). record x { cubes = x.cubes ++ b ∷ [] }) mid in
    subst HasCube (sym last) (record {
      cube = subst (Contains (a ∷ b ∷ [])) one (1, omega arith, refl);
      tickets = refl;
      ticket_ends = refl;
      known = λ slot. refl;
    })

-- a pass that drew the ticket 0 has it
pub ticket_drawn : (h l : Holding) (node : List ℕ) (ticket : ℕ) → HasCube h → GainsTicket h node ticket l → ticket ≡ 0 → HasTicket l
ticket_drawn h l node ticket has gains first = record {
  ticket = ap (λ (x : Holding). slots_of x.tickets) gains.is ∙ ap (λ (ts : List Ticket). slots_of (ts ++ record { slot = ticket; node = node } ∷ [])) has.tickets ∙ ap (λ (i : ℕ). i ∷ []) first;
  known = λ slot. ap (λ (x : Holding). x.known slot) gains.is ∙ has.known slot;
}

-- the first answers are right where these rows are there
pub record AreRightBy (f : Framed) (depth : ℕ) (rows : Rows) (n : ℕ) (answers : List CubeAnswer) : Type 0 where
  pub count : length answers ≡ n
  pub right : (c : ℕ) (answer : CubeAnswer) → slice_get answers c ≡ Some answer → IsRight f rows (cube_at f depth c) answer

-- at first there are none
pub right_none : (f : Framed) (depth : ℕ) (rows : Rows) → AreRightBy f depth rows 0 []
right_none f depth rows = record { count = refl; right = λ c answer is. cc }

-- one answer more
pub right_more_by : (f : Framed) (depth : ℕ) (rows : Rows) (n : ℕ) (answers : List CubeAnswer) (answer : CubeAnswer) → AreRightBy f depth rows n answers → IsRight f rows (cube_at f depth n) answer → AreRightBy f depth rows (n + 1) (answers ++ answer ∷ [])
right_more_by f depth rows n answers answer h right = record {
  count = (let count = h.count in omega (arith, length_push answers answer));
  right = λ c other is. ⊎_elim
      (λ (old : slice_get answers c ≡ Some other). h.right c other old)
      (λ (new : (c ≡ length answers) × (answer ≡ other)). subst (λ (i : ℕ). IsRight f rows (cube_at f depth i) other) (sym (new.0 ∙ h.count)) (subst (IsRight f rows (cube_at f depth n)) new.1 right))
      (get_cases answers answer other c is);
}
