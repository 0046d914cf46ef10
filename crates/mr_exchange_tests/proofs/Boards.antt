-- The boards of the tests may open their nodes.
use Rattle.std.proofs.Common.{◌≡◌, ◌≢◌, ℕ, ◌+◌, ◌-◌, ◌^◌, ◌<◌, ◌≤◌, min, List, [], ◌∷◌, ◌++◌, length, replicate, get_or, set, Contains, Option, None, sym, refl, ap, ◌∙◌, ⊎_elim, subst, arith, get_or-set_other}
use Rattle.std.proofs.Math.Nat.{zero-div, pow-suc, pow-zero}
use Rattle.std.proofs.lemmas.Bool.{cases_eq, cases_lt}
use Rattle.std.proofs.lemmas.List.{get_or-replicate, get_or_past, length-replicate}
use Rattle.std.proofs.lemmas.List.Elements.{Contains-get_or}
use Rattle.mr_field.specs.Gf.{Gf, gf2, gf3, gf4, gf5, gf7, gf8, gf9, order}
use Rattle.mr_assign.specs.Assign.{IsPartOf, no_values}
use Rattle.mr_assign.specs.declared.TheConstants.{POSITIONS}
use Rattle.mr_frame.specs.Frame.{Framed}
use Rattle.mr_frame.specs.Test.{IsAssignmentOf}
use Rattle.mr_nogood.specs.declared.row.Row.{Row}
use Rattle.mr_nogood.specs.Follows.{Rows, in_slots}
use Rattle.mr_exchange.specs.declared.TheConstants.{NODES}
use Rattle.mr_exchange.specs.declared.problem.Problem.{Problem}
use Rattle.mr_exchange.specs.Cubes.{values_at, cube_at, IsProblemOf}
use Rattle.mr_exchange.specs.State.{new_state}
use Rattle.mr_exchange.specs.Events.{IsNodeOf}
use Rattle.mr_exchange.specs.Closed.{closed_is, IsShown}
use Rattle.mr_exchange.specs.Board.{Holding, new_holding, CanOpen, GainsCube}
use Rattle.mr_exchange.proofs.Lookups.{length-slots_of}
use Rattle.mr_exchange.proofs.Holding.{in_slots-replicate}
use Rattle.mr_exchange.proofs.Runs.{new_states_are_sound}
use Rattle.mr_exchange_tests.specs.Private.Boards.{HasOne, LookedOn}

-- each field has a second element
some_order : (g : Gf) → 1 < order g
some_order gf2 = omega arith
some_order gf3 = omega arith
some_order gf4 = omega arith
some_order gf5 = omega arith
some_order gf7 = omega arith
some_order gf8 = omega arith
some_order gf9 = omega arith

-- the map that gives 1 to position 0
abbrev one : List ℕ
one = set no_values 0 1

-- it gives nothing to the others
one_else : (p : ℕ) → p ≢ 0 → get_or one p 0 ≡ 0
one_else p apart = get_or-set_other no_values 0 p 1 0 apart ∙ ⊎_elim
    (λ (lt : p < POSITIONS). get_or-replicate POSITIONS p 0 0 lt)
    (λ (past : POSITIONS ≤ p). get_or_past no_values p 0 past)
    (cases_lt p POSITIONS)

-- it is an assignment where a position is free
one_assignment : (f : Framed) → 0 < length f.places → IsAssignmentOf f one
one_assignment f place p some = ⊎_elim
    (λ (e : p ≡ 0). subst (λ (q : ℕ). (q < length f.places) × (get_or one q 0 < order f.field)) (sym e) (place, some_order f.field))
    (λ (apart : p ≢ 0). absurd (some (one_else p apart)))
    (cases_eq p 0)

-- it is the first cube
cube-first : (f : Framed) → cube_at f 1 0 ≡ one
unfolding cube_at values_at
cube-first f = ap (λ (n : ℕ). (n + 1) ∷ replicate (POSITIONS - 1) 0) (zero-div ((order f.field - 1) ^ 0))

-- so it has that
one_cube : (f : Framed) → IsPartOf (cube_at f 1 0) one
one_cube f p some = ap (λ (xs : List ℕ). get_or xs p 0) (sym (cube-first f))

-- so a pass that has this cube may open it
one_node : (f : Framed) (cubes : List ℕ) → 0 < length f.places → Contains cubes 0 → IsNodeOf f 1 cubes one
one_node f cubes place has = record { assignment = one_assignment f place; cube = 0; claimed = has; contains = one_cube f }

-- a new pass that claimed the first cube may open it
pub opens_first : (h k : Holding) (cube : ℕ) (node : List ℕ) → h ≡ new_holding h.frame h.problem → h.problem.depth ≡ 1 → 0 < length h.frame.places → GainsCube h cube k → cube ≡ 0 → node ≡ one → CanOpen k node
opens_first h k cube node fresh depth place gains first is =
    let start = new_holding h.frame h.problem in
    let at_first : k ≡ record start { cubes = 0 ∷ [] } = gains.is ∙ ap (λ (x : Holding). record x { cubes = x.cubes ++ cube ∷ [] }) fresh ∙ ap (λ (c : ℕ). record start { cubes = c ∷ [] }) first in
    subst (λ (x : Holding). CanOpen x node) (sym at_first) (subst (CanOpen (record start { cubes = 0 ∷ [] })) (sym is) (record {
      no_end = refl;
      is_node = subst (λ (d : ℕ). IsNodeOf h.frame d (0 ∷ []) one) (sym depth) (one_node h.frame (0 ∷ []) place (Contains-get_or (0 ∷ []) 0 0 (omega arith)));
      avoids = λ slot row known. absurd cc;
      looked = omega arith;
    }))

-- and again, where the row that it knows isn't in the node
pub opens_second : (h : Holding) (row : Row) (node : List ℕ) → LookedOn h row → h.problem.depth ≡ 1 → 0 < length h.frame.places → node ≡ one → ¬ (IsPartOf row.clause node) → CanOpen h node
opens_second h row node looked depth place is outside = record {
  no_end = looked.knows.one.ticket_ends;
  is_node = subst (IsNodeOf h.frame h.problem.depth h.cubes) (sym is) (subst (λ (d : ℕ). IsNodeOf h.frame d h.cubes one) (sym depth) (one_node h.frame h.cubes place (subst (λ (xs : List ℕ). Contains xs 0) (sym looked.knows.one.cubes) (Contains-get_or (0 ∷ []) 0 0 (omega arith)))));
  avoids = λ slot found known short inside. outside (subst (λ (r : Row). IsPartOf r.clause node) (looked.knows.known slot found known) inside);
  looked = looked.looked;
}

-- there is one ticket
pub one_ticket : (h : Holding) → HasOne h → length h.tickets ≡ 1
one_ticket h one = sym (length-slots_of h.tickets) ∙ ap (λ (xs : List ℕ). length xs) one.tickets

-- the first power
pow-first : (n : ℕ) → n ^ 1 ≡ n
pow-first n = rw (pow-suc, pow-zero) (omega arith)

-- the problem of splitting one position
pub problem_is : (f : Framed) (cubes nodes : ℕ) → 1 ≤ nodes → nodes ≤ NODES → 0 < length f.places → cubes ≡ order f.field - 1 → IsProblemOf f (record { depth = 1; cubes = cubes; nodes = nodes })
problem_is f cubes nodes some few place is = record {
  split = 1;
  nodes = nodes;
  few_split = omega arith;
  some_nodes = some;
  few_nodes = few;
  is = ap (λ (c : ℕ). let made : Problem = record { depth = 1; cubes = c; nodes = nodes } in made) (is ∙ sym (pow-first (order f.field - 1)))
      ∙ ap (λ (d : ℕ). let made : Problem = record { depth = d; cubes = (order f.field - 1) ^ d; nodes = nodes } in made) (let least : 1 ≡ min 1 (length f.places) = omega arith in least);
}

-- what a state shows in which nothing happened
pub untouched_shown : (f : Framed) (problem : Problem) (rows : List (Option Row)) → IsProblemOf f problem → rows ≡ replicate problem.nodes None → IsShown (closed_is f problem 0 0 rows)
untouched_shown f problem rows possible none = record {
  possible = possible;
  state = new_state f problem 1;
  frame = refl;
  problem = refl;
  sound = new_states_are_sound f problem 1 (omega arith);
  size = ap length none ∙ length-replicate problem.nodes None;
  rows = λ slot. sym (ap (λ (xs : List (Option Row)). in_slots xs slot) none ∙ ap (λ (known : Rows). known slot) (in_slots-replicate problem.nodes));
  opened = omega arith;
  claimed = omega arith;
}
