-- States whose rows are held in a list.
use Rattle.std.proofs.Common.{◌≡◌, ◌≢◌, ℕ, zero, suc, ◌<◌, ◌≤◌, if◌then◌else◌, List, [], ◌∷◌, length, replicate, get_or, set, Option, Some, None, refl, sym, ap, ◌∙◌, subst, arith}
use Rattle.std.proofs.Math.Path.{fun_ext}
use Rattle.std.proofs.lemmas.Option.{none-some}
use Rattle.mr_frame.specs.Frame.{Framed}
use Rattle.mr_nogood.specs.declared.row.Row.{Row}
use Rattle.mr_nogood.specs.Follows.{Rows, in_slots}
use Rattle.mr_exchange.specs.declared.TheConstants.{PASSES}
use Rattle.mr_exchange.specs.declared.problem.Problem.{Problem}
use Rattle.mr_exchange.specs.declared.event.Event.{Event}
use Rattle.mr_exchange.specs.declared.event.Event.TheVariants.{Claim, OpenNode, LookAt, Publish, Split, Join}
use Rattle.mr_exchange.specs.Cubes.{IsProblemOf}
use Rattle.mr_exchange.specs.State.{Pass, State, new_pass, new_state}
use Rattle.mr_exchange.specs.Events.{IsAllowedEvent, state_after, with_row}
use Rattle.mr_exchange.specs.Sound.{IsSound}
use Rattle.mr_exchange.specs.Held.{Held, state_of, held}
use Rattle.mr_exchange.specs.Private.Held.{IsHeld}
use Rattle.mr_exchange.proofs.Totals.{eq_cases}
use Rattle.mr_exchange.proofs.Runs.{new_states_are_sound, allowed_events_keep_soundness}

-- a list that has no row
none_in : (n slot : ℕ) → in_slots (replicate n None) slot ≡ None
none_in zero slot = refl
none_in (suc n) zero = refl
none_in (suc n) (suc slot) = none_in n slot

-- as a function
pub in_slots-replicate : (n : ℕ) → in_slots (replicate n None) ≡ (λ slot. None)
in_slots-replicate n = fun_ext (none_in n)

-- what a list has is what is read there
pub in_slots_read : (rows : List (Option Row)) (slot : ℕ) (d : Option Row) → slot < length rows → in_slots rows slot ≡ get_or rows slot d
in_slots_read [] slot d lt = absurd (omega arith)
in_slots_read (x ∷ rows) zero d lt = refl
in_slots_read (x ∷ rows) (suc slot) d lt = in_slots_read rows slot d (omega arith)

-- past the end there are no rows
pub in_slots_within : (rows : List (Option Row)) (slot : ℕ) (row : Row) → in_slots rows slot ≡ Some row → slot < length rows
in_slots_within [] slot row e = absurd (none-some row e)
in_slots_within (x ∷ rows) zero row e = omega arith
in_slots_within (x ∷ rows) (suc slot) row e = let rest = in_slots_within rows slot row e in omega arith

-- what was put into a slot is there
pub in_slots_here : (rows : List (Option Row)) (slot : ℕ) (x : Option Row) → slot < length rows → in_slots (set rows slot x) slot ≡ x
in_slots_here [] slot x lt = absurd (omega arith)
in_slots_here (y ∷ rows) zero x lt = refl
in_slots_here (y ∷ rows) (suc slot) x lt = in_slots_here rows slot x (omega arith)

-- and the others are as before
pub in_slots_else : (rows : List (Option Row)) (slot other : ℕ) (x : Option Row) → other ≢ slot → in_slots (set rows slot x) other ≡ in_slots rows other
in_slots_else [] slot other x n = refl
in_slots_else (y ∷ rows) zero zero x n = absurd (n refl)
in_slots_else (y ∷ rows) zero (suc other) x n = refl
in_slots_else (y ∷ rows) (suc slot) zero x n = refl
in_slots_else (y ∷ rows) (suc slot) (suc other) x n = in_slots_else rows slot other x (λ e. n (ap suc e))

-- a row that is put into a slot
pub in_slots-set : (rows : List (Option Row)) (slot : ℕ) (row : Row) → slot < length rows → in_slots (set rows slot (Some row)) ≡ with_row (in_slots rows) slot row
in_slots-set rows slot row lt = fun_ext (λ other. eq_cases other slot (λ b. in_slots (set rows slot (Some row)) other ≡ (if b then Some row else in_slots rows other))
    (λ e. subst (λ i. in_slots (set rows slot (Some row)) i ≡ Some row) (sym e) (in_slots_here rows slot (Some row) lt))
    (λ n. in_slots_else rows slot other (Some row) n))

-- a state with these rows
abbrev with_rows : State → Rows → State
with_rows s rows = record s { rows = rows }

module _ (f : Framed) (problem : Problem) (limit : ℕ) (g : Framed) (passes : List Pass) (slots : List (Option Row)) (frame : g ≡ f) (first : passes ≡ new_pass 0 ∷ []) (none : slots ≡ replicate problem.nodes None) where
  -- a new state
  pub new_is : state_of (held g problem limit 0 0 passes slots) ≡ new_state f problem limit
  new_is =
      ap (λ (x : Framed). state_of (held x problem limit 0 0 passes slots)) frame
      ∙ ap (λ (x : List Pass). state_of (held f problem limit 0 0 x slots)) first
      ∙ ap (λ (x : List (Option Row)). state_of (held f problem limit 0 0 (new_pass 0 ∷ []) x)) none
      ∙ ap (with_rows (new_state f problem limit)) (in_slots-replicate problem.nodes)

  -- it is held
  pub new_is_held : IsProblemOf f problem → 1 ≤ limit → limit ≤ PASSES → IsHeld (held g problem limit 0 0 passes slots)
  new_is_held of some few = record {
    sound = subst IsSound (sym new_is) (new_states_are_sound f problem limit some);
    problem = subst (λ x. IsProblemOf x problem) (sym frame) of;
    limit = few;
    slots = ap length none ∙ long problem.nodes;
  }
    where
      long : (n : ℕ) → length (replicate {A = Option Row} n None) ≡ n
      long zero = refl
      long (suc n) = ap suc (long n)

-- an event keeps the frame
frame_after : (s : State) (e : Event) → (state_after s e).frame ≡ s.frame
frame_after s (Claim k) = refl
frame_after s (OpenNode k node) = refl
frame_after s (LookAt k) = refl
frame_after s (Publish k slot row) = refl
frame_after s Split = refl
frame_after s (Join k) = refl

-- and the problem
problem_after : (s : State) (e : Event) → (state_after s e).problem ≡ s.problem
problem_after s (Claim k) = refl
problem_after s (OpenNode k node) = refl
problem_after s (LookAt k) = refl
problem_after s (Publish k slot row) = refl
problem_after s Split = refl
problem_after s (Join k) = refl

-- and how many passes may be made
limit_after : (s : State) (e : Event) → (state_after s e).limit ≡ s.limit
limit_after s (Claim k) = refl
limit_after s (OpenNode k node) = refl
limit_after s (LookAt k) = refl
limit_after s (Publish k slot row) = refl
limit_after s Split = refl
limit_after s (Join k) = refl

-- a state after an event that is allowed is held
pub held_after : (g h : Held) (e : Event) → IsHeld g → IsAllowedEvent (state_of g) e → state_of h ≡ state_after (state_of g) e → length h.slots ≡ length g.slots → IsHeld h
held_after g h e is may same long =
    let frame : h.frame ≡ g.frame = ap (λ (s : State). s.frame) same ∙ frame_after (state_of g) e in
    let problem : h.problem ≡ g.problem = ap (λ (s : State). s.problem) same ∙ problem_after (state_of g) e in
    let limit : h.limit ≡ g.limit = ap (λ (s : State). s.limit) same ∙ limit_after (state_of g) e in record {
      sound = subst IsSound (sym same) (allowed_events_keep_soundness (state_of g) e is.sound may);
      problem = subst (λ x. IsProblemOf x h.problem) (sym frame) (subst (IsProblemOf g.frame) (sym problem) is.problem);
      limit = subst (λ n. n ≤ PASSES) (sym limit) is.limit;
      slots = long ∙ is.slots ∙ ap (λ (p : Problem). p.nodes) (sym problem);
    }
