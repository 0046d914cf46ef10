-- The passes of the tests may open their cubes, look on until they open their next nodes, and race.
use Rattle.std.proofs.Common.{◌≡◌, ◌∙◌, ℕ, ◌*◌, ◌<◌, ◌≤◌, List, [], ◌∷◌, ◌++◌, length, get_or, Contains, Some, sym, ap, subst, ⊎_elim, arith}
use Rattle.std.proofs.lemmas.List.Elements.{Contains-get_or}
use Rattle.std.proofs.lemmas.Option.{none-some}
use Rattle.mr_assign.specs.Assign.{IsPartOf}
use Rattle.mr_frame.specs.Frame.{Framed}
use Rattle.mr_frame.specs.Test.{IsAssignmentOf}
use Rattle.mr_nogood.specs.declared.row.Row.{Row}
use Rattle.mr_nogood.specs.Follows.{Rows}
use Rattle.mr_exchange.specs.declared.TheConstants.{LOOKS}
use Rattle.mr_exchange.specs.declared.ticket.Ticket.{Ticket}
use Rattle.mr_exchange.specs.Events.{IsNodeOf, with_row}
use Rattle.mr_exchange.specs.Cubes.{IsCube, cube_at, cube_count}
use Rattle.mr_exchange.specs.Board.{Holding, new_holding, BoardFacts, Avoids, CanOpen, GainsTicket, SeesShort}
use Rattle.mr_exchange.proofs.Bounds.{cubes_are}
use Rattle.mr_exchange.proofs.Rows.{row_cases}
use Rattle.mr_store.specs.Cards.{StoreIs, CardIs, Mark, mark_of, held_by}
use Rattle.mr_exchange_tests.specs.Private.Stores.{HasClaimed, IsLooking, IsFirst, IsReady}

-- a cube that was claimed
has_cube : (h : Holding) (cube : ℕ) → HasClaimed h cube → Contains h.cubes cube
has_cube h cube one = subst (λ (k : Holding). Contains k.cubes cube) (sym one.is) (Contains-get_or (cube ∷ []) 0 0 (omega arith))

-- it is one of the cubes
pub cube_number : (h : Holding) (f : Framed) (depth cube : ℕ) → BoardFacts h → HasClaimed h cube → f ≡ h.frame → depth ≡ h.problem.depth → cube < cube_count f depth
cube_number h f depth cube facts one frame split =
    let low = facts.cubes cube (has_cube h cube one) in
    let count = cubes_are h.frame h.problem facts.problem in
    subst (λ (g : Framed). cube < cube_count g depth) (sym frame) (subst (λ (d : ℕ). cube < cube_count h.frame d) (sym split) (omega arith))

-- and the pass may open it
pub opens_claimed : (h : Holding) (f : Framed) (depth cube : ℕ) (node : List ℕ) → HasClaimed h cube → f ≡ h.frame → depth ≡ h.problem.depth → node ≡ cube_at f depth cube → IsCube f depth node → CanOpen h node
opens_claimed h f depth cube node one frame split is cube_is = record {
  no_end = ap (λ (k : Holding). k.ticket_ends) one.is;
  is_node = subst (λ (g : Framed). IsNodeOf g h.problem.depth h.cubes node) frame (subst (λ (d : ℕ). IsNodeOf f d h.cubes node) split (record {
    assignment = cube_is.assignment;
    cube = cube;
    claimed = has_cube h cube one;
    contains = λ p some. ap (λ (a : List ℕ). get_or a p 0) is;
  }));
  avoids = λ slot row known. absurd (none-some row (sym (ap (λ (k : Holding). k.known slot) one.is) ∙ known));
  looked = subst (λ (k : Holding). LOOKS * length k.tickets ≤ k.looks) (sym one.is) (omega arith);
}

-- once it did, it may look on for each node that has the one of its ticket
pub starts_looking : (h k : Holding) (cube ticket : ℕ) (first node : List ℕ) → HasClaimed h cube → GainsTicket h first ticket k → BoardFacts k → IsPartOf first node → IsAssignmentOf k.frame node → IsLooking k node
starts_looking h k cube ticket first node one gains facts part assignment =
    let drawn : Ticket = record { slot = ticket; node = first } in
    let is : k ≡ record (new_holding h.frame h.problem) { cubes = cube ∷ []; tickets = drawn ∷ [] } = gains.is ∙ ap (λ (x : Holding). record x { tickets = x.tickets ++ drawn ∷ [] }) one.is in
    let own = facts.nodes drawn (subst (λ (x : Holding). Contains x.tickets drawn) (sym is) (Contains-get_or (drawn ∷ []) 0 drawn (omega arith))) in
    record {
      no_end = ap (λ (x : Holding). x.ticket_ends) is;
      one = ap (λ (x : Holding). length x.tickets) is;
      is_node = record {
        assignment = assignment;
        cube = own.cube;
        claimed = own.claimed;
        contains = λ p some. part p (λ none. some (sym (own.contains p some) ∙ none)) ∙ own.contains p some;
      };
      avoids = λ slot row known. absurd (none-some row (sym (ap (λ (x : Holding). x.known slot) is) ∙ known));
    }

-- a row whose clause is not in the node is one more that is avoided
avoids_more : (rows : Rows) (slot : ℕ) (row : Row) (node : List ℕ) → Avoids rows node → ¬ (IsPartOf row.clause node) → Avoids (with_row rows slot row) node
avoids_more rows slot row node avoids outside other found is short inside = ⊎_elim
    (λ (new : (other ≡ slot) × (row ≡ found)). outside (subst (λ (r : Row). IsPartOf r.clause node) (sym new.1) inside))
    (λ (old : rows other ≡ Some found). avoids other found old short inside)
    (row_cases rows slot other row found is)

-- it looks on after a look at such a row
pub looks_on : (h k : Holding) (slot : ℕ) (row : Row) (node : List ℕ) → IsLooking h node → SeesShort h slot row k → ¬ (IsPartOf row.clause node) → IsLooking k node
looks_on h k slot row node on sees outside = record {
  no_end = ap (λ (x : Holding). x.ticket_ends) sees.is ∙ on.no_end;
  one = ap (λ (x : Holding). length x.tickets) sees.is ∙ on.one;
  is_node = subst (λ (x : Holding). IsNodeOf x.frame x.problem.depth x.cubes node) (sym sees.is) on.is_node;
  avoids = subst (λ (x : Holding). Avoids x.known node) (sym sees.is) (avoids_more h.known slot row node on.avoids outside);
}

-- once the looks were made that are due it may open the node
pub opens_looked : (h : Holding) (node : List ℕ) → IsLooking h node → LOOKS ≤ h.looks → CanOpen h node
opens_looked h node on looked = record {
  no_end = on.no_end;
  is_node = on.is_node;
  avoids = on.avoids;
  looked = subst (λ (n : ℕ). LOOKS * n ≤ h.looks) (sym on.one) (omega arith);
}

-- a pass that was split off is ready to race
pub splits_ready : (s : StoreIs) (made number : ℕ) (first card : CardIs) → 1 ≤ number → IsFirst s number first → mark_of card ≡ record { store = s; number = (mark_of first).made; made = 1; joined = [] } → held_by card ≡ new_holding s.setting.frame s.setting.problem → IsReady s made number card
splits_ready s made number first card some is mark nothing = record {
  racer = record {
    store = ap (λ (m : Mark). m.store) mark;
    alone = ap (λ (m : Mark). m.joined) mark;
    number_is = ap (λ (m : Mark). m.number) mark ∙ is.made_is;
    made_is = λ zero. absurd (omega arith);
  };
  fresh = record {
    store = ap (λ (m : Mark). m.store) mark;
    alone = ap (λ (m : Mark). m.joined) mark;
    nothing = nothing ∙ sym (ap (λ (h : Holding). new_holding h.frame h.problem) nothing);
  };
}

-- so is the first, once all others were split off
pub first_ready : (s : StoreIs) (made : ℕ) (first : CardIs) → IsFirst s made first → IsReady s made 0 first
first_ready s made first is = record {
  racer = record { store = is.fresh.store; alone = is.fresh.alone; number_is = is.number; made_is = λ _. is.made_is };
  fresh = is.fresh;
}
