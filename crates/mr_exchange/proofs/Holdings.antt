-- What a pass has and knows is changed by each event as a call of a board changes it.
use Rattle.std.proofs.Common.{◌≡◌, ◌≢◌, ℕ, ◌+◌, ◌*◌, ◌<◌, ◌≤◌, ◌↔◌, min, ◌==◌, if◌then◌else◌, Bool, true, false, true≢false, List, [], ◌∷◌, ◌++◌, get_or, set, Option, Some, None, IsSome, Contains, sym, refl, ap, ◌∙◌, ⊎_elim, subst, arith, lt_of_not-le, get_or-set_same}
use Rattle.std.proofs.Math.Path.{fun_ext}
use Rattle.std.proofs.lemmas.Bool.{le-leb, lt-leb}
use Rattle.std.proofs.lemmas.Option.{none-some, same_Some}
use Rattle.std.specs.Prelude.{nat_lt, nat_le}
use native.Mathlib.Decide.{dec_le}
use Rattle.mr_set.specs.Elements.{is_element}
use Rattle.mr_set.proofs.Members.{Contains-from_element, is_element-from_Contains}
use Rattle.mr_frame.specs.Frame.{IsFrame}
use Rattle.mr_nogood.specs.declared.row.Row.{Row}
use Rattle.mr_nogood.specs.Follows.{Rows, Excludes}
use Rattle.mr_exchange.specs.declared.ticket.Ticket.{Ticket}
use Rattle.mr_exchange.specs.declared.TheConstants.{LOOKS, SHORT}
use Rattle.mr_exchange.specs.declared.event.Event.TheVariants.{Claim, OpenNode, LookAt, Publish}
use Rattle.mr_exchange.specs.declared.event.Look.TheVariants.{Long, Short}
use Rattle.mr_exchange.specs.Cubes.{IsProblemOf}
use Rattle.mr_exchange.specs.State.{Pass, State, spent, pass_at, IsLive, slots_of, latest_of, pair_count, head_at, known_rows}
use Rattle.mr_exchange.specs.Events.{MayClaim, MayOpen, MayLook, MayPublish, state_after, knowing, known_after, looked, published, seen, with_row}
use Rattle.mr_exchange.specs.Sound.{IsSound}
use Rattle.mr_exchange.specs.Facts.{PassFacts}
use Rattle.mr_exchange.specs.Board.{holding_in, holding_of, IsKnownRow, BoardFacts, CanOpen, CanPublish, Claimed, Opened, Looked, Published, MayHave, going_on}
use Rattle.mr_exchange.specs.Acting.{PassesActAsBoards}
use Rattle.mr_exchange.proofs.Totals.{lt_cases, eq_cases, bool_cases}
use Rattle.mr_exchange.proofs.Lookups.{within, knowing_this, knowing_more, knowing_cases}
use Rattle.mr_exchange.proofs.Rows.{row_here, row_else}
use Rattle.mr_exchange.proofs.OnePass.{passes_have_facts}

-- by whether a is at most b
le_by : (a b : ℕ) (F : Bool → Type 0) → (a ≤ b → F true) → (b < a → F false) → Dec (a ≤ b) → F (nat_le a b)
le_by a b F within_ above (yes h) = subst F (sym (le-leb a b h)) (within_ h)
le_by a b F within_ above (no h) = subst F (sym (lt-leb a b (lt_of_not-le h))) (above (lt_of_not-le h))

-- the same, with nothing to decide
pub le_cases : (a b : ℕ) (F : Bool → Type 0) → (a ≤ b → F true) → (b < a → F false) → F (nat_le a b)
le_cases a b F within_ above = le_by a b F within_ above (dec_le a b)

-- a known row is one that the pass knows, and stands in its slot
pub known_here : (s : State) (p : Pass) (slot : ℕ) (row : Row) → known_rows s p slot ≡ Some row → Contains p.known slot × (s.rows slot ≡ Some row)
known_here s p slot row = bool_cases (is_element p.known slot) (λ b. (if b then s.rows slot else None) ≡ Some row → Contains p.known slot × (s.rows slot ≡ Some row))
    (λ e h. (Contains-from_element p.known slot e, h)) (λ e h. absurd (none-some row h))

-- the row of a slot that the pass knows is a known row
pub known_there : (s : State) (p : Pass) (slot : ℕ) → Contains p.known slot → known_rows s p slot ≡ s.rows slot
known_there s p slot has = ap (λ b. if b then s.rows slot else None) (is_element-from_Contains p.known slot has)

-- where the pass doesn't know the slot it knows no row there
pub unknown_there : (s : State) (p : Pass) (slot : ℕ) → (Contains p.known slot → ⊥) → known_rows s p slot ≡ None
unknown_there s p slot none = bool_cases (is_element p.known slot) (λ b. (if b then s.rows slot else None) ≡ None) (λ e. absurd (none (Contains-from_element p.known slot e))) (λ e. refl)

-- a slot without a row is one in which no pass knows a row
pub unknown_empty : (s : State) (p : Pass) (slot : ℕ) → s.rows slot ≡ None → known_rows s p slot ≡ None
unknown_empty s p slot free = bool_cases (is_element p.known slot) (λ b. (if b then s.rows slot else None) ≡ None) (λ e. free) (λ e. refl)

-- a slot of its own in which a pass knows no row has none
pub own_empty : (s : State) (p : Pass) (slot : ℕ) → PassFacts s p → Contains (slots_of p.tickets) slot → known_rows s p slot ≡ None → s.rows slot ≡ None
own_empty s p slot facts own none = read (s.rows slot) refl
  where
    read : (o : Option Row) → s.rows slot ≡ o → s.rows slot ≡ None
    read None e = e
    read (Some row) e = absurd (none-some row (sym none ∙ known_there s p slot ((facts.own slot own).0 (subst IsSome (sym e) refl)) ∙ e))

-- with one slot more, one row more is known
pub known-knowing : (s : State) (p : Pass) (slot : ℕ) (row : Row) (rows : Rows) → rows slot ≡ Some row → ((other : ℕ) → other ≢ slot → rows other ≡ s.rows other)
    → (other : ℕ) → (if is_element (knowing slot p.known) other then rows other else None) ≡ with_row (known_rows s p) slot row other
known-knowing s p slot row rows here same other = let more = knowing slot p.known in eq_cases other slot (λ b. (if is_element more other then rows other else None) ≡ (if b then Some row else known_rows s p other))
    (λ e. ap (λ b. if b then rows other else None) (is_element-from_Contains more other (subst (Contains more) (sym e) (knowing_this slot p.known))) ∙ ap rows e ∙ here)
    (λ n. bool_cases (is_element p.known other) (λ b. (if is_element more other then rows other else None) ≡ (if b then s.rows other else None))
    (λ e. ap (λ b. if b then rows other else None) (is_element-from_Contains more other (knowing_more slot p.known other (Contains-from_element p.known other e))) ∙ same other n)
    (λ e. bool_cases (is_element more other) (λ b. (if b then rows other else None) ≡ None)
    (λ d. ⊎_elim (λ (x : Contains p.known other). absurd (true≢false (sym (is_element-from_Contains p.known other x) ∙ e))) (λ (x : slot ≡ other). absurd (n (sym x))) (knowing_cases slot p.known other (Contains-from_element more other d)))
    (λ d. refl)))

-- a known row excludes, and it is one of the frame
pub known_row_of : (s : State) (p : Pass) (slot : ℕ) (row : Row) → IsSound s → PassFacts s p → known_rows s p slot ≡ Some row → IsKnownRow (holding_in s p) slot row
known_row_of s p slot row sound facts is =
    let there = known_here s p slot row is in
    let has = facts.known slot there.0 in
    let same : has.row ≡ row = same_Some has.row row (sym has.at ∙ there.1) in
    let follows = sound.proved.follows slot row there.1 in record {
      excludes = subst (Excludes s.frame) same has.excludes;
      clause = follows.clause;
      position = follows.position;
      no_value = follows.no_value;
      rank = subst (λ (r : Row). r.rank < s.problem.nodes) same has.rank;
      in_range = (let a = facts.drawn slot there.0 in omega arith);
    }

-- what may be rested on
pub facts_of : (s : State) (k : ℕ) → IsFrame s.frame → IsProblemOf s.frame s.problem → IsSound s → IsLive s k → (pass_at s k).joined ≡ [] → BoardFacts (holding_of s k)
facts_of s k frame problem sound live alone = let facts = passes_have_facts s k frame sound live in record {
  frame = frame;
  problem = problem;
  cubes = λ c has. (let a = facts.cubes c has in omega arith);
  cubes_once = facts.cubes_once;
  few_cubes = facts.few_cubes;
  tickets = λ t has. (let a = facts.tickets t has in omega arith);
  tickets_once = facts.tickets_once;
  few_tickets = facts.few_tickets;
  nodes = facts.nodes;
  known = λ slot row is. known_row_of s (pass_at s k) slot row sound facts is;
  looks = facts.looks;
  turn = facts.turn alone;
}

-- the pass that an event left is the one of its number
pub changed : (s : State) (k : ℕ) (w : Pass) → IsLive s k → get_or (set s.passes k w) k spent ≡ w
changed s k w live = get_or-set_same s.passes k w spent (within s.passes k live)

-- a claim changes it as a board's does
pub claim_moves : (s : State) (k : ℕ) → PassFacts s (pass_at s k) → MayClaim s k → Claimed (holding_of s k) (if nat_lt s.claim s.problem.cubes then Some s.claim else None) (holding_of (state_after s (Claim k)) k)
claim_moves s k facts may =
    let p = pass_at s k in
    let s' = state_after s (Claim k) in
    let h = holding_in s p in
    subst (λ w. Claimed h (if nat_lt s.claim s.problem.cubes then Some s.claim else None) (holding_in s' w)) (sym (changed s k _ may.live))
    (lt_cases s.claim s.problem.cubes (λ b. Claimed h (if b then Some s.claim else None) (holding_in s' (if b then record p { cubes = p.cubes ++ s.claim ∷ [] } else record p { claim_ends = p.claim_ends + 1 })))
    (λ lt. record { low = lt; new = λ has. (let a = facts.cubes s.claim has in omega arith); is = refl })
    (λ le. refl))

-- an opening changes it as a board's does
pub open_moves : (s : State) (k : ℕ) (node : List ℕ) → PassFacts s (pass_at s k) → MayOpen s k node → Opened (holding_of s k) node (if nat_lt s.ticket s.problem.nodes then Some s.ticket else None) (holding_of (state_after s (OpenNode k node)) k)
open_moves s k node facts may =
    let p = pass_at s k in
    let s' = state_after s (OpenNode k node) in
    let h = holding_in s p in
    let t : Ticket = record { slot = s.ticket; node = node } in
    subst (λ w. Opened h node (if nat_lt s.ticket s.problem.nodes then Some s.ticket else None) (holding_in s' w)) (sym (changed s k _ may.live))
    (lt_cases s.ticket s.problem.nodes (λ b. Opened h node (if b then Some s.ticket else None) (holding_in s' (if b then record p { tickets = p.tickets ++ t ∷ [] } else record p { ticket_ends = p.ticket_ends + 1 })))
    (λ lt. record {
      low = lt;
      above = λ x has. (let a = facts.tickets x has in omega arith);
      unknown = unknown_there s p s.ticket (λ has. let a = facts.drawn s.ticket has in omega arith);
      is = refl;
    })
    (λ le. refl))

-- a publication changes it as a board's does
pub publish_moves : (s : State) (k slot : ℕ) (row : Row) → MayPublish s k slot row → Published (holding_of s k) slot row (holding_of (state_after s (Publish k slot row)) k)
publish_moves s k slot row may =
    let p = pass_at s k in
    let s' = state_after s (Publish k slot row) in
    let h = holding_in s p in
    subst (λ w. Published h slot row (holding_in s' w)) (sym (changed s k (published slot p) may.live))
    (ap (λ (rows : Rows). record h { known = rows }) (fun_ext (known-knowing s p slot row s'.rows (row_here s.rows slot row) (λ other n. row_else s.rows slot other row n))))

-- the row of the slot at the cursor may be there
may_have : (s : State) (p : Pass) (row : Row) → PassFacts s p → s.rows p.cursor ≡ Some row → MayHave (holding_in s p) row
may_have s p row facts there = record {
  same = λ found is. same_Some found row (sym (known_here s p p.cursor found is).1 ∙ there);
  own = λ own. known_there s p p.cursor ((facts.own p.cursor own).0 (subst IsSome (sym there) refl)) ∙ there;
}

-- a pass that looked at this row or none
abbrev looked_at : ℕ → Option Row → Pass → Pass
looked_at nodes found p = record p {
  known = known_after p.cursor found p.known;
  looks = min (p.looks + 1) (LOOKS * nodes);
  last_head = head_at found;
  cursor = if p.cursor == latest_of p.tickets then 0 else p.cursor + 1;
}

-- a look at what the slot has
look_at_slot : (s : State) (p : Pass) (found : Option Row) → PassFacts s p → s.rows p.cursor ≡ found → Looked (holding_in s p) (seen p.cursor found) (holding_in s (looked_at s.problem.nodes found p))
look_at_slot s p None facts there = (unknown_empty s p p.cursor there, refl)
look_at_slot s p (Some row) facts there =
    let h = holding_in s p in
    let next = looked_at s.problem.nodes (Some row) p in
    le_cases (pair_count row.clause) SHORT (λ b. Looked h (if b then Short p.cursor row else Long) (holding_in s (record next { known = if b then knowing p.cursor p.known else p.known })))
    (λ le. record {
      place = refl;
      there = may_have s p row facts there;
      short = le;
      is = ap (λ (rows : Rows). record (going_on (Some row) h) { known = rows }) (fun_ext (known-knowing s p p.cursor row s.rows there (λ other n. refl)));
    })
    (λ lt. record { row = row; there = may_have s p row facts there; long = lt; is = refl })

-- a look changes it as a board's does
pub look_moves : (s : State) (k : ℕ) → PassFacts s (pass_at s k) → MayLook s k → Looked (holding_of s k) (seen (pass_at s k).cursor (s.rows (pass_at s k).cursor)) (holding_of (state_after s (LookAt k)) k)
look_moves s k facts may =
    let p = pass_at s k in
    subst (λ w. Looked (holding_in s p) (seen p.cursor (s.rows p.cursor)) (holding_in s w)) (sym (changed s k (looked s.problem.nodes s.rows p) may.live))
    (look_at_slot s p (s.rows p.cursor) facts refl)

-- what a board asks for at an opening is what the event needs
pub may_open : (s : State) (k : ℕ) (node : List ℕ) → IsLive s k → (pass_at s k).joined ≡ [] → MayOpen s k node ↔ CanOpen (holding_of s k) node
may_open s k node live alone = let p = pass_at s k in (
  (λ (may : MayOpen s k node). record {
    no_end = may.no_end;
    is_node = may.is_node;
    avoids = λ slot row is. (let there = known_here s p slot row is in may.avoids slot row there.0 there.1);
    looked = may.looked;
  }),
  (λ (can : CanOpen (holding_of s k) node). record {
    live = live;
    alone = alone;
    no_end = can.no_end;
    is_node = can.is_node;
    avoids = λ slot row has there. can.avoids slot row (known_there s p slot has ∙ there);
    looked = can.looked;
  }),
)

-- and at a publication
pub may_publish : (s : State) (k slot : ℕ) (row : Row) → PassFacts s (pass_at s k) → IsLive s k → MayPublish s k slot row ↔ CanPublish (holding_of s k) slot row
may_publish s k slot row facts live = let p = pass_at s k in (
  (λ (may : MayPublish s k slot row). record { own = may.own; empty = unknown_empty s p slot may.empty; follows = may.follows; rank = may.rank }),
  (λ (can : CanPublish (holding_of s k) slot row). record { live = live; own = can.own; empty = own_empty s p slot facts can.own can.empty; follows = can.follows; rank = can.rank }),
)

-- a pass that joined no other acts as a board
pub passes_act_as_boards : PassesActAsBoards
passes_act_as_boards s k frame problem sound live alone = let facts = passes_have_facts s k frame sound live in record {
  facts = facts_of s k frame problem sound live alone;
  can_claim = ((λ (may : MayClaim s k). may.no_end), λ none. record { live = live; no_end = none });
  can_open = λ node. may_open s k node live alone;
  can_look = ((λ (may : MayLook s k). may.some_ticket), λ some. record { live = live; alone = alone; some_ticket = some });
  can_publish = λ slot row. may_publish s k slot row facts live;
  claim = λ cube may is. (let same : (if nat_lt s.claim s.problem.cubes then Some s.claim else None) ≡ cube = cc in subst (λ c. Claimed (holding_of s k) c (holding_of (state_after s (Claim k)) k)) same (claim_moves s k facts may));
  opening = λ node ticket may is. (let same : (if nat_lt s.ticket s.problem.nodes then Some s.ticket else None) ≡ ticket = cc in subst (λ t. Opened (holding_of s k) node t (holding_of (state_after s (OpenNode k node)) k)) same (open_moves s k node facts may));
  look = λ look may is. (let same : seen (pass_at s k).cursor (s.rows (pass_at s k).cursor) ≡ look = cc in subst (λ l. Looked (holding_of s k) l (holding_of (state_after s (LookAt k)) k)) same (look_moves s k facts may));
  publication = λ slot row may. publish_moves s k slot row may;
}
