-- Looks: what a pass keeps, how many were made, and what the index learns.
use Rattle.std.proofs.Common.{◌≡◌, ℕ, ◌+◌, ◌*◌, if◌then◌else◌, List, [], ◌∷◌, length, length-append, refl, sym, ap, subst, ◌∙◌, arith, Option, Some, Bool, true, false, true≢false}
use Rattle.std.specs.Prelude.{◌||◌}
use Rattle.mr_nogood.specs.Follows.{in_slots}
use Rattle.mr_nogood.specs.declared.row.Row.{Row}
use Rattle.mr_exchange.specs.declared.TheConstants.{LOOKS}
use Rattle.mr_exchange.specs.declared.problem.Problem.{Problem}
use Rattle.mr_exchange.specs.Events.{with_row}
use Rattle.mr_exchange.specs.Board.{Holding, BoardFacts, GainsTicket, SeesShort}
use Rattle.mr_exchange.proofs.Totals.{eq_cases}
use Rattle.mr_search.specs.Search.{Learnt}
use Rattle.mr_search.specs.Private.Steps.{CanSearch, GoesOn, Opens, ticket_for}
use Rattle.mr_search.proofs.Keeping.{keeps_both, keeps_opened, new_own}

-- the row is learnt
pub learnt_row : (h after : Holding) (index more : List (Option Row)) (slot : ℕ) (row : Row) → SeesShort h slot row after → Learnt index h → ((s : ℕ) → in_slots more s ≡ with_row (in_slots index) slot row s) → Learnt more after
learnt_row h after index more slot row moves learnt learns s = learns s ∙ eq_cases s slot (λ b. (if b then Some row else in_slots index s) ≡ (if b then Some row else h.known s)) (λ e. refl) (λ n. learnt s) ∙ sym (ap (λ (g : Holding). g.known s) moves.is)

-- so it is where the index has it already
pub learnt_already : (h after : Holding) (index : List (Option Row)) (slot : ℕ) (row : Row) → SeesShort h slot row after → Learnt index h → (other : Row) × (in_slots index slot ≡ Some other) → Learnt index after
learnt_already h after index slot row moves learnt (other, is) =
    let same : other ≡ row = moves.there.same other (subst (λ (k : ℕ). h.known k ≡ Some other) moves.place (sym (learnt slot) ∙ is)) in
    learnt_row h after index index slot row moves learnt
    (λ s. eq_cases s slot (λ b. in_slots index s ≡ (if b then Some row else in_slots index s)) (λ e. ap (in_slots index) e ∙ is ∙ ap Some same) (λ n. refl))

-- where one of two is not so neither is
pub neither : (a b : Bool) → (a || b) ≡ false → (a ≡ false) × (b ≡ false)
neither false false none = (refl, refl)
neither false true none = absurd (true≢false none)
neither true b none = absurd (true≢false none)

-- some looks and one more
pub more_looks : (n m k : ℕ) (a b c : Holding) → k ≡ n + m → GoesOn n a b → GoesOn m b c → GoesOn k a c
more_looks n m k a b c sum first second =
    let same : LOOKS * b.problem.nodes ≡ LOOKS * a.problem.nodes = ap (λ (p : Problem). LOOKS * p.nodes) first.keeps.problem in
    let one = first.made in
    let two = second.made in
    record {
      keeps = keeps_both a b c [] [] first.keeps second.keeps;
      ends = second.ends ∙ first.ends;
      made = omega arith;
    }

-- a node was opened and the looks were made
pub opens : (h mid after : Holding) (old index : List (Option Row)) (node : List ℕ) (p ticket : ℕ) → CanSearch h old node p → GainsTicket h node ticket mid → GoesOn LOOKS mid after → Learnt index after → BoardFacts after → Opens h after index node ticket
opens h mid after old index node p ticket can gains goes learnt facts =
    let first = keeps_opened h mid node ticket gains in
    let keeps = keeps_both h mid after (ticket_for ticket node ∷ []) [] first goes.keeps in
    let count : length after.tickets ≡ length h.tickets + 1 = ap length keeps.tickets ∙ length-append h.tickets (ticket_for ticket node ∷ []) in
    let due = can.stands.ready.looked in
    let few = facts.few_tickets in
    let before : mid.looks ≡ h.looks = ap (λ (g : Holding). g.looks) gains.is in
    let same : LOOKS * mid.problem.nodes ≡ LOOKS * after.problem.nodes = ap (λ (p : Problem). LOOKS * p.nodes) (sym goes.keeps.problem) in
    let made = goes.made in
    record {
      keeps = keeps;
      stands = record {
        ready = record {
          no_end = goes.ends ∙ ap (λ (g : Holding). g.ticket_ends) gains.is ∙ can.stands.ready.no_end;
          looked = omega arith;
          learnt = learnt;
        };
        facts = facts;
      };
      unknown = goes.keeps.own ticket (new_own h mid ticket node first) ∙ ap (λ (g : Holding). g.known ticket) gains.is ∙ gains.unknown;
      fresh = λ had. (let lt = gains.above ticket had in omega arith);
    }
