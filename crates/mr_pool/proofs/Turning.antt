-- What a pass has after its turn.
use Rattle.std.proofs.Common.{◌≡◌, ◌≢◌, ℕ, ◌+◌, ◌<◌, ◌≤◌, List, [], length, refl, sym, ap, subst, ◌∙◌, arith, Contains, Option, Some, None}
use Rattle.std.specs.Prelude.{slice_get, AllPairs}
use Rattle.std.proofs.lemmas.Option.{none-some}
use Rattle.mr_set.proofs.Ordered.{member_none}
use Rattle.mr_frame.specs.Frame.{Framed}
use Rattle.mr_exchange.specs.declared.problem.Problem.{Problem}
use Rattle.mr_exchange.specs.declared.ticket.Ticket.{Ticket}
use Rattle.mr_exchange.specs.declared.answer.CubeAnswer.TheVariants.{Found}
use Rattle.mr_exchange.specs.Board.{Holding, BoardFacts, new_holding}
use Rattle.mr_search.specs.Nodes.{HoldsOfMany}
use Rattle.mr_search.specs.Search.{AreNodes}
use Rattle.mr_store.specs.Cards.{HoldingFacts}
use Rattle.mr_pool.specs.declared.answered.Answered.{Answered}
use Rattle.mr_pool.specs.declared.workers.WorkStop.{WorkStop}
use Rattle.mr_pool.specs.declared.workers.WorkStop.TheVariants.{Over, Memory}
use Rattle.mr_pool.specs.Private.Answers.{IsNodeOfOne, HasAnswered}
use Rattle.mr_pool.specs.Private.Lists.{HasListed}
use Rattle.mr_pool.specs.Private.Desks.{HasEnded}

-- what holds of a board's pass holds of what it has and knows
holding_facts : (h : Holding) → BoardFacts h → HoldingFacts h
holding_facts h facts = record {
  frame = facts.frame;
  problem = facts.problem;
  cubes = facts.cubes;
  cubes_once = facts.cubes_once;
  tickets = facts.tickets;
  tickets_once = facts.tickets_once;
  nodes = facts.nodes;
  known = facts.known;
}

-- no tickets have different nodes
no_nodes : (P : List ℕ → Type 0) → AreNodes P []
no_nodes P = record { each = λ t has. absurd (member_none t has); different = λ i j d lt in_range. absurd (omega arith) }

-- a new pass has answered all its cubes, which are none
pub listed_new : (h : Holding) (list : List Answered) → h ≡ new_holding h.frame h.problem → list ≡ [] → HasListed h list
listed_new h list new none = subst (HasListed h) (sym none) (record {
  cubes = ap (λ (k : Holding). k.cubes) (sym new);
  served = subst (λ (k : Holding). HasAnswered h.frame h.problem.depth k.cubes k.tickets k.known []) (sym new) (record {
    count = refl;
    right = λ k c answer at there. absurd (none-some answer there);
    first = λ k c x at there. absurd (none-some c at);
    opened = λ k xs c there has. absurd (none-some (Found xs) there);
    few = (omega arith);
    nodes = no_nodes (IsNodeOfOne h.frame h.problem.depth []);
  });
})

-- a new pass that was not searched
pub ended_new : (h : Holding) (list : List Answered) → BoardFacts h → h ≡ new_holding h.frame h.problem → HasEnded h list 1 (Some Memory)
ended_new h list facts new = record {
  facts = holding_facts h facts;
  nodes = subst (λ (k : Holding). AreNodes (IsNodeOfOne h.frame h.problem.depth k.cubes) k.tickets) (sym new) (no_nodes (IsNodeOfOne h.frame h.problem.depth []));
  told = λ e. absurd (none-some Memory (sym e));
  listed = λ e. absurd (none-some Memory (sym e));
  over = λ e. absurd (cc);
}

module _ (h : Holding) (list : List Answered) (facts : BoardFacts h) (nodes : AreNodes (IsNodeOfOne h.frame h.problem.depth h.cubes) h.tickets) where
  -- a pass that was told that no cube is left
  pub ended_all : h.claim_ends ≡ 1 → HasListed h list → HasEnded h list 1 None
  ended_all told listed = record {
    facts = holding_facts h facts;
    nodes = nodes;
    told = λ _. told;
    listed = λ _. listed;
    over = λ e. absurd (none-some Over e);
  }

  -- a pass that was told that no ticket is left
  pub ended_over : 0 < h.ticket_ends → HoldsOfMany (IsNodeOfOne h.frame h.problem.depth h.cubes) (length h.tickets + 1) → HasEnded h list 1 (Some Over)
  ended_over told more = record {
    facts = holding_facts h facts;
    nodes = nodes;
    told = λ e. absurd (none-some Over (sym e));
    listed = λ e. absurd (none-some Over (sym e));
    over = λ _. record { told = told; more = more };
  }

  -- a pass without memory
  pub ended_memory : HasEnded h list 1 (Some Memory)
  ended_memory = record {
    facts = holding_facts h facts;
    nodes = nodes;
    told = λ e. absurd (none-some Memory (sym e));
    listed = λ e. absurd (none-some Memory (sym e));
    over = λ e. absurd (cc);
  }
