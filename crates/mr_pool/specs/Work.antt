-- What the workers leave.
use Rattle.std.specs.Prelude.{◌≡◌, ℕ, ◌+◌, ◌<◌, ◌≤◌, List, length, sum_by, Contains, Some, slice_get, []}
use Rattle.mr_exchange.specs.declared.answer.CubeAnswer.{CubeAnswer}
use Rattle.mr_exchange.specs.declared.answer.CubeAnswer.TheVariants.{Found}
use Rattle.mr_exchange.specs.Board.{new_holding}
use Rattle.mr_search.specs.Nodes.{IsNode, HoldsOfMany}
use Rattle.mr_search.specs.Search.{AreNodes, IsOpened}
use Rattle.mr_store.specs.Cards.{StoreIs, CardIs, mark_of, held_by}
use Rattle.mr_exchange.specs.Right.{AreAnswers}
use Rattle.mr_pool.specs.Answers.{AreFirst, number_found}

-- pass 0 of a store in which no other pass was made, which has and knows nothing
pub record IsFirst (store : StoreIs) (card : CardIs) : Type 0 where
  pub mark : mark_of card ≡ record { store = store; number = 0; made = 1; joined = [] }
  pub new : held_by card ≡ new_holding store.setting.frame store.setting.problem

-- pass 0 of the store, all others were joined into it, and its tickets are for different nodes, no more than there are
pub record IsGathered (store : StoreIs) (card : CardIs) : Type 0 where
  pub store_is : (mark_of card).store ≡ store
  pub number : (mark_of card).number ≡ 0
  pub all : 1 + length (mark_of card).joined ≡ (mark_of card).made
  pub nodes : AreNodes (IsNode store.setting.frame store.setting.problem.depth) (held_by card).tickets
  pub most : HoldsOfMany (IsNode store.setting.frame store.setting.problem.depth) (length (held_by card).tickets)

-- All cubes were claimed, by the passes of so many workers, which were joined, and the answers are right for the rows that the card knows. Each completion that was
-- found was opened, and there are no more of them than tickets.
pub record IsWorked (store : StoreIs) (workers : ℕ) (card : CardIs) (answers : List CubeAnswer) : Type 0 where
  pub cubes : (c : ℕ) → c < store.setting.problem.cubes → Contains (held_by card).cubes c
  pub claimed : length (held_by card).cubes ≡ store.setting.problem.cubes
  pub ends : (held_by card).claim_ends ≡ workers
  pub made : (mark_of card).made ≡ workers
  pub joined : 1 + length (mark_of card).joined ≡ workers
  pub answers_are : AreAnswers store.setting.frame store.setting.problem (held_by card).known answers
  pub first : AreFirst store.setting.frame store.setting.problem answers
  pub opened : (c : ℕ) (xs : List (List ℕ)) (a : List ℕ) → slice_get answers c ≡ Some (Found xs) → Contains xs a → IsOpened (held_by card).tickets a
  pub found : sum_by number_found answers ≤ length (held_by card).tickets

-- The card was told that no ticket is left, it has as many as there may be, and there is a node that was not opened.
pub record IsOut (store : StoreIs) (card : CardIs) : Type 0 where
  pub told : 0 < (held_by card).ticket_ends
  pub spent : length (held_by card).tickets ≡ store.setting.problem.nodes
  pub more : HoldsOfMany (IsNode store.setting.frame store.setting.problem.depth) (length (held_by card).tickets + 1)
