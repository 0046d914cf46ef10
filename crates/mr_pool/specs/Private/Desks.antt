-- What a desk has before and after its worker's turn, and what is gathered from the desks.
use Rattle.std.specs.Prelude.{◌≡◌, ◌≢◌, ℕ, ◌+◌, ◌<◌, List, [], ◌∷◌, ◌++◌, length, sum_by, All, replicate, Contains, Option, Some, None, slice_get}
use Rattle.mr_exchange.specs.declared.answer.CubeAnswer.{CubeAnswer}
use Rattle.mr_exchange.specs.Board.{Holding, new_holding}
use Rattle.mr_search.specs.Nodes.{HoldsOfMany}
use Rattle.mr_search.specs.Search.{AreNodes}
use Rattle.mr_store.specs.Cards.{StoreIs, CardIs, store_of, mark_of, held_by, HoldingFacts}
use Rattle.mr_pool.specs.declared.answered.Answered.{Answered}
use Rattle.mr_pool.specs.declared.desk.Desk.{Desk}
use Rattle.mr_pool.specs.declared.gather.Gathered.{Gathered}
use Rattle.mr_pool.specs.declared.workers.WorkStop.{WorkStop}
use Rattle.mr_pool.specs.declared.workers.WorkStop.TheVariants.{Over, Memory}
use Rattle.mr_pool.specs.Answers.{number_found}
use Rattle.mr_pool.specs.Private.Answers.{IsNodeOfOne}
use Rattle.mr_pool.specs.Private.Lists.{answered, answers_of, HasListed}

-- there is a card, and P holds of it
abbrev pub HasCard : (CardIs → Type 0) → Option CardIs → Type 0
HasCard P None = ⊥
HasCard P (Some card) = P card

-- the pass was told that no ticket is left, and its cubes have a node that it did not open
pub record IsWanting (h : Holding) : Type 0 where
  pub told : 0 < h.ticket_ends
  pub more : HoldsOfMany (IsNodeOfOne h.frame h.problem.depth h.cubes) (length h.tickets + 1)

-- What a pass has after its search: what it opened are different nodes of its cubes. Unless it stopped, it was told so often
-- that no cube is left, and the list has the answers of its cubes.
pub record HasEnded (h : Holding) (list : List Answered) (ends : ℕ) (stop : Option WorkStop) : Type 0 where
  pub facts : HoldingFacts h
  pub nodes : AreNodes (IsNodeOfOne h.frame h.problem.depth h.cubes) h.tickets
  pub told : stop ≡ None → h.claim_ends ≡ ends
  pub listed : stop ≡ None → HasListed h list
  pub over : stop ≡ Some Over → IsWanting h

-- a card of this store, whose pass joined no other, and has and knows nothing
pub record IsNewCard (store : StoreIs) (card : CardIs) : Type 0 where
  pub store_is : store_of card ≡ store
  pub alone : (mark_of card).joined ≡ []
  pub new : held_by card ≡ new_holding store.setting.frame store.setting.problem

-- a desk with such a card, before the turn of its worker, who has the number of the pass
abbrev pub IsNewDesk : StoreIs → Desk → Type 0
IsNewDesk store desk = HasCard (λ card. IsNewCard store card × ((mark_of card).number ≡ desk.worker)) desk.card × (desk.list.items ≡ [])

-- the same of a card that is not the first
abbrev pub IsOtherDesk : StoreIs → Desk → Type 0
IsOtherDesk store desk = HasCard (λ card. IsNewCard store card × ((mark_of card).number ≢ 0) × ((mark_of card).number ≡ desk.worker)) desk.card × (desk.list.items ≡ [])

-- all desks before the turns, the first card's at the end, of which so many were made
pub record AreNew (store : StoreIs) (desks : List Desk) : Type 0 where
  pub others : List Desk
  pub last : Desk
  pub is : desks ≡ others ++ last ∷ []
  pub new : All (IsOtherDesk store) others
  pub first : HasCard (λ card. IsNewCard store card × ((mark_of card).number ≡ 0) × ((mark_of card).made ≡ length desks) × ((mark_of card).number ≡ last.worker)) last.card
  pub list : last.list.items ≡ []

-- what a worker's turn changes: its pass is the same one, and searched
abbrev pub IsServed : Desk → Desk → Type 0
IsServed old new = HasCard (λ before. HasCard (λ card. (mark_of card ≡ mark_of before) × HasEnded (held_by card) new.list.items 1 new.stop) new.card) old.card

-- a card of this store, whose pass joined no other, and searched
pub record IsDoneCard (store : StoreIs) (desk : Desk) (card : CardIs) : Type 0 where
  pub store_is : store_of card ≡ store
  pub alone : (mark_of card).joined ≡ []
  pub ended : HasEnded (held_by card) desk.list.items 1 desk.stop

-- a desk with such a card that is not the first
abbrev pub IsDoneDesk : StoreIs → Desk → Type 0
IsDoneDesk store desk = HasCard (λ card. IsDoneCard store desk card × ((mark_of card).number ≢ 0)) desk.card

-- the desk of the first
abbrev pub IsFirstDone : StoreIs → Desk → Type 0
IsFirstDone store desk = HasCard (λ card. IsDoneCard store desk card × ((mark_of card).number ≡ 0)) desk.card

-- all desks after the turns, the first card's at the end
pub record AreDone (store : StoreIs) (desks : List Desk) : Type 0 where
  pub others : List Desk
  pub last : Desk
  pub is : desks ≡ others ++ last ∷ []
  pub done : All (IsDoneDesk store) others
  pub first : IsFirstDone store last
  pub made : HasCard (λ card. (mark_of card).made ≡ length desks) last.card

-- a row without answers
abbrev pub IsEmptyRow : StoreIs → List (Option CubeAnswer) → Type 0
IsEmptyRow store row = row ≡ replicate store.setting.problem.cubes None

-- how many completions are at a place
abbrev pub number_there : Option CubeAnswer → ℕ
number_there None = 0
number_there (Some answer) = number_found answer

-- the row has just the answers of the list, each at the place of its cube
pub record IsRowOf (row : List (Option CubeAnswer)) (list : List Answered) : Type 0 where
  pub there : (a : Answered) → Contains list a → slice_get row a.cube ≡ Some (Some a.answer)
  pub only : (c : ℕ) (answer : CubeAnswer) → slice_get row c ≡ Some (Some answer) → Contains list (answered c answer)
  pub number : sum_by number_there row ≡ sum_by number_found (answers_of list)

-- the stop of two passes: want of memory where either has it, else want of tickets where either has it
abbrev pub worse_of : Option WorkStop → Option WorkStop → Option WorkStop
worse_of None other = other
worse_of (Some Memory) other = Some Memory
worse_of (Some Over) None = Some Over
worse_of (Some Over) (Some other) = Some other

-- What is gathered: the card of the first pass, with what the passes that were joined have, and unless one of them stopped,
-- the row of their answers.
pub record HasGathered (store : StoreIs) (gathered : Gathered) : Type 0 where
  pub store_is : store_of gathered.card ≡ store
  pub number : (mark_of gathered.card).number ≡ 0
  pub room : length gathered.row.items ≡ store.setting.problem.cubes
  pub list : List Answered
  pub ended : HasEnded (held_by gathered.card) list (1 + length (mark_of gathered.card).joined) gathered.stop
  pub row : gathered.stop ≡ None → IsRowOf gathered.row.items list
