-- What the tests keep of a pass that claimed one cube and opened it, and of the cards of a store.
use Rattle.std.specs.Prelude.{◌≡◌, ◌≢◌, ℕ, ◌+◌, List, [], ◌∷◌, length, None}
use Rattle.mr_exchange.specs.State.{slots_of}
use Rattle.mr_exchange.specs.Events.{IsNodeOf}
use Rattle.mr_exchange.specs.Board.{Holding, new_holding, Avoids}
use Rattle.mr_store.specs.Cards.{StoreIs, CardIs, store_of, mark_of, held_by}

-- it has and knows nothing
abbrev pub IsNew : Holding → Type 0
IsNew h = h ≡ new_holding h.frame h.problem

-- it has this cube and nothing else
pub record HasClaimed (h : Holding) (cube : ℕ) : Type 0 where
  pub is : h ≡ record (new_holding h.frame h.problem) { cubes = cube ∷ [] }

-- it has this ticket, knows no row, and was not told that no cube is left
pub record HasOpened (h : Holding) (ticket : ℕ) : Type 0 where
  pub no_end : h.claim_ends ≡ 0
  pub tickets : slots_of h.tickets ≡ ticket ∷ []
  pub some : h.tickets ≢ []
  pub known : (slot : ℕ) → h.known slot ≡ None

-- it has one ticket and was not told that none is left, and the node is one of its cubes that avoids the rows that it knows
pub record IsLooking (h : Holding) (node : List ℕ) : Type 0 where
  pub no_end : h.ticket_ends ≡ 0
  pub one : length h.tickets ≡ 1
  pub is_node : IsNodeOf h.frame h.problem.depth h.cubes node
  pub avoids : Avoids h.known node

-- the card is one of this store, its pass has and knows nothing, and no other was joined into it
pub record IsFresh (s : StoreIs) (c : CardIs) : Type 0 where
  pub store : store_of c ≡ s
  pub alone : (mark_of c).joined ≡ []
  pub nothing : IsNew (held_by c)

-- such a card of the first pass, of so many that were made
pub record IsFirst (s : StoreIs) (made : ℕ) (c : CardIs) : Type 0 where
  pub fresh : IsFresh s c
  pub number : (mark_of c).number ≡ 0
  pub made_is : (mark_of c).made ≡ made

-- The card is one of this store, its pass has this number, and no other was joined into it. So many passes were made, where it is the first.
pub record IsRacer (s : StoreIs) (made number : ℕ) (c : CardIs) : Type 0 where
  pub store : store_of c ≡ s
  pub alone : (mark_of c).joined ≡ []
  pub number_is : (mark_of c).number ≡ number
  pub made_is : number ≡ 0 → (mark_of c).made ≡ made

-- and it has and knows nothing
pub record IsReady (s : StoreIs) (made number : ℕ) (c : CardIs) : Type 0 where
  pub racer : IsRacer s made number c
  pub fresh : IsFresh s c

-- The card of the first pass, into which all others that were made were joined but so many.
pub record IsGathered (s : StoreIs) (left : ℕ) (c : CardIs) : Type 0 where
  pub store : store_of c ≡ s
  pub number : (mark_of c).number ≡ 0
  pub count : 1 + length (mark_of c).joined + left ≡ (mark_of c).made
