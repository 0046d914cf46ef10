-- What the fields hold after each event.
use Rattle.std.proofs.Common.{◌≡◌, ◌≢◌, ℕ, zero, suc, ◌+◌, ◌<◌, List, [], ◌∷◌, ◌++◌, length, get_or, set, Option, Some, refl, sym, ap, ◌∙◌, subst, arith}
use Rattle.std.proofs.lemmas.List.{get_or_default, get_or-set_other, get_or_append_left, set-append_left}
use Rattle.mr_nogood.specs.declared.row.Row.{Row}
use Rattle.mr_nogood.specs.Follows.{Rows, in_slots}
use Rattle.mr_exchange.specs.declared.event.Event.{Event}
use Rattle.mr_exchange.specs.declared.event.Event.TheVariants.{Claim, OpenNode, LookAt, Publish, Split, Join}
use Rattle.mr_exchange.specs.declared.event.Look.{Look}
use Rattle.mr_exchange.specs.declared.event.Reply.{Reply}
use Rattle.mr_exchange.specs.declared.event.Reply.TheVariants.{Seen}
use Rattle.mr_exchange.specs.State.{Pass, State, spent, new_pass, pass_at, IsLive}
use Rattle.mr_exchange.specs.Events.{IsAllowedEvent, MayClaim, MayOpen, MayLook, MayPublish, MayJoin, state_after, claimed, opened, looked, published, joins, reply_of, seen}
use Rattle.mr_exchange.specs.Held.{Held, state_of}
use Rattle.mr_exchange.specs.Private.Held.{IsHeld}
use Rattle.mr_exchange.proofs.Lookups.{within}
use Rattle.mr_exchange.proofs.Holding.{in_slots_read, in_slots-set, held_after}
use Rattle.mr_exchange.proofs.Bounds.{own_within, cursor_within}

-- the pass that was read, where it is live
pub read_pass : (g : Held) (k : ℕ) (p : Pass) → IsLive (state_of g) k → p ≡ get_or g.passes k p → p ≡ pass_at (state_of g) k
read_pass g k p live read = read ∙ get_or_default g.passes k p spent (within g.passes k live)

-- what the fields hold after an event that is allowed
pub then_held : (g old new : Held) (e : Event) → g ≡ old → IsHeld g → IsAllowedEvent (state_of old) e → (IsAllowedEvent (state_of g) e → state_of new ≡ state_after (state_of g) e) → length new.slots ≡ length g.slots → IsHeld new
then_held g old new e view is may same long = let allowed = subst (λ (h : Held). IsAllowedEvent (state_of h) e) (sym view) may in held_after g new e is allowed (same allowed) long

-- the state after it, by what was held before
pub then_same : (g old : Held) (t : State) (e : Event) → g ≡ old → IsAllowedEvent (state_of old) e → (IsAllowedEvent (state_of g) e → t ≡ state_after (state_of g) e) → t ≡ state_after (state_of old) e
then_same g old t e view may same = subst (λ (h : Held). t ≡ state_after (state_of h) e) view (same (subst (λ (h : Held). IsAllowedEvent (state_of h) e) (sym view) may))

-- and what it answers
pub then_answers : (g old : Held) (x : Reply) (e : Event) → g ≡ old → IsAllowedEvent (state_of old) e → (IsAllowedEvent (state_of g) e → x ≡ reply_of (state_of g) e) → x ≡ reply_of (state_of old) e
then_answers g old x e view may same = subst (λ (h : Held). x ≡ reply_of (state_of h) e) view (same (subst (λ (h : Held). IsAllowedEvent (state_of h) e) (sym view) may))

-- what was read is what was looked at
pub as_read : {A : Type 0} (xs : List A) (k : ℕ) (v r : A) → v ≡ r → r ≡ get_or xs k r → v ≡ get_or xs k v
as_read xs k v r same read = subst (λ x. x ≡ get_or xs k x) (sym same) read

module _ (g : Held) (k : ℕ) (p w : Pass) (read : p ≡ get_or g.passes k p) where
  -- after a claim
  pub claim_same : MayClaim (state_of g) k → w ≡ claimed g.problem.cubes g.claim p → state_of (record g { claim = g.claim + 1; passes = set g.passes k w }) ≡ state_after (state_of g) (Claim k)
  claim_same may new = ap (λ (q : Pass). state_of (record g { claim = g.claim + 1; passes = set g.passes k q })) (new ∙ ap (claimed g.problem.cubes g.claim) (read_pass g k p may.live read))

  -- after a node was opened
  pub open_same : (node : List ℕ) → MayOpen (state_of g) k node → w ≡ opened g.problem.nodes g.ticket node p → state_of (record g { ticket = g.ticket + 1; passes = set g.passes k w }) ≡ state_after (state_of g) (OpenNode k node)
  open_same node may new = ap (λ (q : Pass). state_of (record g { ticket = g.ticket + 1; passes = set g.passes k q })) (new ∙ ap (opened g.problem.nodes g.ticket node) (read_pass g k p may.live read))

  -- the cursor is at one of the slots
  pub cursor_read : IsHeld g → MayLook (state_of g) k → p.cursor < length g.slots
  cursor_read is may = subst (λ (q : Pass). q.cursor < length g.slots) (sym (read_pass g k p may.live read)) (cursor_within g is k may)

  -- the row at the cursor
  pub row_looked_at : (row : Option Row) → IsHeld g → MayLook (state_of g) k → row ≡ get_or g.slots p.cursor row → row ≡ in_slots g.slots (pass_at (state_of g) k).cursor
  row_looked_at row is may found =
      let e : p.cursor ≡ (pass_at (state_of g) k).cursor = ap (λ (q : Pass). q.cursor) (read_pass g k p may.live read) in
      found ∙ ap (λ i. get_or g.slots i row) e ∙ sym (in_slots_read g.slots (pass_at (state_of g) k).cursor row (cursor_within g is k may))

  -- after a look
  pub look_same : (row : Option Row) → IsHeld g → MayLook (state_of g) k → row ≡ get_or g.slots p.cursor row → w ≡ looked g.problem.nodes (λ _. row) p → state_of (record g { passes = set g.passes k w }) ≡ state_after (state_of g) (LookAt k)
  look_same row is may found new =
      ap (λ (q : Pass). state_of (record g { passes = set g.passes k q }))
      (new ∙ ap (looked g.problem.nodes (λ _. row)) (read_pass g k p may.live read)
      ∙ ap (λ (r : Option Row). looked g.problem.nodes (λ _. r) (pass_at (state_of g) k)) (row_looked_at row is may found))

  -- what a look answers
  pub look_answers : (row : Option Row) (x : Look) → IsHeld g → MayLook (state_of g) k → row ≡ get_or g.slots p.cursor row → x ≡ seen p.cursor row → Seen x ≡ reply_of (state_of g) (LookAt k)
  look_answers row x is may found shown =
      ap Seen (shown ∙ ap (λ (q : Pass). seen q.cursor row) (read_pass g k p may.live read) ∙ ap (seen (pass_at (state_of g) k).cursor) (row_looked_at row is may found))

  -- after a row was published
  pub publish_same : (slot : ℕ) (row : Row) → IsHeld g → MayPublish (state_of g) k slot row → w ≡ published slot p → state_of (record g { passes = set g.passes k w; slots = set g.slots slot (Some row) }) ≡ state_after (state_of g) (Publish k slot row)
  publish_same slot row is may new =
      ap (λ (q : Pass). state_of (record g { passes = set g.passes k q; slots = set g.slots slot (Some row) })) (new ∙ ap (published slot) (read_pass g k p may.live read))
      ∙ ap (λ (rows : Rows). rowed (published slot (pass_at (state_of g) k)) rows) (in_slots-set g.slots slot row (own_within g is k slot may.live may.own))
    where
      rowed : Pass → Rows → State
      rowed q rows = record { frame = g.frame; problem = g.problem; limit = g.limit; claim = g.claim; ticket = g.ticket; passes = set g.passes k q; rows = rows }

-- after a split
pub split_same : (g : Held) (p q u : Pass) (xs : List Pass) → IsHeld g → p ≡ get_or g.passes 0 p → xs ≡ g.passes ++ u ∷ [] → u ≡ new_pass p.made → q ≡ get_or xs 0 q → state_of (record g { passes = set xs 0 (record q { made = p.made + 1 }) }) ≡ state_after (state_of g) Split
split_same g p q u xs is read pushed new again =
    let live = is.sound.passes.first in
    let lt = within g.passes 0 live in
    let first : p ≡ pass_at (state_of g) 0 = read_pass g 0 p live read in
    let same : q ≡ pass_at (state_of g) 0 = again ∙ ap (λ (ys : List Pass). get_or ys 0 q) pushed ∙ get_or_append_left g.passes (u ∷ []) q 0 lt ∙ get_or_default g.passes 0 q spent lt in
    ap (λ (ys : List Pass). state_of (record g { passes = ys }))
    (ap (λ (ys : List Pass). set ys 0 (record q { made = p.made + 1 })) pushed
    ∙ set-append_left g.passes (u ∷ []) 0 (record q { made = p.made + 1 }) lt
    ∙ ap (λ (v : Pass). set g.passes 0 (record q { made = p.made + 1 }) ++ v ∷ []) new
    ∙ ap (λ (v : Pass). set g.passes 0 (record q { made = v.made + 1 }) ++ new_pass v.made ∷ []) first
    ∙ ap (λ (v : Pass). set g.passes 0 (record v { made = (pass_at (state_of g) 0).made + 1 }) ++ new_pass (pass_at (state_of g) 0).made ∷ []) same)

-- where two passes of a list change, the order does not matter
set_both : (xs : List Pass) (k : ℕ) (x w : Pass) → k ≢ 0 → k < length xs → set (set xs k x) 0 w ≡ set (set xs 0 w) k x
set_both [] k x w other lt = absurd (omega arith)
set_both (y ∷ xs) zero x w other lt = absurd (other refl)
set_both (y ∷ xs) (suc k) x w other lt = refl

-- the first pass is as it was
first_else : (xs : List Pass) (k : ℕ) (x d : Pass) → k ≢ 0 → get_or (set xs k x) 0 d ≡ get_or xs 0 d
first_else xs k x d other = get_or-set_other xs k 0 x d (λ e. other (sym e))

-- a pass that was put back
set_back : {A : Type 0} (xs : List A) (k : ℕ) (x d : A) → set (set xs k x) k (get_or xs k d) ≡ xs
set_back [] k x d = refl
set_back (y ∷ xs) zero x d = refl
set_back (y ∷ xs) (suc k) x d = ap (λ ys. y ∷ ys) (set_back xs k x d)

-- a pass that was put back beside the first
put_back : (xs : List Pass) (k : ℕ) (x p q : Pass) → k ≢ 0 → k < length xs → p ≡ get_or (set xs k x) 0 p → q ≡ get_or xs k q → set (set (set xs k x) 0 p) k q ≡ xs
put_back [] k x p q other lt first last = absurd (omega arith)
put_back (y ∷ xs) zero x p q other lt first last = absurd (other refl)
put_back (y ∷ xs) (suc k) x p q other lt first last = ap (λ z. z ∷ set (set xs k x) k q) first ∙ ap (λ ys. y ∷ ys) (ap (set (set xs k x) k) last ∙ set_back xs k x q)

module _ (g : Held) (k : ℕ) (x p q w : Pass) (may : MayJoin (state_of g) k) (left : x ≡ spent) (first : p ≡ get_or (set g.passes k x) 0 p) (last : q ≡ get_or g.passes k q) where
  -- the fields where the first pass stayed and the other was put back
  pub join_undone : w ≡ p → record g { passes = set (set (set g.passes k x) 0 w) k q } ≡ g
  join_undone same =
      ap (λ (y : Pass). (let h : Held = record g { passes = set (set (set g.passes k x) 0 y) k q } in h)) same
      ∙ ap (λ (xs : List Pass). (let h : Held = record g { passes = xs } in h)) (put_back g.passes k x p q may.other (within g.passes k may.live) first last)

  -- the first pass, as it was read
  pub first_read : p ≡ pass_at (state_of g) 0
  first_read =
      let lt = within g.passes k may.live in
      first ∙ first_else g.passes k x p may.other ∙ get_or_default g.passes 0 p spent (omega arith)

  -- after a join
  pub join_same : w ≡ joins p q → state_of (record g { passes = set (set g.passes k x) 0 w }) ≡ state_after (state_of g) (Join k)
  join_same new =
      ap (λ (xs : List Pass). state_of (record g { passes = xs }))
      (set_both g.passes k x w may.other (within g.passes k may.live)
      ∙ ap (λ (y : Pass). set (set g.passes 0 w) k y) left
      ∙ ap (λ (y : Pass). set (set g.passes 0 y) k spent) (new ∙ ap (λ (y : Pass). joins y q) first_read ∙ ap (joins (pass_at (state_of g) 0)) (read_pass g k q may.live last)))
