-- What two passes answered is what both did together.
use Rattle.std.proofs.Common.{◌≡◌, ℕ, zero, suc, ◌+◌, ◌<◌, List, [], ◌∷◌, ◌++◌, length, length-append, sum_by, refl, sym, ap, subst, ◌∙◌, ◌⊎◌, inl, inr, ⊎_elim, arith, Contains, Some}
use Rattle.std.specs.Prelude.{slice_get}
use Rattle.std.proofs.lemmas.List.Elements.{Contains-append_left, Contains-append_right}
use Rattle.std.proofs.lemmas.Option.{slice_get_within}
use Rattle.mr_frame.specs.Frame.{Framed}
use Rattle.mr_frame.specs.Test.{IsFirstFailing}
use Rattle.mr_nogood.specs.Follows.{Rows}
use Rattle.mr_nogood.specs.declared.row.Row.{Row}
use Rattle.mr_nogood.specs.declared.row.Cite.TheVariants.{Test}
use Rattle.mr_exchange.specs.declared.ticket.Ticket.{Ticket}
use Rattle.mr_exchange.specs.declared.answer.CubeAnswer.{CubeAnswer}
use Rattle.mr_exchange.specs.declared.answer.CubeAnswer.TheVariants.{Found, Refuted}
use Rattle.mr_exchange.specs.Cubes.{cube_at, cube_count}
use Rattle.mr_exchange.specs.Right.{IsRight}
use Rattle.mr_search.specs.Nodes.{IsNodeOfCube, HoldsOfMany}
use Rattle.mr_search.specs.Search.{AreNodes}
use Rattle.mr_search.specs.Laws.{AreShared}
use Rattle.mr_search.proofs.Listing.{nodes_append, nodes_map, opened_left, opened_right}
use Rattle.mr_pool.specs.Answers.{number_found}
use Rattle.mr_pool.specs.Private.Answers.{IsNodeOfOne, HasAnswered}
use Rattle.std.proofs.lemmas.List.Sums.{fold-append, sum_by_from}
use Rattle.mr_pool.proofs.Places.{many_join}
use Rattle.mr_pool.proofs.Serving.{still_right}

-- what stands at a place of two lists that are put together
pub record IsLater {X : Type 0} (xs ys : List X) (k : ℕ) (z : X) : Type 0 where
  pub place : ℕ
  pub is : k ≡ length xs + place
  pub there : slice_get ys place ≡ Some z

-- it stands in the first, or behind it
get_append : {X : Type 0} (xs ys : List X) (k : ℕ) (z : X) → slice_get (xs ++ ys) k ≡ Some z → (slice_get xs k ≡ Some z) ⊎ IsLater xs ys k z
get_append [] ys k z e = inr (record { place = k; is = (let same : k ≡ 0 + k = omega arith in same); there = e })
get_append (x ∷ xs) ys zero z e = inl e
get_append (x ∷ xs) ys (suc k) z e = ⊎_elim
    (λ (old : slice_get xs k ≡ Some z). inl old)
    (λ (late : IsLater xs ys k z). inr (record { place = late.place; is = (let was = late.is in omega arith); there = late.there }))
    (get_append xs ys k z e)

-- the sum over both
sum_append : {X : Type 0} (g : X → ℕ) (xs ys : List X) → sum_by g (xs ++ ys) ≡ sum_by g xs + sum_by g ys
sum_append g xs ys = fold-append (λ a x. a + g x) 0 xs ys ∙ sum_by_from g (sum_by g xs) ys

-- what holds of the answer at a place of both, where it holds of each
module _ (P : ℕ → CubeAnswer → Type 0) (cubes others : List ℕ) (answers further : List CubeAnswer) (same : length answers ≡ length cubes) where
  both_at : ((k c : ℕ) (z : CubeAnswer) → slice_get cubes k ≡ Some c → slice_get answers k ≡ Some z → P c z) → ((k c : ℕ) (z : CubeAnswer) → slice_get others k ≡ Some c → slice_get further k ≡ Some z → P c z)
      → (k c : ℕ) (z : CubeAnswer) → slice_get (cubes ++ others) k ≡ Some c → slice_get (answers ++ further) k ≡ Some z → P c z
  both_at first second k c z at there = ⊎_elim
      (λ (old : slice_get answers k ≡ Some z). ⊎_elim
      (λ (before : slice_get cubes k ≡ Some c). first k c z before old)
      (λ (late : IsLater cubes others k c). (let in_list = slice_get_within answers k z old in let is = late.is in absurd (omega arith)))
      (get_append cubes others k c at))
      (λ (new : IsLater answers further k z). ⊎_elim
      (λ (before : slice_get cubes k ≡ Some c). (let in_list = slice_get_within cubes k c before in let is = new.is in absurd (omega arith)))
      (λ (late : IsLater cubes others k c). (let place : new.place ≡ late.place = (let a = new.is in let b = late.is in omega arith) in
      second late.place c z late.there (subst (λ i. slice_get further i ≡ Some z) place new.there)))
      (get_append cubes others k c at))
      (get_append answers further k z there)

-- Two passes have no cube in common.
module _ (f : Framed) (depth : ℕ) (shared : AreShared f depth) (cubes others : List ℕ) (low : (c : ℕ) → Contains cubes c → c < cube_count f depth) (low' : (c : ℕ) → Contains others c → c < cube_count f depth) (apart : (c : ℕ) → Contains cubes c → ¬ (Contains others c)) where
  -- a node of the first is one of both
  of_first : (a : List ℕ) → IsNodeOfOne f depth cubes a → IsNodeOfOne f depth (cubes ++ others) a
  of_first a node = record { cube = node.cube; among = Contains-append_left cubes others node.cube node.among; is = node.is }

  -- so is one of the second
  of_second : (a : List ℕ) → IsNodeOfOne f depth others a → IsNodeOfOne f depth (cubes ++ others) a
  of_second a node = record { cube = node.cube; among = Contains-append_right cubes others node.cube node.among; is = node.is }

  -- no node is one of each
  nodes_apart : (a : List ℕ) → IsNodeOfOne f depth cubes a → ¬ (IsNodeOfOne f depth others a)
  nodes_apart a p q = apart p.cube p.among (subst (Contains others) (sym (shared.one p.cube q.cube a (low p.cube p.among) (low' q.cube q.among) p.is q.is)) q.among)

  -- what both opened are different nodes
  pub joined_nodes : (tickets more : List Ticket) → AreNodes (IsNodeOfOne f depth cubes) tickets → AreNodes (IsNodeOfOne f depth others) more → AreNodes (IsNodeOfOne f depth (cubes ++ others)) (tickets ++ more)
  joined_nodes tickets more first second = nodes_append (IsNodeOfOne f depth (cubes ++ others)) tickets more
      (nodes_map (IsNodeOfOne f depth cubes) (IsNodeOfOne f depth (cubes ++ others)) tickets of_first first)
      (nodes_map (IsNodeOfOne f depth others) (IsNodeOfOne f depth (cubes ++ others)) more of_second second)
      (λ s t x y same. nodes_apart t.node (subst (IsNodeOfOne f depth cubes) same (first.each s x)) (second.each t y))

  -- there are as many nodes together
  pub joined_many : (m n : ℕ) → HoldsOfMany (IsNodeOfOne f depth cubes) m → HoldsOfMany (IsNodeOfOne f depth others) n → HoldsOfMany (IsNodeOfOne f depth (cubes ++ others)) (m + n)
  joined_many m n = many_join (IsNodeOfOne f depth cubes) (IsNodeOfOne f depth others) (IsNodeOfOne f depth (cubes ++ others)) m n of_first of_second nodes_apart

-- Two passes have no cube in common: what both answered, where the rows that each knew are known.
pub joined : (f : Framed) (depth : ℕ) → AreShared f depth → (cubes others : List ℕ) → ((c : ℕ) → Contains cubes c → c < cube_count f depth) → ((c : ℕ) → Contains others c → c < cube_count f depth) → ((c : ℕ) → Contains cubes c → ¬ (Contains others c))
    → (tickets more : List Ticket) (rows rows' all : Rows) (answers further : List CubeAnswer) → ((s : ℕ) (row : Row) → rows s ≡ Some row → all s ≡ Some row) → ((s : ℕ) (row : Row) → rows' s ≡ Some row → all s ≡ Some row)
    → HasAnswered f depth cubes tickets rows answers → HasAnswered f depth others more rows' further → HasAnswered f depth (cubes ++ others) (tickets ++ more) all (answers ++ further)
joined f depth shared cubes others low low' apart tickets more rows rows' all answers further grows grows' first second = record {
  count = (let a = length-append answers further in let b = length-append cubes others in let c = first.count in let d = second.count in omega arith);
  right = both_at (λ c z. IsRight f all (cube_at f depth c) z) cubes others answers further first.count
      (λ k c z at there. still_right f rows all (cube_at f depth c) z grows (first.right k c z at there))
      (λ k c z at there. still_right f rows' all (cube_at f depth c) z grows' (second.right k c z at there));
  first = λ k c x at there. both_at (λ c z. z ≡ Refuted (Test x) → IsFirstFailing f (cube_at f depth c) x) cubes others answers further first.count
      (λ k c z at there is. first.first k c x at (there ∙ ap Some is))
      (λ k c z at there is. second.first k c x at (there ∙ ap Some is)) k c (Refuted (Test x)) at there refl;
  opened = λ k xs c there has. ⊎_elim
      (λ (old : slice_get answers k ≡ Some (Found xs)). opened_left tickets more c (first.opened k xs c old has))
      (λ (late : IsLater answers further k (Found xs)). opened_right tickets more c (second.opened late.place xs c late.there has))
      (get_append answers further k (Found xs) there);
  few = (let a = length-append tickets more in let b = sum_append number_found answers further in let c = first.few in let d = second.few in omega arith);
  nodes = joined_nodes f depth shared cubes others low low' apart tickets more first.nodes second.nodes;
}
