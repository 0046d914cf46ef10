-- Cites for shorter and shorter assignments of the first positions.
use Rattle.std.proofs.Common.{◌≡◌, ℕ, zero, suc, ◌+◌, ◌-◌, ◌*◌, ◌^◌, ◌<◌, ◌≤◌, List, [], ◌∷◌, ◌++◌, length, get_or, Option, Some, refl, sym, ap, ◌∙◌, subst, inl, inr, ⊎_elim, arith, pow-suc}
use Rattle.std.proofs.lemmas.Bool.{cases_lt}
use Rattle.std.proofs.Math.Nat.{pow-zero, pow-le-pow_left}
use Rattle.std.proofs.lemmas.Nat.{mul-le}
use Rattle.std.proofs.lemmas.List.{length_push, get_or_append_left, get_or_push, get_or_read}
use Rattle.mr_field.specs.Gf.{order}
use Rattle.mr_assign.specs.Assign.{no_values}
use Rattle.mr_frame.specs.Frame.{Framed, IsFrame}
use Rattle.mr_nogood.specs.declared.row.Row.{Row}
use Rattle.mr_nogood.specs.declared.row.Cite.{Cite}
use Rattle.mr_nogood.specs.declared.row.Cite.TheVariants.{Nothing, Slot}
use Rattle.mr_nogood.specs.Row.{cite_for}
use Rattle.mr_nogood.specs.Follows.{in_slots}
use Rattle.mr_exchange.specs.declared.problem.Problem.{Problem}
use Rattle.mr_exchange.specs.declared.answer.CubeAnswer.TheVariants.{Refuted}
use Rattle.mr_exchange.specs.declared.TheConstants.{SPLIT}
use Rattle.mr_exchange.specs.Cubes.{IsProblemOf, cube_at, values_at, cube_count}
use Rattle.mr_exchange.specs.Right.{IsRight}
use Rattle.mr_exchange.proofs.CubesInOrder.{few_elements}
use Rattle.mr_exchange.proofs.Bounds.{depth_is}
use Rattle.mr_exchange.proofs.Digits.{few_cubes}
use Rattle.mr_merge.specs.declared.TheConstants.{PREFIXES}
use Rattle.mr_merge.specs.Table.{TableIs, table_is, all_rows}
use Rattle.mr_merge.specs.Prefixes.{HaveRanksFrom}
use Rattle.mr_merge.specs.Private.Table.{AreSupported}
use Rattle.mr_merge.specs.Private.Prefixes.{prefix_count, AreCited, HaveAdded, HasAdded, AreAddedFrom}
use Rattle.mr_merge.proofs.Prefixing.{in_more, in_last, right_more, supported_more, prefix_follows}
use Rattle.mr_merge.proofs.Adding.{all_rows-push, length-all_rows, ranks_none, ranks_append, added_none, added_more, added_at_first, added_level}

-- the assignments of the level have cites, and the rows that were added for it and for longer ones are supported
pub record IsBrought (f : Framed) (problem : Problem) (first : List Cite) (before : TableIs) (level : ℕ) (cites : List Cite) (after : TableIs) : Type 0 where
  pub low : level ≤ problem.depth
  pub rows : AreSupported f (all_rows after)
  pub cited : AreCited f (in_slots (all_rows after)) level (cube_count f level) cites
  pub board : after.board ≡ before.board
  pub added : AreAddedFrom f problem.depth level after.added
  pub ranks : HaveRanksFrom (length before.board) after.added
  pub same : problem.depth ≡ 0 → cites ≡ first

-- the first c assignments of the level have cites, and those of one position more still have
pub record IsShortened (f : Framed) (level : ℕ) (longer : List Cite) (before : TableIs) (c : ℕ) (cites : List Cite) (after : TableIs) : Type 0 where
  pub rows : AreSupported f (all_rows after)
  pub longer_cited : AreCited f (in_slots (all_rows after)) (suc level) (cube_count f (suc level)) longer
  pub cited : AreCited f (in_slots (all_rows after)) level c cites
  pub added : HaveAdded f level c before after

-- at first none has
pub shortened_none : (f : Framed) (level : ℕ) (longer : List Cite) (t : TableIs) → AreSupported f (all_rows t) → AreCited f (in_slots (all_rows t)) (suc level) (cube_count f (suc level)) longer → IsShortened f level longer t 0 [] t
shortened_none f level longer t rows cited = record {
  rows = rows;
  longer_cited = cited;
  cited = record { count = refl; right = λ c lt. absurd (omega arith) };
  added = added_none f level t;
}

-- cites stay right where rows are added
kept_right : (f : Framed) (level c : ℕ) (t after : TableIs) (a : List ℕ) (cite : Cite) → HasAdded f level c t after → IsRight f (in_slots (all_rows t)) a (Refuted cite) → IsRight f (in_slots (all_rows after)) a (Refuted cite)
kept_right f level c t after a cite (inl same) right = subst (λ (x : TableIs). IsRight f (in_slots (all_rows x)) a (Refuted cite)) (sym same) right
kept_right f level c t after a cite (inr (row, is, at, rank)) right =
    subst (λ (x : TableIs). IsRight f (in_slots (all_rows x)) a (Refuted cite)) (sym is)
    (subst (λ (rows : List (Option Row)). IsRight f (in_slots rows) a (Refuted cite)) (sym (all_rows-push t row)) (right_more f (in_slots (all_rows t)) (in_slots (all_rows t ++ Some row ∷ [])) a cite (in_more (all_rows t) (Some row)) right))

-- one assignment more has a cite
pub shortened_more : (f : Framed) (level : ℕ) (longer : List Cite) (before : TableIs) (c : ℕ) (cites : List Cite) (t after : TableIs) (cite : Cite) → IsFrame f → level ≤ length f.places → c < cube_count f level
    → IsShortened f level longer before c cites t → AreSupported f (all_rows after) → HasAdded f level c t after → IsRight f (in_slots (all_rows after)) (cube_at f level c) (Refuted cite)
    → IsShortened f level longer before (c + 1) (cites ++ cite ∷ []) after
shortened_more f level longer before c cites t after cite frame free low h rows added right = record {
  rows = rows;
  longer_cited = record { count = h.longer_cited.count; right = λ b lt. kept_right f level c t after (cube_at f (suc level) b) (get_or longer b Nothing) added (h.longer_cited.right b lt) };
  cited = record {
    count = (let long = h.cited.count in omega (arith, length_push cites cite));
    right = λ b lt. ⊎_elim
        (λ (less : b < c). subst (λ (x : Cite). IsRight f (in_slots (all_rows after)) (cube_at f level b) (Refuted x)) (sym (get_or_append_left cites (cite ∷ []) Nothing b (let long = h.cited.count in omega arith)))
        (kept_right f level c t after (cube_at f level b) (get_or cites b Nothing) added (h.cited.right b less)))
        (λ (past : c ≤ b).
        let same : b ≡ c = omega arith in
        let last : get_or (cites ++ cite ∷ []) c Nothing ≡ cite = get_or_push cites cite Nothing c h.cited.count in
        subst (λ (i : ℕ). IsRight f (in_slots (all_rows after)) (cube_at f level i) (Refuted (get_or (cites ++ cite ∷ []) i Nothing))) (sym same) (subst (λ (x : Cite). IsRight f (in_slots (all_rows after)) (cube_at f level c) (Refuted x)) (sym last) right))
        (cases_lt b c);
  };
  added = added_more f frame level c free low before t after h.added added;
}

module _ (f : Framed) (level c : ℕ) (t after : TableIs) (row : Row) (slot : ℕ) (is : after ≡ table_is t.board (t.added ++ row ∷ [])) (at : slot ≡ length (all_rows t)) where
  -- all rows with the new one
  all_is : all_rows after ≡ all_rows t ++ Some row ∷ []
  all_is = ap all_rows is ∙ all_rows-push t row

  -- the row that was added refutes its assignment
  pub new_right : row.clause ≡ cube_at f level c → IsRight f (in_slots (all_rows after)) (cube_at f level c) (Refuted (Slot slot))
  new_right clause =
      let there : in_slots (all_rows after) slot ≡ Some row =
      subst (λ (rows : List (Option Row)). in_slots rows slot ≡ Some row) (sym all_is) (subst (λ (i : ℕ). in_slots (all_rows t ++ Some row ∷ []) i ≡ Some row) (sym at) (in_last (all_rows t) (Some row))) in
      (row, there, λ p some. ap (λ (a : List ℕ). get_or a p 0) (sym clause))

  -- and is supported
  pub new_supported : (children : List Cite) → IsFrame f → level < length f.places → c < cube_count f level → AreSupported f (all_rows t) → length children ≡ order f.field - 1
      → ((v : ℕ) → v < length children → IsRight f (in_slots (all_rows t)) (cube_at f (suc level) (c * (order f.field - 1) + v)) (Refuted (get_or children v Nothing)))
      → row.rank ≡ slot → row.at ≡ level → row.clause ≡ cube_at f level c → ((k : ℕ) → cite_for row k ≡ get_or children k Nothing) → AreSupported f (all_rows after)
  new_supported children frame free low supported count right rank place clause cites =
      subst (AreSupported f) (sym all_is) (supported_more f (all_rows t) row supported
      (prefix_follows f frame level c free low (all_rows t) children row supported count right (rank ∙ at) place clause cites) (rank ∙ at))

-- the children of one more assignment are within those of all
pub children_within : (f : Framed) (level c k n : ℕ) → k ≡ order f.field - 1 → c < cube_count f level → n ≡ cube_count f (suc level) → c * k + k ≤ n
children_within f level c k n is low all =
    let power = pow-suc (order f.field - 1) level in
    let more : (c + 1) * (order f.field - 1) ≤ (order f.field - 1) ^ level * (order f.field - 1) = mul-le (c + 1) (order f.field - 1) ((order f.field - 1) ^ level) (order f.field - 1) (omega arith) (omega arith) in
    let same : c * k + k ≡ (c + 1) * (order f.field - 1) = ap (λ x. c * x + x) is ∙ omega arith in
    omega arith

-- each child of an assignment is refuted by its cite
pub child_right : (f : Framed) (level c k : ℕ) (longer children : List Cite) (t : TableIs) → k ≡ order f.field - 1 → c < cube_count f level → AreCited f (in_slots (all_rows t)) (suc level) (cube_count f (suc level)) longer → length children ≡ k
    → ((v : ℕ) → v < k → get_or children v Nothing ≡ get_or longer (c * k + v) Nothing) → (v : ℕ) → v < length children → IsRight f (in_slots (all_rows t)) (cube_at f (suc level) (c * (order f.field - 1) + v)) (Refuted (get_or children v Nothing))
child_right f level c k longer children t is low cited count same v lt =
    let within = children_within f level c (order f.field - 1) (cube_count f (suc level)) refl low refl in
    let read : get_or children v Nothing ≡ get_or longer (c * (order f.field - 1) + v) Nothing = same v (omega arith) ∙ ap (λ x. get_or longer (c * x + v) Nothing) is in
    subst (λ (x : Cite). IsRight f (in_slots (all_rows t)) (cube_at f (suc level) (c * (order f.field - 1) + v)) (Refuted x)) (sym read) (cited.right (c * (order f.field - 1) + v) (omega arith))

-- over more values there are no fewer prefixes
prefixes-le : (k n : ℕ) → k ≤ 8 → prefix_count k n ≤ prefix_count 8 n
unfolding prefix_count
prefixes-le k zero low = omega arith
prefixes-le k (suc n) low = let rest = prefixes-le k n low in let power : k ^ n ≤ 8 ^ n = pow-le-pow_left low n in omega arith

-- there are few over eight values
few_of_eight : (n : ℕ) → n ≤ 4 → prefix_count 8 n ≤ 585
unfolding prefix_count
few_of_eight zero few = omega arith
few_of_eight (suc zero) few = omega arith
few_of_eight (suc (suc zero)) few = omega arith
few_of_eight (suc (suc (suc zero))) few = omega arith
few_of_eight (suc (suc (suc (suc zero)))) few = omega arith
few_of_eight (suc (suc (suc (suc (suc n))))) few = absurd (omega arith)

-- so there are few proper prefixes of cubes
pub few_prefixes : (f : Framed) (depth : ℕ) → depth ≤ SPLIT → prefix_count (order f.field - 1) depth ≤ PREFIXES
few_prefixes f depth few =
    let most = (few_elements f.field).1 in
    let a = prefixes-le (order f.field - 1) depth (omega arith) in
    let b = few_of_eight depth (omega arith) in
    omega arith

module _ (f : Framed) (problem : Problem) (first : List Cite) (before : TableIs) (of : IsProblemOf f problem) where
  -- no more rows are added than there are proper prefixes
  pub few_added : (level : ℕ) (added : List Row) → AreAddedFrom f problem.depth level added → length added ≤ PREFIXES
  few_added level added from =
      let few = few_prefixes f problem.depth (depth_is f problem of).0 in
      let most = from.few in
      omega arith

  -- so the slots and the cites are few
  pub brought_small : (level : ℕ) (cites : List Cite) (after : TableIs) → before.added ≡ [] → length (all_rows before) < 2 ^ 31 → 0 < level → IsBrought f problem first before level cites after → length (all_rows after) + cube_count f (level - 1) < 2 ^ 32
  brought_small level cites after none small some brought =
      let start = length-all_rows before in
      let last = length-all_rows after in
      let empty = ap length none in
      let board = ap length brought.board in
      let added = few_added level after.added brought.added in
      let low = brought.low in
      let split = (depth_is f problem of).0 in
      let cubes = few_cubes f (level - 1) (omega arith) in
      omega arith

  -- at first the cubes have cites
  pub brought_first : before.added ≡ [] → AreSupported f (all_rows before) → AreCited f (in_slots (all_rows before)) problem.depth (cube_count f problem.depth) first → IsBrought f problem first before problem.depth first before
  brought_first none supported cited = record {
    low = omega arith;
    rows = supported;
    cited = cited;
    board = refl;
    added = subst (AreAddedFrom f problem.depth problem.depth) (sym none) (added_at_first f problem.depth);
    ranks = subst (HaveRanksFrom (length before.board)) (sym none) (ranks_none (length before.board));
    same = λ flat. refl;
  }

  -- one level more has cites
  pub brought_more : (level : ℕ) (cites shorter : List Cite) (t after : TableIs) → IsFrame f → 0 < level → IsBrought f problem first before level cites t → AreSupported f (all_rows after) → AreCited f (in_slots (all_rows after)) (level - 1) (cube_count f (level - 1)) shorter
      → HaveAdded f (level - 1) (cube_count f (level - 1)) t after → IsBrought f problem first before (level - 1) shorter after
  brought_more level cites shorter t after frame some brought supported cited added =
      let low = brought.low in
      let is : level ≡ suc (level - 1) = omega arith in
      let long = length-all_rows t in
      let board : length t.board ≡ length before.board = ap length brought.board in
      let start : length (all_rows t) ≡ length before.board + length t.added = omega arith in record {
        low = omega arith;
        rows = supported;
        cited = cited;
        board = ap (λ (x : TableIs). x.board) added.is ∙ brought.board;
        added = added_level f problem.depth (level - 1) t after frame (omega arith) (depth_is f problem of).1 (subst (λ (i : ℕ). AreAddedFrom f problem.depth i t.added) is brought.added) added;
        ranks = subst (HaveRanksFrom (length before.board)) (sym (ap (λ (x : TableIs). x.added) added.is))
            (ranks_append (length before.board) t.added added.more brought.ranks (subst (λ (n : ℕ). HaveRanksFrom n added.more) start added.ranks));
        same = λ flat. absurd (omega arith);
      }

  -- at last the assignment without values has one
  pub brought_end : (level : ℕ) (cites : List Cite) (after : TableIs) (end : Cite) → level ≡ 0 → IsBrought f problem first before level cites after → end ≡ get_or cites 0 end → IsRight f (in_slots (all_rows after)) no_values (Refuted end)
  unfolding cube_at values_at
  brought_end level cites after end none brought is =
      let count : length cites ≡ cube_count f 0 = brought.cited.count ∙ ap (cube_count f) none in
      let one = pow-zero (order f.field - 1) in
      let read : end ≡ get_or cites 0 Nothing = get_or_read cites 0 end (omega arith) is Nothing in
      let right : IsRight f (in_slots (all_rows after)) (cube_at f 0 0) (Refuted (get_or cites 0 Nothing)) =
      subst (λ (i : ℕ). IsRight f (in_slots (all_rows after)) (cube_at f i 0) (Refuted (get_or cites 0 Nothing))) none (brought.cited.right 0 (let all = brought.cited.count in omega arith)) in
      subst (λ (x : Cite). IsRight f (in_slots (all_rows after)) no_values (Refuted x)) (sym read) right

  -- which is that of the one cube where there is no position to split
  pub brought_same : (level : ℕ) (cites : List Cite) (after : TableIs) (end : Cite) → level ≡ 0 → IsBrought f problem first before level cites after → end ≡ get_or cites 0 end → problem.depth ≡ 0 → end ≡ get_or first 0 Nothing
  brought_same level cites after end none brought is flat =
      let count : length cites ≡ cube_count f 0 = brought.cited.count ∙ ap (cube_count f) none in
      let one = pow-zero (order f.field - 1) in
      get_or_read cites 0 end (omega arith) is Nothing ∙ ap (λ (xs : List Cite). get_or xs 0 Nothing) (brought.same flat)
