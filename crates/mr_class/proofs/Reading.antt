-- The assignment that is read off a matrix at the free positions.
use Rattle.std.proofs.Common.{ℕ, ◌+◌, ◌<◌, ◌≤◌, ◌≡◌, ◌≢◌, ◌⊎◌, List, length, get_or, set, cond, ltb, lt-ltb, le-ltb, refl, sym, ap, subst, ◌∙◌, ⊎_elim, inl, inr, arith, length-set, get_or-set_same, get_or-set_other}
use Rattle.std.specs.Prelude.{Some, slice_get}
use Rattle.std.proofs.lemmas.Bool.{cases_eq, cases_lt}
use Rattle.std.proofs.lemmas.Grind.{same_number_lists}
use Rattle.std.proofs.lemmas.List.{get_or_past, length-replicate, get_or_default}
use Rattle.std.proofs.lemmas.Option.{same_Some, get_or_from_slice_get, slice_get_within, slice_get-get_or}
use Rattle.mr_field.specs.Gf.{Gf, gf2, order}
use Rattle.mr_field.proofs.Laws.{order_pos}
use Rattle.mr_field.proofs.Lookups.{order-le}
use Rattle.mr_assign.specs.declared.TheConstants.{POSITIONS, VALUES}
use Rattle.mr_assign.specs.Assign.{IsAssign, no_values}
use Rattle.mr_assign.proofs.Maps.{get_or-no_values}
use Rattle.mr_graph.specs.declared.edge.Edge.{Edge}
use Rattle.mr_graph.specs.Forest.{HasEdge}
use Rattle.mr_graph.proofs.Edges.{HasEdge-or_not}
use Rattle.mr_linear.specs.Matrix.{Grid, entry, listed}
use Rattle.mr_linear.proofs.Grids.{length-listed, at-listed, entry-lt}
use Rattle.mr_linear.proofs.Exchanges.{entry-exchange}
use Rattle.mr_frame.specs.Frame.{Framed, IsExchange, IsFrame}
use Rattle.mr_frame.specs.Test.{IsAssignmentOf, IsFull, IsFilledBy}
use Rattle.mr_frame.proofs.Counted.{few_edges}
use Rattle.mr_frame.proofs.Outside.{HasEdge-slice_get}
use Rattle.mr_frame.proofs.Uniqueness.{two_or_more, place_exchange}
use Rattle.mr_class.specs.Forms.{HasOnes, IsForm}
use Rattle.mr_class.specs.Private.Scaling.{IsReadTo, IsScaledOn}
use Rattle.mr_class.proofs.Failing.{none_fails}

-- the edge of a position, where there is one
abbrev pub edge_at : List Edge → ℕ → Edge
edge_at places p = get_or places p (record { row = 0; col = 0 })

-- the entry at a position, 0 where there is none
unfoldable pub value_at : List Edge → Grid → ℕ → ℕ
value_at places g p = cond (ltb p (length places)) (entry g (edge_at places p).row (edge_at places p).col) 0

-- the values at all positions
unfoldable pub reading : List Edge → Grid → List ℕ
reading places g = listed 0 POSITIONS (value_at places g)

module _ (f : Framed) (frame : IsFrame f) where
  -- an edge of the forest is no free position
  pub forest-not_free : (i e : ℕ) → HasEdge f.forest i e → HasEdge f.places i e → ⊥
  forest-not_free i e tree free = ⊎_elim
      (λ (two : f.field ≡ gf2). subst (λ (xs : List Edge). HasEdge xs i e) (frame.none two) free)
      (λ (more : f.field ≢ gf2). (((frame.places more).exactly i e).0 free).1 tree)
      (two_or_more f.field)

  -- an edge that is no free position is one of the forest, or there are but two elements
  fixed_edge : (i e : ℕ) → IsExchange f.matroid f.basis i e → (HasEdge f.places i e → ⊥) → (f.field ≡ gf2) ⊎ HasEdge f.forest i e
  fixed_edge i e edge fixed = ⊎_elim
      (λ (two : f.field ≡ gf2). inl two)
      (λ (more : f.field ≢ gf2). ⊎_elim
      (λ (tree : HasEdge f.forest i e). inr tree)
      (λ (out : HasEdge f.forest i e → ⊥). absurd (fixed (((frame.places more).exactly i e).1 (edge, out))))
      (HasEdge-or_not f.forest i e))
      (two_or_more f.field)

  -- a filled matrix has ones on the forest
  pub filled-ones : (c : List ℕ) (g : Grid) → IsFilledBy f c g → HasOnes f.forest g
  filled-ones c g filled i e tree = filled.one i e ((frame.forest.taken i e).0 tree).0 (forest-not_free i e tree)

  -- the free positions fit in an assignment
  pub few : length f.places ≤ POSITIONS
  few = ⊎_elim
      (λ (two : f.field ≡ gf2). let none : length f.places ≡ 0 = ap length (frame.none two) in omega arith)
      (λ (more : f.field ≢ gf2). few_edges f.matroid f.basis f.places f.forest frame.matroid frame.limits frame.basis.basis (frame.places more))
      (two_or_more f.field)

  -- two assignments that fill one matrix are one
  pub assignments_same : (c d : List ℕ) (g : Grid) → IsAssign c → IsAssign d → IsAssignmentOf f c → IsAssignmentOf f d → IsFilledBy f c g → IsFilledBy f d g → c ≡ d
  assignments_same c d g mc md ac ad fc fd = same_number_lists c d (mc.positions ∙ sym md.positions) (λ k lt. ⊎_elim
      (λ (here : k < length f.places).
      let is = slice_get-get_or f.places k (record { row = 0; col = 0 }) here in
      sym (fc.free k (edge_at f.places k) is) ∙ fd.free k (edge_at f.places k) is)
      (λ (past : length f.places ≤ k). nothing c ac k past ∙ sym (nothing d ad k past))
      (cases_lt k (length f.places)))
    where
      nothing : (c : List ℕ) → IsAssignmentOf f c → (k : ℕ) → length f.places ≤ k → get_or c k 0 ≡ 0
      nothing c ac k past = ⊎_elim (λ (z : get_or c k 0 ≡ 0). z) (λ (some : get_or c k 0 ≢ 0). absurd (let lt = (ac k some).0 in omega arith)) (cases_eq (get_or c k 0) 0)

  -- what is read off a matrix is the entries at the free positions
  pub read_off : (g : Grid) → IsReadTo f.places g (length f.places) (reading f.places g)
  unfolding reading value_at
  read_off g = record {
    size = length-listed 0 POSITIONS (value_at f.places g);
    here = λ p x lt is.
        let at : edge_at f.places p ≡ x = get_or_from_slice_get f.places p x (record { row = 0; col = 0 }) is in
        at-listed POSITIONS (value_at f.places g) p 0 (let limit = few in omega arith) ∙ rw (lt-ltb p (length f.places) lt) (ap (λ (y : Edge). entry g y.row y.col) at);
    past = λ p past. ⊎_elim
        (λ (lt : p < POSITIONS). at-listed POSITIONS (value_at f.places g) p 0 lt ∙ rw (le-ltb p (length f.places) past) refl)
        (λ (le : POSITIONS ≤ p). get_or_past (reading f.places g) p 0 (let size = length-listed 0 POSITIONS (value_at f.places g) in omega arith))
        (cases_lt p POSITIONS);
  }

  module _ (g : Grid) (is : IsScaledOn f.matroid f.basis f.forest g) (field : g.field ≡ f.field) where
    -- an edge's entry is an element
    pub edge-lt : (i e : ℕ) → IsExchange f.matroid f.basis i e → entry g i e < order f.field
    edge-lt i e edge = subst (λ (k : Gf). entry g i e < order k) field
        (entry-lt g is.represents.fits.grid i e (subst (λ n. i < n) (sym is.represents.fits.rows) edge.row) (subst (λ n. e < n) (sym is.represents.fits.cols) edge.element))

    -- and not 0
    pub edge-not_zero : (i e : ℕ) → IsExchange f.matroid f.basis i e → entry g i e ≢ 0
    edge-not_zero i e edge = (entry-exchange f.matroid g f.basis i e is.represents frame.basis.basis is.identity edge.row edge.element edge.outside).1 edge.basis

    -- an edge that is no free position has the entry 1
    fixed_one : (i e : ℕ) → IsExchange f.matroid f.basis i e → (HasEdge f.places i e → ⊥) → entry g i e ≡ 1
    fixed_one i e edge fixed = ⊎_elim
        (λ (two : f.field ≡ gf2).
        let small : entry g i e < 2 = subst (λ (k : Gf). entry g i e < order k) two (edge-lt i e edge) in
        let some = edge-not_zero i e edge in omega arith)
        (λ (tree : HasEdge f.forest i e). is.ones i e tree)
        (fixed_edge i e edge fixed)

    -- a free position is an edge
    pub place-edge : (p : ℕ) (x : Edge) → slice_get f.places p ≡ Some x → IsExchange f.matroid f.basis x.row x.col
    place-edge p x here = place_exchange f frame x.row x.col (HasEdge-slice_get f.places p x here)

    module _ (c : List ℕ) (read : IsReadTo f.places g (length f.places) c) where
      -- each position has an element, or no value beyond the free ones
      value-cases : (p : ℕ) → ((p < length f.places) × (get_or c p 0 < order f.field) × (get_or c p 0 ≢ 0)) ⊎ ((length f.places ≤ p) × (get_or c p 0 ≡ 0))
      value-cases p = ⊎_elim
          (λ (lt : p < length f.places).
          let x : Edge = edge_at f.places p in
          let here : slice_get f.places p ≡ Some x = slice_get-get_or f.places p (record { row = 0; col = 0 }) lt in
          let edge : IsExchange f.matroid f.basis x.row x.col = place-edge p x here in
          let value : get_or c p 0 ≡ entry g x.row x.col = read.here p x lt here in
          inl (lt, subst (λ (v : ℕ). v < order f.field) (sym value) (edge-lt x.row x.col edge), (λ none. edge-not_zero x.row x.col edge (sym value ∙ none))))
          (λ (le : length f.places ≤ p). inr (le, read.past p le))
          (cases_lt p (length f.places))

      -- so each value is an element
      value-lt : (p : ℕ) → get_or c p 0 < order f.field
      value-lt p = ⊎_elim (λ (h : (p < length f.places) × (get_or c p 0 < order f.field) × (get_or c p 0 ≢ 0)). h.1) (λ (h : (length f.places ≤ p) × (get_or c p 0 ≡ 0)). rw h.1 (order_pos f.field)) (value-cases p)

      -- it is a map
      reading-map : IsAssign c
      reading-map = record {
        positions = read.size;
        values = λ k d lt.
            let small = value-lt k in
            let few_values = order-le f.field in
            subst (λ (v : ℕ). v ≤ VALUES) (sym (get_or_default c k d 0 lt)) (omega arith);
      }

      -- that gives elements to free positions alone
      reading-assignment : IsAssignmentOf f c
      reading-assignment p some = ⊎_elim
          (λ (h : (p < length f.places) × (get_or c p 0 < order f.field) × (get_or c p 0 ≢ 0)). (h.0, h.1))
          (λ (h : (length f.places ≤ p) × (get_or c p 0 ≡ 0)). absurd (some h.1)) (value-cases p)

      -- and one to each
      reading-full : IsFull f c
      reading-full p lt = ⊎_elim
          (λ (h : (p < length f.places) × (get_or c p 0 < order f.field) × (get_or c p 0 ≢ 0)). h.2)
          (λ (h : (length f.places ≤ p) × (get_or c p 0 ≡ 0)). absurd (let le = h.0 in omega arith)) (value-cases p)

      -- the matrix is filled by what is read off it
      pub reading-filled : IsFilledBy f c g
      reading-filled = record {
        fits = is.represents.fits;
        field = field;
        identity = is.identity;
        zero = λ i e row col out none. ⊎_elim
            (λ (z : entry g i e ≡ 0). z)
            (λ (some : entry g i e ≢ 0). absurd (none (record { row = row; element = col; outside = out; basis = (entry-exchange f.matroid g f.basis i e is.represents frame.basis.basis is.identity row col out).0 some })))
            (cases_eq (entry g i e) 0);
        one = fixed_one;
        free = λ p x here. sym (read.here p x (slice_get_within f.places p x here) here);
      }

      -- which is a form
      pub reading-form : IsForm f c
      reading-form = record {
        map = reading-map;
        assignment = reading-assignment;
        full = reading-full;
        contains = λ p some. absurd (some (get_or-no_values p));
        holds = none_fails f frame c g reading-filled is.represents;
      }

-- the map that gives no value
pub read_none : (places : List Edge) (g : Grid) → IsReadTo places g 0 no_values
read_none places g = record {
  size = length-replicate {A = ℕ} POSITIONS 0;
  here = λ p x lt is. absurd (omega arith);
  past = λ p le. get_or-no_values p;
}

-- one more free position
pub read_more : (places : List Edge) (g : Grid) (n : ℕ) (c : List ℕ) (x : Edge) (v : ℕ) → IsReadTo places g n c → n < POSITIONS → slice_get places n ≡ Some x → v ≡ entry g x.row x.col → IsReadTo places g (n + 1) (set c n v)
read_more places g n c x v read lt here value = record {
  size = length-set c n v ∙ read.size;
  here = λ p y small is. ⊎_elim
      (λ (same : p ≡ n).
      let at : x ≡ y = same_Some x y (sym here ∙ subst (λ (k : ℕ). slice_get places k ≡ Some y) same is) in
      rw same (get_or-set_same c n v 0 (let size = read.size in omega arith) ∙ value ∙ ap (λ (z : Edge). entry g z.row z.col) at))
      (λ (other : p ≢ n). get_or-set_other c n p v 0 other ∙ read.here p y (omega arith) is)
      (cases_eq p n);
  past = λ p le. let other : p ≢ n = omega arith in get_or-set_other c n p v 0 other ∙ read.past p (omega arith);
}
