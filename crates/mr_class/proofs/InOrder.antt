-- Forms are in the order of their matrices.
use Rattle.std.proofs.Common.{ℕ, ◌<◌, ◌≤◌, ◌≡◌, ◌⊎◌, List, [], ◌++◌, length, get_or, refl, sym, ap, subst, ◌∙◌, ⊎_elim, arith}
use Rattle.std.specs.Prelude.{Some, slice_get, flat_map}
use Rattle.std.specs.Ordering.{ordering_reverse}
use Rattle.std.specs.declared.cmp.Ordering.TheVariants.{Less, Equal}
use Rattle.std.proofs.lemmas.Cmp.{nat_list_cmp_total, tied_itself}
use Rattle.std.proofs.lemmas.List.{append-nil}
use Rattle.std.proofs.lemmas.Option.{get_or_from_slice_get, slice_get_within, slice_get-get_or}
use Rattle.mr_set.specs.Subsets.{list_cmp}
use Rattle.mr_assign.specs.declared.TheConstants.{POSITIONS}
use Rattle.mr_graph.specs.declared.edge.Edge.{Edge}
use Rattle.mr_graph.specs.Forest.{HasEdge, IsEarlierPlace}
use Rattle.mr_graph.proofs.Edges.{HasEdge-or_not, HasEdge-get_or, HasEdge-place}
use Rattle.mr_linear.specs.Matrix.{Grid, entry, grid_cmp}
use Rattle.mr_linear.proofs.Grids.{Same, same_grids}
use Rattle.mr_frame.specs.Frame.{Framed, IsExchange, IsFrame}
use Rattle.mr_frame.specs.Test.{IsFilledBy}
use Rattle.mr_frame.proofs.OneVerdict.{fixed_same, shape_same}
use Rattle.mr_frame.proofs.Outside.{found_at}
use Rattle.mr_frame.proofs.Uniqueness.{place_exchange, places-rising}
use Rattle.mr_class.specs.Forms.{IsForm}
use Rattle.mr_class.specs.Laws.{FormsAreInOrder}
use Rattle.mr_class.proofs.Compare.{IsSmaller, cmp_first, smaller-less, compare}
use Rattle.mr_class.proofs.Reading.{few, assignments_same}

-- the first different number of two lists decides their order
pub less_at : (c d : List ℕ) (p : ℕ) → p < length c → p < length d → ((k : ℕ) → k < p → get_or c k 0 ≡ get_or d k 0) → get_or c p 0 < get_or d p 0 → list_cmp c d ≡ Less
less_at c d p l m same lt = subst (λ (x : List ℕ). list_cmp x d ≡ Less) (append-nil c) (subst (λ (y : List ℕ). list_cmp (c ++ []) y ≡ Less) (append-nil d) (cmp_first c d [] [] p l m same lt))

module _ (f : Framed) (frame : IsFrame f) (c d : List ℕ) (g h : Grid) (here : IsForm f c) (there : IsForm f d) (fc : IsFilledBy f c g) (fd : IsFilledBy f d h) where
  -- the first place where the matrices differ is a free position
  smaller_at : (p : ℕ) (x : Edge) → slice_get f.places p ≡ Some x → (s : IsSmaller f.matroid.rank f.matroid.elements (entry g) (entry h)) → x.row ≡ s.row → x.col ≡ s.col → list_cmp c d ≡ Less
  smaller_at p x is s row col =
      let inside : p < length f.places = slice_get_within f.places p x is in
      let limit : length f.places ≤ POSITIONS = few f frame in
      let size_c = here.map.positions in
      let size_d = there.map.positions in
      less_at c d p (omega arith) (omega arith) (λ k lt. earlier k lt inside)
      (subst (λ (v : ℕ). v < get_or d p 0) (fc.free p x is) (subst (λ (v : ℕ). entry g x.row x.col < v) (fd.free p x is)
      (subst (λ (i : ℕ). entry g i x.col < entry h i x.col) (sym row) (subst (λ (j : ℕ). entry g s.row j < entry h s.row j) (sym col) s.less))))
    where
      earlier : (k : ℕ) → k < p → p < length f.places → get_or c k 0 ≡ get_or d k 0
      earlier k lt inside =
          let y : Edge = get_or f.places k x in
          let at : slice_get f.places k ≡ Some y = slice_get-get_or f.places k x (omega arith) in
          let edge : IsExchange f.matroid f.basis y.row y.col = place_exchange f frame y.row y.col (HasEdge-get_or f.places k x (omega arith)) in
          let before : IsEarlierPlace y.row y.col (get_or f.places p x).row (get_or f.places p x).col = places-rising f frame k p x lt inside in
          let this : get_or f.places p x ≡ x = get_or_from_slice_get f.places p x x is in
          let there' : IsEarlierPlace y.row y.col s.row s.col =
          subst (λ (i : ℕ). IsEarlierPlace y.row y.col i s.col) row (subst (λ (j : ℕ). IsEarlierPlace y.row y.col x.row j) col (subst (λ (z : Edge). IsEarlierPlace y.row y.col z.row z.col) this before)) in
          sym (fc.free k y at) ∙ s.before y.row y.col edge.row edge.element there' ∙ fd.free k y at

  -- so the form of the smaller matrix comes first
  smaller_first : IsSmaller f.matroid.rank f.matroid.elements (entry g) (entry h) → list_cmp c d ≡ Less
  smaller_first s = ⊎_elim
      (λ (has : HasEdge f.places s.row s.col).
      let x : Edge = record { row = s.row; col = s.col } in
      let u = HasEdge-place f.places s.row s.col has x in
      smaller_at u.0 x (found_at f.places u.0 s.row s.col x u.1 u.2 u.3) s refl refl)
      (λ (fixed : HasEdge f.places s.row s.col → ⊥).
      let same = fixed_same f c d g h fc fd s.row s.col s.row_in_range s.col_in_range fixed in
      let lt = s.less in absurd (omega arith))
      (HasEdge-or_not f.places s.row s.col)

-- forms of matrices of which the first is smaller
both_less : (f : Framed) (c d : List ℕ) (g h : Grid) → IsFrame f → IsForm f c → IsForm f d → IsFilledBy f c g → IsFilledBy f d h → IsSmaller f.matroid.rank f.matroid.elements (entry g) (entry h) →
    (list_cmp c d ≡ Less) × (grid_cmp g h ≡ Less)
both_less f c d g h frame here there fc fd s = (
  smaller_first f frame c d g h here there fc fd s,
  smaller-less g h fc.fits.grid fd.fits.grid (shape_same f c d g h fc fd)
      (subst (λ (r : ℕ). IsSmaller r g.cols (entry g) (entry h)) (sym fc.fits.rows) (subst (λ (n : ℕ). IsSmaller f.matroid.rank n (entry g) (entry h)) (sym fc.fits.cols) s)),
)

-- forms are in the order of their matrices
pub forms_in_order : FormsAreInOrder
forms_in_order f c d g h frame here there fc fd = ⊎_elim
    (λ (same : Same f.matroid.rank f.matroid.elements (entry g) (entry h)).
    let grids : g ≡ h = same_grids g h fc.fits.grid fd.fits.grid (shape_same f c d g h fc fd) (λ i j l m. same i j (let rows = fc.fits.rows in omega arith) (let cols = fc.fits.cols in omega arith)) in
    let forms : c ≡ d = assignments_same f frame c d h here.map there.map here.assignment there.assignment (subst (IsFilledBy f c) grids fc) fd in
    let first : list_cmp d d ≡ Equal = tied_itself nat_list_cmp_total d in
    let second : grid_cmp h h ≡ Equal = tied_itself nat_list_cmp_total (flat_map (λ row. row) h.rows) in
    subst (λ (x : List ℕ). list_cmp x d ≡ grid_cmp g h) (sym forms) (subst (λ (z : Grid). list_cmp d d ≡ grid_cmp z h) (sym grids) (first ∙ sym second)))
    (λ (o : IsSmaller f.matroid.rank f.matroid.elements (entry g) (entry h) ⊎ IsSmaller f.matroid.rank f.matroid.elements (entry h) (entry g)). ⊎_elim
    (λ (s : IsSmaller f.matroid.rank f.matroid.elements (entry g) (entry h)). let p = both_less f c d g h frame here there fc fd s in p.0 ∙ sym p.1)
    (λ (s : IsSmaller f.matroid.rank f.matroid.elements (entry h) (entry g)).
    let p = both_less f d c h g frame there here fd fc s in
    let first : list_cmp c d ≡ ordering_reverse (list_cmp d c) = nat_list_cmp_total.antisymm c d in
    let second : grid_cmp g h ≡ ordering_reverse (grid_cmp h g) = nat_list_cmp_total.antisymm (flat_map (λ row. row) g.rows) (flat_map (λ row. row) h.rows) in
    first ∙ ap ordering_reverse (p.0 ∙ sym p.1) ∙ sym second)
    o)
    (compare f.matroid.rank f.matroid.elements (entry g) (entry h))
