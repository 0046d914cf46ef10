-- In each class of representations one matrix is the identity at the first basis and has ones on the first forest, and it
-- is the chosen one.
use Rattle.std.proofs.Common.{ℕ, ◌<◌, ◌≡◌, ◌≢◌, ◌⊎◌, true, false, List, ◌++◌, get_or, refl, sym, subst, ◌∙◌, ⊎_elim, inl, inr, arith}
use Rattle.std.specs.Prelude.{Contains, flat_map}
use Rattle.std.specs.declared.cmp.Ordering.TheVariants.{Less}
use Rattle.std.proofs.lemmas.Bool.{cases_eq, cases_Bool, both_ways}
use Rattle.std.proofs.lemmas.Cmp.{nat_list_cmp_total}
use Rattle.mr_field.specs.Gf.{Gf}
use Rattle.mr_field.proofs.Laws.{norm-ne}
use Rattle.mr_set.specs.Elements.{IsSet, is_element}
use Rattle.mr_set.specs.Subsets.{IsSetOf}
use Rattle.mr_set.specs.Matroid.{Presentation, IsFirstBasis}
use Rattle.mr_set.proofs.Members.{is_element-from_Contains, Contains-from_element}
use Rattle.mr_set.proofs.Ordered.{not_before_itself, not_both_ways}
use Rattle.mr_graph.specs.declared.edge.Edge.{Edge}
use Rattle.mr_graph.specs.Forest.{HasEdge, IsFirstForest}
use Rattle.mr_graph.proofs.Uniqueness.{first_forest-one}
use Rattle.mr_linear.specs.Matrix.{Grid, IsGrid, height, entry, grid_of, grid_cmp}
use Rattle.mr_linear.specs.Operations.{AreEquivalent}
use Rattle.mr_linear.specs.Representation.{Represents, FitsMatroid, HasIdentity, IsChosen}
use Rattle.mr_linear.proofs.Grids.{Same, SameShape, same_grids, height-grid_of, entry-grid_of, IsGrid-grid_of, entry-lt}
use Rattle.mr_linear.proofs.Chains.{equivalent-trans, equivalent-same}
use Rattle.mr_linear.proofs.Leads.{leads-append, leads-shape, leads-zeros}
use Rattle.mr_linear.proofs.Places.{places, identity-at, IsBasisOf-places, place-lt}
use Rattle.mr_linear.proofs.LawsOfMatrices.{basis-independent, columns-reduce, equivalent-represents}
use Rattle.mr_linear.proofs.Exchanges.{entry-exchange}
use Rattle.mr_linear.proofs.Undo.{lead-grid, shape-sym}
use Rattle.mr_linear.proofs.Unique.{identity-standard}
use Rattle.mr_frame.specs.Frame.{IsExchange}
use Rattle.mr_class.specs.Forms.{HasOnes}
use Rattle.mr_class.specs.Private.Scaling.{IsScaledOn}
use Rattle.mr_class.proofs.Scaling.{Scales}
use Rattle.mr_class.proofs.Greedy.{first-forest}
use Rattle.mr_class.proofs.Form.{FormOf, form_of}
use Rattle.mr_class.proofs.Compare.{IsSmaller, compare, smaller-less}
use Rattle.mr_class.proofs.Least.{HasEdges, only-one, not-less}

-- what is no element by the test
pub not_element : (b : List ℕ) (e : ℕ) → (Contains b e → ⊥) → is_element b e ≡ false
not_element b e out = ⊎_elim (λ (t : is_element b e ≡ true). absurd (out (Contains-from_element b e t))) (λ (o : is_element b e ≡ false). o) (cases_Bool (is_element b e))

-- one equivalence after the other
pub equivalence-trans : (a b c : Grid) → AreEquivalent a b → AreEquivalent b c → AreEquivalent a c
equivalence-trans a b c e h = (e.0 ++ h.0, leads-append e.0 h.0 a b c e.1 h.1)

module _ (m : Presentation) (b : List ℕ) (first : IsFirstBasis m b) where
  -- the basis as columns of a matrix that fits
  pub basis-columns : (a : Grid) → FitsMatroid m a → IsSetOf a.cols (height a) b
  basis-columns a h = record { set = subst (λ n. IsSet n b) (sym h.cols) first.basis.0.set; size = first.basis.0.size ∙ sym h.rows }

  -- the edges lie in the matrix and outside of the basis
  pub edge-inside : (a : Grid) → FitsMatroid m a → (i j : ℕ) → IsExchange m b i j → (i < height a) × (j < a.cols) × (is_element b j ≡ false)
  edge-inside a h i j edge = (subst (λ n. i < n) (sym h.rows) edge.row, subst (λ n. j < n) (sym h.cols) edge.element, not_element b j edge.outside)

  -- the entries of a representation that is the identity at the basis
  pub has_edges : (a : Grid) → Represents a m → HasIdentity b a → HasEdges a.field (height a) a.cols (places b) (is_element b) (IsExchange m b) (entry a)
  has_edges a r id = record {
    elements = entry-lt a r.fits.grid;
    identity = identity-at b a (first.basis.0.size ∙ sym r.fits.rows) id;
    edges = λ i j l k out.
        let row : i < m.rank = subst (λ n. i < n) r.fits.rows l in
        let element : j < m.elements = subst (λ n. j < n) r.fits.cols k in
        let outside : Contains b j → ⊥ = λ h. both_ways (is_element b j) out (is_element-from_Contains b j h) in
        let is = entry-exchange m a b i j r first.basis id row element outside in (
          (λ ne. record { row = row; element = element; outside = outside; basis = is.0 ne }),
          (λ edge. is.1 edge.basis),
        );
  }

  -- the same by the numbers of another matrix of one shape
  edges-at : (c d : Grid) → SameShape d c → Represents d m → HasIdentity b d → HasEdges c.field (height c) c.cols (places b) (is_element b) (IsExchange m b) (entry d)
  edges-at c d s r id =
      subst (λ (f : Gf). HasEdges f (height c) c.cols (places b) (is_element b) (IsExchange m b) (entry d)) s.field
      (subst (λ (k : ℕ). HasEdges d.field k c.cols (places b) (is_element b) (IsExchange m b) (entry d)) s.rows
      (subst (λ (n : ℕ). HasEdges d.field (height d) n (places b) (is_element b) (IsExchange m b) (entry d)) s.cols (has_edges d r id)))

  -- the first basis of a representation is brought to the identity
  reduced : (a : Grid) → Represents a m → (d : Grid) × AreEquivalent a d × HasIdentity b d
  reduced a r = columns-reduce a b r.fits.grid (basis-columns a r.fits) ((r.agrees b first.basis.0.set).1 (basis-independent m b first.basis))

  -- the exchanges have a first forest, and factors that make a representation's entries there 1
  scales_there : (d : Grid) → Represents d m → HasIdentity b d → (forest : List Edge) × IsFirstForest (IsExchange m b) forest × Scales d.field (entry d) (HasEdge forest)
  scales_there d r id = first-forest d.field (entry d) (IsExchange m b) (height d) d.cols decide
      (λ i j edge. let p = edge-inside d r.fits i j edge in norm-ne d.field (entry d i j) (has.elements i j p.0 p.1) ((has.edges i j p.0 p.1 p.2).1 edge))
      (λ i j edge. let p = edge-inside d r.fits i j edge in (p.0, p.1))
    where
      has : HasEdges d.field (height d) d.cols (places b) (is_element b) (IsExchange m b) (entry d)
      has = has_edges d r id

      decide : (i j : ℕ) → i < height d → j < d.cols → IsExchange m b i j ⊎ (IsExchange m b i j → ⊥)
      decide i j l k = ⊎_elim
          (λ (inside : is_element b j ≡ true). inr (λ edge. edge.outside (Contains-from_element b j inside)))
          (λ (out : is_element b j ≡ false). ⊎_elim
          (λ (none : entry d i j ≡ 0). inr (λ edge. (has.edges i j l k out).1 edge none))
          (λ (some : entry d i j ≢ 0). inl ((has.edges i j l k out).0 some))
          (cases_eq (entry d i j) 0))
          (cases_Bool (is_element b j))

  -- a representation's exchanges have a first forest
  pub forest-there : (a : Grid) → Represents a m → (forest : List Edge) × IsFirstForest (IsExchange m b) forest
  forest-there a r =
      let d = reduced a r in
      let s = scales_there d.0 (equivalent-represents m a d.0 r d.1) d.2 in
      (s.0, s.1)

  module _ (forest : List Edge) (trees : IsFirstForest (IsExchange m b) forest) where
    -- from the identity at the basis
    module _ (d : Grid) (r : Represents d m) (id : HasIdentity b d) where
      -- its field
      f : Gf
      f = d.field

      -- factors that make the entries on the forest 1
      scales : Scales d.field (entry d) (HasEdge forest)
      scales =
          let s = scales_there d r id in
          subst (λ (xs : List Edge). Scales d.field (entry d) (HasEdge xs)) (first_forest-one (IsExchange m b) s.0 forest s.1 trees) s.2

      -- the entries of the form
      form : FormOf d.field (height d) d.cols (places b) (HasEdge forest) (entry d)
      form = form_of d.field (height d) d.cols (places b) (is_element b) (HasEdge forest) (entry d) (IsBasisOf-places d.cols (height d) b (basis-columns d r.fits)) (has_edges d r id).identity scales
          (λ i e x. (edge-inside d r.fits i e ((trees.taken i e).0 x).0).2)

      -- the matrix of these entries
      c : Grid
      c = grid_of d.field (height d) d.cols form.form

      -- it is one
      gc : IsGrid c
      unfolding c
      gc = IsGrid-grid_of d.field (height d) d.cols form.form r.fits.grid.rows form.elements

      -- of the same shape
      shape : SameShape c d
      unfolding c
      shape = record { field = refl; rows = height-grid_of d.field (height d) d.cols form.form; cols = refl }

      -- with these entries
      at : Same (height d) d.cols (entry c) form.form
      unfolding c
      at = entry-grid_of d.field (height d) d.cols form.form

      -- and operations lead to it
      led : AreEquivalent d c
      led = lead-grid d c r.fits.grid gc shape
          (equivalent-trans d.field (height d) d.cols (entry d) form.form (entry c) form.equivalent (equivalent-same d.field (height d) d.cols form.form (entry c) (λ i j l k. sym (at i j l k))))

      -- a matrix that is the identity at the basis is brought to ones on the forest
      pub scaled-identity : (c : Grid) × AreEquivalent d c × IsScaledOn m b forest c
      scaled-identity = (
        c,
        led,
        record {
          represents = equivalent-represents m d c r led;
          identity = λ i k l n.
              let size = (basis-columns d r.fits).size in
              let row : i < height d = subst (λ j. i < j) shape.rows l in
              let place : k < height d = omega arith in
              at i (get_or b k 0) row (place-lt d.cols (height d) b (basis-columns d r.fits) k place) ∙ form.standard i k row place;
          ones = λ i j x. let p = edge-inside d r.fits i j ((trees.taken i j).0 x).0 in at i j p.0 p.1 ∙ form.ones i j x;
        },
      )

    -- each class has a matrix with the identity and ones
    pub scaled : (a : Grid) → Represents a m → (c : Grid) × AreEquivalent a c × IsScaledOn m b forest c
    scaled a r =
        let d = reduced a r in
        let c = scaled-identity d.0 (equivalent-represents m a d.0 r d.1) d.2 in (c.0, equivalence-trans a d.0 c.0 d.1 c.1, c.2)

    -- two of one class are one
    pub scaled-same : (c d : Grid) → Represents c m → HasIdentity b c → HasOnes forest c → HasIdentity b d → HasOnes forest d → AreEquivalent c d → c ≡ d
    scaled-same c d rc ic oc id od e =
        let gc : IsGrid c = rc.fits.grid in
        let s : SameShape d c = leads-shape e.0 c d gc e.1 in
        let rd : Represents d m = equivalent-represents m c d rc e in
        same_grids c d gc rd.fits.grid (shape-sym d c s)
        (only-one c.field (height c) c.cols (places b) (is_element b) (IsExchange m b) forest (IsBasisOf-places c.cols (height c) b (basis-columns c rc.fits)) trees (edge-inside c rc.fits)
        (entry c) (entry d) (has_edges c rc ic) (edges-at c d s rd id) (leads-zeros e.0 c d gc e.1) oc od)

    -- it is the least standard one
    pub ones-chosen : (c : Grid) → Represents c m → HasIdentity b c → HasOnes forest c → IsChosen m c
    ones-chosen c rc ic oc = record {
      standard = record { basis = b; first = first; fits = rc.fits; identity = ic };
      least = λ d sd e less.
          let gc : IsGrid c = rc.fits.grid in
          let s : SameShape d c = leads-shape e.0 c d gc e.1 in
          let rd : Represents d m = equivalent-represents m c d rc e in
          ⊎_elim
          (λ (same : Same (height c) c.cols (entry c) (entry d)).
          not_before_itself nat_list_cmp_total (flat_map (λ row. row) c.rows) (subst (λ (x : Grid). grid_cmp x c ≡ Less) (sym (same_grids c d gc rd.fits.grid (shape-sym d c s) same)) less))
          (λ (o : IsSmaller (height c) c.cols (entry c) (entry d) ⊎ IsSmaller (height c) c.cols (entry d) (entry c)). ⊎_elim
          (λ (x : IsSmaller (height c) c.cols (entry c) (entry d)).
          not_both_ways nat_list_cmp_total (flat_map (λ row. row) c.rows) (flat_map (λ row. row) d.rows) (smaller-less c d gc rd.fits.grid (shape-sym d c s) x) less)
          (λ (x : IsSmaller (height c) c.cols (entry d) (entry c)).
          not-less c.field (height c) c.cols (places b) (is_element b) (IsExchange m b) forest (IsBasisOf-places c.cols (height c) b (basis-columns c rc.fits)) trees (edge-inside c rc.fits)
          (entry c) (entry d) (has_edges c rc ic) (edges-at c d s rd (identity-standard m d b sd first)) (leads-zeros e.0 c d gc e.1) oc x) o)
          (compare (height c) c.cols (entry c) (entry d));
    }
