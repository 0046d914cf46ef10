-- A representation is brought to its form: to the identity, and then the forest's edges one after another to 1.
use Rattle.std.proofs.Common.{ℕ, zero, suc, ◌<◌, ◌≡◌, List, [], ◌∷◌, ◌++◌, ◌+◌, length, get_or, take, sym, subst, ◌∙◌, ⊎_elim, inl, inr}
use Rattle.std.specs.List.Sorted.{IsPermutation}
use Rattle.std.proofs.lemmas.List.{take_more}
use Rattle.std.proofs.lemmas.List.Sorted.{IsPermutation-sym}
use Rattle.mr_set.specs.Matroid.{Presentation}
use Rattle.mr_graph.specs.declared.edge.Edge.{Edge}
use Rattle.mr_graph.specs.Forest.{HasEdge}
use Rattle.mr_graph.specs.Order.{IsForestOrder}
use Rattle.mr_graph.proofs.Edges.{HasEdge-get_or, HasEdge-permutation}
use Rattle.mr_graph.proofs.Ordering.{free_end_of-order}
use Rattle.mr_linear.specs.declared.operation.RowOp.{RowOp}
use Rattle.mr_linear.specs.Matrix.{Grid, AreIndependent}
use Rattle.mr_linear.specs.Operations.{Leads}
use Rattle.mr_linear.specs.Private.Reduction.{Continues}
use Rattle.mr_linear.specs.Representation.{Represents, HasIdentity}
use Rattle.mr_linear.proofs.LawsOfMatrices.{basis-independent, equivalent-represents}
use Rattle.mr_linear.proofs.Leads.{leads-append, leads-shape}
use Rattle.mr_frame.specs.Frame.{Framed, IsExchange, IsFrame}
use Rattle.mr_frame.specs.Test.{IsFilledBy}
use Rattle.mr_class.specs.Forms.{IsForm}
use Rattle.mr_class.specs.Private.Scaling.{IsScaledOn, IsNextEdge, IsReadTo}
use Rattle.mr_class.proofs.Reading.{reading-filled, reading-form}

-- the first edges of a list are among them
HasEdge-take : (xs : List Edge) (k i e : ℕ) → HasEdge (take k xs) i e → HasEdge xs i e
HasEdge-take xs zero i e h = absurd h
HasEdge-take [] (suc k) i e h = absurd h
HasEdge-take (x ∷ xs) (suc k) i e h = ⊎_elim (λ (p : (i ≡ x.row) × (e ≡ x.col)). inl p) (λ (p : HasEdge (take k xs) i e). inr (HasEdge-take xs k i e p)) h

-- each edge of an order is next after those before it
pub next_edge : (m : Presentation) (b : List ℕ) (xs : List Edge) (k : ℕ) (d : Edge) → ((i e : ℕ) → HasEdge xs i e → IsExchange m b i e) → IsForestOrder (IsExchange m b) xs → k < length xs → IsNextEdge m b (take k xs) (get_or xs k d)
next_edge m b xs k d exchanges order lt = record {
  exchanges = λ i e h. exchanges i e (HasEdge-take xs k i e h);
  edge = exchanges (get_or xs k d).row (get_or xs k d).col (HasEdge-get_or xs k d lt);
  free = free_end_of-order (IsExchange m b) xs order k d lt;
}

-- one more edge is scaled
pub scaled_more : (m : Presentation) (b : List ℕ) (xs : List Edge) (k : ℕ) (d : Edge) (w : Grid) → k < length xs → IsScaledOn m b (take k xs ++ get_or xs k d ∷ []) w → IsScaledOn m b (take (k + 1) xs) w
scaled_more m b xs k d w lt is = subst (λ (ys : List Edge). IsScaledOn m b ys w) (sym (take_more xs k d lt)) is

module _ (f : Framed) (frame : IsFrame f) (a : Grid) (rep : Represents a f.matroid) where
  -- the first basis is independent
  pub basis-columns_independent : (w : Grid) (b : List ℕ) → w ≡ a → b ≡ f.basis → AreIndependent w b
  basis-columns_independent w b same is =
      subst (λ (x : List ℕ). AreIndependent w x) (sym is) (subst (λ (g : Grid). AreIndependent g f.basis) (sym same) ((rep.agrees f.basis frame.basis.basis.0.set).1 (basis-independent f.matroid f.basis frame.basis.basis)))

  -- with the identity at the basis nothing is scaled yet
  pub started : (w work : Grid) (b : List ℕ) (ops : List RowOp) → w ≡ a → b ≡ f.basis → Leads w ops work → HasIdentity b work → IsScaledOn f.matroid f.basis [] work
  started w work b ops same is leads identity = record {
    represents = equivalent-represents f.matroid w work (subst (λ (g : Grid). Represents g f.matroid) (sym same) rep) (ops, leads);
    identity = subst (λ (x : List ℕ). HasIdentity x work) is identity;
    ones = λ i e h. absurd h;
  }

  -- the order's edges are exchanges
  pub order-exchanges : (xs : List Edge) → IsPermutation f.forest xs → (i e : ℕ) → HasEdge xs i e → IsExchange f.matroid f.basis i e
  order-exchanges xs moved i e h = ((frame.forest.taken i e).0 (HasEdge-permutation xs f.forest (IsPermutation-sym f.forest xs moved) i e h)).0

  -- once its edges are scaled the forest is
  pub forest-scaled : (xs : List Edge) (w : Grid) → IsPermutation f.forest xs → IsScaledOn f.matroid f.basis xs w → IsScaledOn f.matroid f.basis f.forest w
  forest-scaled xs w moved is = record {
    represents = is.represents;
    identity = is.identity;
    ones = λ i e h. is.ones i e (HasEdge-permutation f.forest xs moved i e h);
  }

  -- the whole list of operations leads to the form's matrix
  pub all_led : (w work g : Grid) (ops all : List RowOp) → w ≡ a → Leads w ops work → Continues work ops g all → Leads a all g
  all_led w work g ops all same leads more =
      subst (λ (xs : List RowOp). Leads a xs g) (sym more.1) (leads-append ops more.0 a work g (subst (λ (x : Grid). Leads x ops work) same leads) more.2)

  -- the field stays
  pub led-field : (g : Grid) (all : List RowOp) → a.field ≡ f.field → Leads a all g → g.field ≡ f.field
  led-field g all field leads = (leads-shape all a g rep.fits.grid leads).field ∙ field

  -- what is read off the last matrix is a form, and the operations lead to its matrix
  pub ended : (w work g : Grid) (ops all : List RowOp) (order xs : List Edge) (c : List ℕ) → w ≡ a → Leads w ops work → Continues work ops g all → a.field ≡ f.field →
      IsPermutation f.forest order → xs ≡ order → IsScaledOn f.matroid f.basis xs g → IsReadTo f.places g (length f.places) c → IsForm f c × IsFilledBy f c g × Leads a all g
  ended w work g ops all order xs c same leads more field moved listed scaled read =
      let led : Leads a all g = all_led w work g ops all same leads more in
      let ours : g.field ≡ f.field = led-field g all field led in
      let is : IsScaledOn f.matroid f.basis f.forest g = forest-scaled order g moved (subst (λ (ys : List Edge). IsScaledOn f.matroid f.basis ys g) listed scaled) in
      (reading-form f frame g is ours c read, reading-filled f frame g is ours c read, led)
