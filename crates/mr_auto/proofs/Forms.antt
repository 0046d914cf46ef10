-- The images of forms are forms.
use Rattle.std.proofs.Common.{ℕ, zero, suc, ◌+◌, ◌<◌, ◌≤◌, ◌≡◌, ◌≢◌, ◌↔◌, Bool, true, false, cond, eqb, List, length, get_or, refl, sym, ap, subst, ◌∙◌, ⊎_elim, inl, inr, arith}
use Rattle.std.specs.Prelude.{Contains}
use Rattle.std.proofs.lemmas.Bool.{cases_eq}
use Rattle.std.proofs.lemmas.List.{length-map}
use Rattle.std.proofs.lemmas.List.Elements.{All-from_get_or}
use Rattle.std.proofs.lemmas.Option.{slice_get_within, get_or_from_slice_get}
use Rattle.mr_field.specs.Gf.{Gf, order, frobenius_times}
use Rattle.mr_field.proofs.Laws.{order_pos}
use Rattle.mr_field.proofs.Lookups.{order-le}
use Rattle.mr_field.proofs.Frobenius.{rest, frobenius_times-lt, frobenius_times-frobenius, frobenius_times-zero, frobenius_times-one, frobenius_times-injective}
use Rattle.mr_set.specs.Elements.{is_element, minus}
use Rattle.mr_set.specs.Matroid.{IsBasis}
use Rattle.mr_assign.specs.declared.TheConstants.{VALUES}
use Rattle.mr_assign.proofs.Maps.{get_or-no_values}
use Rattle.mr_graph.specs.declared.edge.Edge.{Edge}
use Rattle.mr_graph.specs.Forest.{HasEdge}
use Rattle.mr_graph.proofs.Edges.{HasEdge-get_or}
use Rattle.mr_linear.specs.Columns.{Dependent}
use Rattle.mr_linear.specs.Matrix.{Grid, height, entry, rows_outside, PartIsDependent, PartIsIndependent}
use Rattle.mr_linear.specs.Representation.{FitsMatroid, HasIdentity}
use Rattle.mr_linear.proofs.Augment.{dependent-same}
use Rattle.mr_linear.proofs.Grids.{height-grid_of, entry-grid_of, entry-lt, IsGrid-grid_of}
use Rattle.mr_frame.specs.Frame.{Framed, IsExchange, IsFrame}
use Rattle.mr_frame.specs.Test.{IsFilledBy, SetFails}
use Rattle.mr_frame.proofs.Filled.{assignments_fill}
use Rattle.mr_frame.proofs.OneVerdict.{one_filled_matrix}
use Rattle.mr_frame.proofs.Uniqueness.{place_exchange}
use Rattle.mr_class.specs.Forms.{IsForm}
use Rattle.mr_auto.specs.Images.{image, image_of_matrix, IsInOrbit}
use Rattle.mr_auto.specs.Laws.{ImagesAreForms, ImagesFillImages}
use Rattle.mr_auto.proofs.Dependence.{dependent-times}
use Rattle.mr_auto.proofs.Images.{HasElements, get_or-image, image-none, image-image, HasElements-image}

-- the image of a unit
times-unit : (f : Gf) (k : ℕ) (b : Bool) → frobenius_times f k (cond b 1 0) ≡ cond b 1 0
times-unit f k true = frobenius_times-one f k
times-unit f k false = frobenius_times-zero f k

-- an element of the basis is one of the matroid
element_below : (f : Framed) → IsFrame f → (k : ℕ) → k < length f.basis → get_or f.basis k 0 < f.matroid.elements
element_below f frame k lt = frame.basis.basis.0.set.elements k 0 lt

module _ (f : Framed) (frame : IsFrame f) (c : List ℕ) (g : Grid) (k : ℕ) (filled : IsFilledBy f c g) where
  -- the entries of the image
  pub entry-image : (i j : ℕ) → i < height g → j < g.cols → entry (image_of_matrix k g) i j ≡ frobenius_times g.field k (entry g i j)
  entry-image i j l m = entry-grid_of g.field (height g) g.cols (λ x y. frobenius_times g.field k (entry g x y)) i j l m

  -- the image fits the matroid
  fits : FitsMatroid f.matroid (image_of_matrix k g)
  fits = record {
    grid = IsGrid-grid_of g.field (height g) g.cols (λ x y. frobenius_times g.field k (entry g x y)) filled.fits.grid.rows
        (λ i j l m. frobenius_times-lt g.field k (entry g i j) (entry-lt g filled.fits.grid i j l m));
    rows = height-grid_of g.field (height g) g.cols (λ x y. frobenius_times g.field k (entry g x y)) ∙ filled.fits.rows;
    cols = filled.fits.cols;
  }

  -- an edge lies in the matrix
  edge_row : (i e : ℕ) → IsExchange f.matroid f.basis i e → i < height g
  edge_row i e edge = subst (λ (n : ℕ). i < n) (sym filled.fits.rows) edge.row

  -- and its column
  edge_col : (i e : ℕ) → IsExchange f.matroid f.basis i e → e < g.cols
  edge_col i e edge = subst (λ (n : ℕ). e < n) (sym filled.fits.cols) edge.element

  -- the image is the identity at the basis
  identity : HasIdentity f.basis (image_of_matrix k g)
  identity i b row lt =
      let inside : i < height g = subst (λ (n : ℕ). i < n) (height-grid_of g.field (height g) g.cols (λ x y. frobenius_times g.field k (entry g x y))) row in
      let col : get_or f.basis b 0 < g.cols = subst (λ (n : ℕ). get_or f.basis b 0 < n) (sym filled.fits.cols) (element_below f frame b lt) in
      entry-image i (get_or f.basis b 0) inside col
      ∙ ap (frobenius_times g.field k) (filled.identity i b inside lt)
      ∙ times-unit g.field k (eqb i b)

  -- the image of an assignment fills the image of its matrix
  pub filled-image : IsFilledBy f (image f.field k c) (image_of_matrix k g)
  filled-image = record {
    fits = fits;
    field = filled.field;
    identity = identity;
    zero = λ i e row col out none.
        entry-image i e (subst (λ (n : ℕ). i < n) (sym filled.fits.rows) row) (subst (λ (n : ℕ). e < n) (sym filled.fits.cols) col)
        ∙ ap (frobenius_times g.field k) (filled.zero i e row col out none) ∙ frobenius_times-zero g.field k;
    one = λ i e edge fixed.
        entry-image i e (edge_row i e edge) (edge_col i e edge)
        ∙ ap (frobenius_times g.field k) (filled.one i e edge fixed) ∙ frobenius_times-one g.field k;
    free = λ p x is.
        let inside = slice_get_within f.places p x is in
        let here : get_or f.places p x ≡ x = get_or_from_slice_get f.places p x x is in
        let has : HasEdge f.places x.row x.col = subst (λ (z : Edge). HasEdge f.places z.row z.col) here (HasEdge-get_or f.places p x inside) in
        let edge = place_exchange f frame x.row x.col has in
        entry-image x.row x.col (edge_row x.row x.col edge) (edge_col x.row x.col edge)
        ∙ ap (frobenius_times g.field k) (filled.free p x is)
        ∙ ap (λ (z : Gf). frobenius_times z k (get_or c p 0)) filled.field
        ∙ sym (get_or-image f.field k c p);
  }

-- the law
pub images_fill_images : ImagesFillImages
images_fill_images f c g k frame filled = filled-image f frame c g k filled

-- a form has elements
pub form_elements : (f : Framed) (c : List ℕ) → IsForm f c → HasElements f.field c
form_elements f c form p = ⊎_elim
    (λ (none : get_or c p 0 ≡ 0). subst (λ (v : ℕ). v < order f.field) (sym none) (order_pos f.field))
    (λ (some : get_or c p 0 ≢ 0). (form.assignment p some).1)
    (cases_eq (get_or c p 0) 0)

module _ (f : Framed) (frame : IsFrame f) (c : List ℕ) (g : Grid) (filled : IsFilledBy f c g) (b x : List ℕ) where
  -- the height of the image
  tall : height (image_of_matrix 1 g) ≡ height g
  tall = height-grid_of g.field (height g) g.cols (λ i j. frobenius_times g.field 1 (entry g i j))

  -- a part with dependent columns has them in the image
  pub dependent-image : PartIsDependent g b x → PartIsDependent (image_of_matrix 1 g) b x
  dependent-image d =
      subst (λ (r : ℕ). Dependent g.field r (rows_outside b x) g.cols (entry (image_of_matrix 1 g)) (is_element (minus x b))) (sym tall)
      (dependent-same g.field (height g) g.cols (rows_outside b x) (rows_outside b x) (λ i j. frobenius_times g.field 1 (entry g i j)) (entry (image_of_matrix 1 g)) (is_element (minus x b)) (is_element (minus x b))
      (λ i l. refl) (λ i j l m. sym (entry-image f frame c g 1 filled i j l m)) (λ j l. refl)
      (dependent-times g.field 1 (height g) (rows_outside b x) g.cols (entry g) (is_element (minus x b)) d))

  -- and the other way round
  pub image-dependent : PartIsDependent (image_of_matrix 1 g) b x → PartIsDependent g b x
  image-dependent d =
      let low : Dependent g.field (height g) (rows_outside b x) g.cols (entry (image_of_matrix 1 g)) (is_element (minus x b)) =
      subst (λ (r : ℕ). Dependent g.field r (rows_outside b x) g.cols (entry (image_of_matrix 1 g)) (is_element (minus x b))) tall d in
      dependent-same g.field (height g) g.cols (rows_outside b x) (rows_outside b x) (λ i j. frobenius_times g.field (rest g.field) (entry (image_of_matrix 1 g) i j)) (entry g) (is_element (minus x b)) (is_element (minus x b))
      (λ i l. refl)
      (λ i j l m. ap (frobenius_times g.field (rest g.field)) (entry-image f frame c g 1 filled i j l m) ∙ frobenius_times-frobenius g.field (entry g i j) (entry-lt g filled.fits.grid i j l m))
      (λ j l. refl)
      (dependent-times g.field (rest g.field) (height g) (rows_outside b x) g.cols (entry (image_of_matrix 1 g)) (is_element (minus x b)) low)

module _ (f : Framed) (frame : IsFrame f) (c : List ℕ) (form : IsForm f c) where
  -- where a value is given the image gives one
  given : (p : ℕ) → get_or c p 0 ≢ 0 → get_or (image f.field 1 c) p 0 ≢ 0
  given p some none = some (frobenius_times-injective f.field 1 (get_or c p 0) 0 (form_elements f c form p) (order_pos f.field)
      (sym (get_or-image f.field 1 c p) ∙ none ∙ sym (frobenius_times-zero f.field 1)))

  -- and nowhere else
  given_back : (p : ℕ) → get_or (image f.field 1 c) p 0 ≢ 0 → get_or c p 0 ≢ 0
  given_back p some none = some (get_or-image f.field 1 c p ∙ ap (frobenius_times f.field 1) none ∙ frobenius_times-zero f.field 1)

  -- no set begins to fail
  none_begins : (x : List ℕ) → SetFails f (image f.field 1 c) x → SetFails f c x
  none_begins x h =
      let there = assignments_fill f c frame form.assignment in
      let g : Grid = there.0 in
      let filled : IsFilledBy f c g = there.1 in
      let same : h.matrix ≡ image_of_matrix 1 g = one_filled_matrix f (image f.field 1 c) h.matrix (image_of_matrix 1 g) h.filled (filled-image f frame c g 1 filled) in
      record {
        size = h.size;
        decided = λ p needs. form.full p (slice_get_within f.places p needs.place needs.is);
        matrix = g;
        filled = filled;
        fails = ⊎_elim
            (λ (q : (IsBasis f.matroid x → ⊥) × PartIsIndependent h.matrix f.basis x). inl (q.0, λ dependent. q.1 (subst (λ (z : Grid). PartIsDependent z f.basis x) (sym same) (dependent-image f frame c g filled f.basis x dependent))))
            (λ (q : IsBasis f.matroid x × PartIsDependent h.matrix f.basis x). inr (q.0, image-dependent f frame c g filled f.basis x (subst (λ (z : Grid). PartIsDependent z f.basis x) same q.1)))
            h.fails;
      }

  -- the image is a form
  pub form-image : IsForm f (image f.field 1 c)
  form-image = record {
    map = record {
      positions = length-map c (frobenius_times f.field 1) ∙ form.map.positions;
      values = All-from_get_or (λ v. v ≤ VALUES) (image f.field 1 c) 0 (λ p lt. (let low = HasElements-image f.field 1 c (form_elements f c form) p in let few = order-le f.field in omega arith));
    };
    assignment = λ p some. ((form.assignment p (given_back p some)).0, HasElements-image f.field 1 c (form_elements f c form) p);
    full = λ p lt. given p (form.full p lt);
    contains = λ p some. absurd (some (get_or-no_values p));
    holds = λ x h. form.holds x (none_begins x h);
  }

-- so are those of all k
pub images_are_forms : ImagesAreForms
images_are_forms f c zero frame form = subst (IsForm f) (sym (image-none f.field c)) form
images_are_forms f c (suc k) frame form =
    let next : 1 + k ≡ suc k = omega arith in
    subst (IsForm f) (image-image f.field 1 k c ∙ ap (λ n. image f.field n c) next) (form-image f frame (image f.field k c) (images_are_forms f c k frame form))

-- the images of a form are in the list of all forms
pub closed_forms : (f : Framed) (forms : List (List ℕ)) → IsFrame f → ((c : List ℕ) → Contains forms c ↔ IsForm f c) → (c d : List ℕ) → Contains forms c → IsInOrbit f.field c d → Contains forms d
closed_forms f forms frame exactly c d inside image_of =
    subst (Contains forms) (sym image_of.2) ((exactly (image f.field image_of.0 c)).1 (images_are_forms f c image_of.0 frame ((exactly c).0 inside)))

-- and have elements
pub listed_elements : (f : Framed) (forms : List (List ℕ)) → ((c : List ℕ) → Contains forms c ↔ IsForm f c) → (c : List ℕ) → Contains forms c → HasElements f.field c
listed_elements f forms exactly c inside = form_elements f c ((exactly c).0 inside)
