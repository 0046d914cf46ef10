-- The orbits of forms are, by their matrices, the orbits of the answer.
use Rattle.std.proofs.Common.{ℕ, ◌<◌, ◌≡◌, ◌≢◌, List, [], ◌∷◌, length, get_or, map, refl, sym, ap, ap₂, subst, ◌∙◌, ⊎_elim, arith}
use Rattle.std.specs.Prelude.{AllPairs, Contains}
use Rattle.std.specs.List.{AllZip}
use Rattle.std.specs.declared.cmp.Ordering.TheVariants.{Less}
use Rattle.std.proofs.lemmas.List.{length-map, get_or_default}
use Rattle.std.proofs.lemmas.List.Elements.{Contains-get_or}
use Rattle.std.proofs.Math.ListN.{get_or-map}
use Rattle.mr_field.specs.Gf.{Gf, degree}
use Rattle.mr_set.specs.Subsets.{list_cmp}
use Rattle.mr_set.proofs.Ordered.{member_first, member_later, member_cases, member_none}
use Rattle.mr_linear.specs.Matrix.{Grid, grid_cmp}
use Rattle.mr_frame.specs.Frame.{Framed, IsFrame}
use Rattle.mr_frame.specs.Test.{IsFilledBy}
use Rattle.mr_frame.proofs.OneVerdict.{one_filled_matrix}
use Rattle.mr_class.specs.Forms.{IsForm}
use Rattle.mr_class.proofs.InOrder.{forms_in_order}
use Rattle.mr_class.proofs.FormsAndMatrices.{matrix_in, form_in, matrices_rise}
use Rattle.mr_class.proofs.LawsOfForms.{forms_are_members, members_come_from_one_form}
use Rattle.mr_class.proofs.Reading.{assignments_same}
use Rattle.mr_auto.specs.declared.orbit.Orbit.{Orbit}
use Rattle.mr_auto.specs.Images.{image, image_of_matrix, IsInOrbit, HasSize, IsLeast, HasMatrixSize, IsLeastMatrix}
use Rattle.mr_auto.specs.Orbits.{leasts}
use Rattle.mr_auto.specs.Laws.{OrbitsOfFormsAreOrbitsOfMatrices}
use Rattle.mr_auto.proofs.Forms.{images_are_forms, images_fill_images}
use Rattle.mr_auto.proofs.Partition.{least_listed}

-- each member of an orbit is an image, for a number of times
numbers_of : (f : Gf) (c : List ℕ) (ds : List (List ℕ)) → ((d : List ℕ) → Contains ds d → IsInOrbit f c d) → (ks : List ℕ) × ((k : ℕ) → Contains ks k → k < degree f) × (map (λ k. image f k c) ks ≡ ds)
numbers_of f c [] inside = ([], (λ k none. absurd (member_none k none)), refl)
numbers_of f c (d ∷ ds) inside =
    let here = inside d (member_first d ds) in
    let rest = numbers_of f c ds (λ e later. inside e (member_later d ds e later)) in (
      here.0 ∷ rest.0,
      (λ k among. ⊎_elim
          (λ (same : here.0 ≡ k). subst (λ (n : ℕ). n < degree f) same here.1)
          (λ (later : Contains rest.0 k). rest.1 k later)
          (member_cases here.0 rest.0 k among)),
      ap₂ (λ x xs. x ∷ xs) (sym here.2) rest.2,
    )

-- what stands at a place of a list of images
map_at : {X : Type 0} (image_of : ℕ → X) (ks : List ℕ) (i : ℕ) (d : X) → i < length (map image_of ks) → get_or (map image_of ks) i d ≡ image_of (get_or ks i 0)
map_at image_of ks i d lt = get_or_default (map image_of ks) i d (image_of 0) lt ∙ get_or-map image_of ks i 0

module _ (f : Framed) (frame : IsFrame f) (c : List ℕ) (g : Grid) (form : IsForm f c) (filled : IsFilledBy f c g) where
  -- the matrix is over the field
  same_degree : degree g.field ≡ degree f.field
  same_degree = ap degree filled.field

  -- images are in the order of their matrices
  same_order : (k : ℕ) → list_cmp (image f.field k c) c ≡ grid_cmp (image_of_matrix k g) g
  same_order k = forms_in_order f (image f.field k c) c (image_of_matrix k g) g frame (images_are_forms f c k frame form) form (images_fill_images f c g k frame filled) filled

  -- the matrix of a least form is least
  pub least_matrix : IsLeast f.field c → IsLeastMatrix g
  least_matrix least h (k, lt, is) less =
      least (image f.field k c) (k, subst (λ (n : ℕ). k < n) same_degree lt, refl) (same_order k ∙ subst (λ (z : Grid). grid_cmp z g ≡ Less) is less)

  -- and the form of a least matrix is least
  pub least_form : IsLeastMatrix g → IsLeast f.field c
  least_form least d (k, lt, is) less =
      least (image_of_matrix k g) (k, subst (λ (n : ℕ). k < n) (sym same_degree) lt, refl) (sym (same_order k) ∙ subst (λ (x : List ℕ). list_cmp x c ≡ Less) is less)

  -- images with one matrix are one
  same_image : (i j : ℕ) → image_of_matrix i g ≡ image_of_matrix j g → image f.field i c ≡ image f.field j c
  same_image i j same =
      let first = images_are_forms f c i frame form in
      let second = images_are_forms f c j frame form in
      assignments_same f frame (image f.field i c) (image f.field j c) (image_of_matrix j g) first.map second.map first.assignment second.assignment
      (subst (IsFilledBy f (image f.field i c)) same (images_fill_images f c g i frame filled)) (images_fill_images f c g j frame filled)

  -- and one image has one matrix
  same_matrix : (i j : ℕ) → image f.field i c ≡ image f.field j c → image_of_matrix i g ≡ image_of_matrix j g
  same_matrix i j same = one_filled_matrix f (image f.field j c) (image_of_matrix i g) (image_of_matrix j g)
      (subst (λ (x : List ℕ). IsFilledBy f x (image_of_matrix i g)) same (images_fill_images f c g i frame filled)) (images_fill_images f c g j frame filled)

  -- so the orbits of a form and of its matrix have as many members
  pub matrix_size : (n : ℕ) → HasSize f.field c n → HasMatrixSize g n
  matrix_size n has =
      let numbers = numbers_of f.field c has.members (λ d inside. (has.exactly d).0 inside) in
      let ks : List ℕ = numbers.0 in
      let forms : List (List ℕ) = map (λ k. image f.field k c) ks in
      let grids : List Grid = map (λ k. image_of_matrix k g) ks in
      let long : length forms ≡ length ks = length-map ks (λ k. image f.field k c) in
      let wide : length grids ≡ length ks = length-map ks (λ k. image_of_matrix k g) in
      let apart : AllPairs (λ (x y : List ℕ). x ≢ y) forms = subst (AllPairs (λ (x y : List ℕ). x ≢ y)) (sym numbers.2) has.distinct in
      record {
        members = grids;
        distinct = λ i j d lt inside same.
            let at_i : get_or grids i d ≡ image_of_matrix (get_or ks i 0) g = map_at (λ k. image_of_matrix k g) ks i d (omega arith) in
            let at_j : get_or grids j d ≡ image_of_matrix (get_or ks j 0) g = map_at (λ k. image_of_matrix k g) ks j d inside in
            let one : image f.field (get_or ks i 0) c ≡ image f.field (get_or ks j 0) c = same_image (get_or ks i 0) (get_or ks j 0) (sym at_i ∙ same ∙ at_j) in
            let here : get_or forms i [] ≡ image f.field (get_or ks i 0) c = map_at (λ k. image f.field k c) ks i [] (omega arith) in
            let there : get_or forms j [] ≡ image f.field (get_or ks j 0) c = map_at (λ k. image f.field k c) ks j [] (omega arith) in
            apart i j [] lt (omega arith) (here ∙ one ∙ sym there);
        exactly = λ h. (
          λ inside.
              let within : inside.0 < length ks = let l = inside.1 in omega arith in (
                get_or ks inside.0 0,
                subst (λ (m : ℕ). get_or ks inside.0 0 < m) (sym same_degree) (numbers.1 (get_or ks inside.0 0) (Contains-get_or ks inside.0 0 within)),
                sym inside.2 ∙ map_at (λ k. image_of_matrix k g) ks inside.0 h inside.1,
              ),
          λ image_is.
              let k : ℕ = image_is.0 in
              let d : List ℕ = image f.field k c in
              let listed : Contains forms d = subst (λ (xs : List (List ℕ)). Contains xs d) (sym numbers.2) ((has.exactly d).1 (k, subst (λ (m : ℕ). k < m) same_degree image_is.1, refl)) in
              let within : listed.0 < length grids = let l = listed.1 in omega arith in
              let one : image f.field (get_or ks listed.0 0) c ≡ image f.field k c = sym (map_at (λ j. image f.field j c) ks listed.0 d listed.1) ∙ listed.2 in (
                listed.0,
                within,
                map_at (λ j. image_of_matrix j g) ks listed.0 h within ∙ same_matrix (get_or ks listed.0 0) k one ∙ sym image_is.2,
              ),
        );
        size = wide ∙ sym long ∙ ap length numbers.2 ∙ has.size;
      }

-- the orbits of the matrices, one by one
sizes_of : (f : Framed) → IsFrame f → (orbits : List Orbit) (matrices : List Grid) → AllZip (IsFilledBy f) (leasts orbits) matrices → ((o : Orbit) → Contains orbits o → IsForm f o.least × HasSize f.field o.least o.size) → AllZip HasMatrixSize matrices (map (λ o. o.size) orbits)
sizes_of f frame [] [] zip each = tt
sizes_of f frame [] (g ∷ gs) zip each = absurd zip
sizes_of f frame (o ∷ os) [] zip each = absurd zip
sizes_of f frame (o ∷ os) (g ∷ gs) zip each =
    let here = each o (member_first o os) in
    (matrix_size f frame o.least g here.0 zip.0 o.size here.1, sizes_of f frame os gs zip.1 (λ p later. each p (member_later o os p later)))

-- the law
pub orbits_of_matrices : OrbitsOfFormsAreOrbitsOfMatrices
orbits_of_matrices f forms orbits matrices frame exactly are zip = record {
  increasing = matrices_rise f frame (leasts orbits) matrices zip (λ d inside. (exactly d).0 ((are.exactly d).0 inside).0) are.increasing;
  exactly = λ g. (
    λ inside.
        let found = form_in f (leasts orbits) matrices zip g inside in
        let told = (are.exactly found.0).0 found.1 in
        let form = (exactly found.0).0 told.0 in
        (forms_are_members f found.0 g frame form found.2, least_matrix f frame found.0 g form found.2 told.1),
    λ member.
        let source = members_come_from_one_form f g frame member.0 in
        let least = least_form f frame source.form g source.is source.filled member.1 in
        let found = matrix_in f (leasts orbits) matrices zip source.form ((are.exactly source.form).1 ((exactly source.form).1 source.is, least)) in
        let same : found.0 ≡ g = one_filled_matrix f source.form found.0 g found.2 source.filled in
        subst (Contains matrices) same found.1,
  );
  sizes_are = sizes_of f frame orbits matrices zip (λ o inside. ((exactly o.least).0 ((are.exactly o.least).0 (least_listed orbits o inside)).0, are.sizes o inside));
}
