-- The blocks of matrices, one after another.
use Rattle.std.proofs.Common.{◌≡◌, ◌≢◌, ℕ, ◌+◌, ◌<◌, ◌≤◌, List, [], ◌∷◌, ◌++◌, length, take, get_or, map, refl, sym, ap, subst, ◌∙◌, arith, codes, append-nil, append_assoc}
use Rattle.std.specs.Prelude.{All, Contains, decimal, flat_map, sum, sum_by}
use Rattle.std.specs.List.{AllZip}
use Rattle.std.proofs.lemmas.Cmp.{nat_list_cmp_total}
use Rattle.std.proofs.lemmas.List.{take_more, take_all, map-append, length-map, nil_from_length}
use Rattle.std.proofs.lemmas.List.Concat.{flat_map-append, flat_map-cons}
use Rattle.std.proofs.lemmas.List.Elements.{Contains-get_or, All-contains}
use Rattle.std.proofs.lemmas.List.Sums.{sum_by-cons}
use Rattle.mr_field.specs.Gf.{Gf, order}
use Rattle.mr_set.proofs.Ordered.{member_first, member_none, length-le_from_members}
use Rattle.mr_linear.specs.Matrix.{Grid}
use Rattle.mr_text.specs.Text.{text_of_lines}
use Rattle.mr_assign.specs.Assign.{no_values}
use Rattle.mr_frame.specs.Frame.{Framed, IsFrame}
use Rattle.mr_frame.specs.Test.{IsFilledBy}
use Rattle.mr_class.specs.Forms.{IsForm}
use Rattle.mr_matrix.specs.Block.{block_lines, block_text}
use Rattle.mr_exchange.specs.declared.TheConstants.{NODES}
use Rattle.mr_exchange.specs.Right.{AreCompletions}
use Rattle.mr_merge.proofs.Answering.{forms_give_the_answer}
use Rattle.mr_auto.specs.declared.orbit.Orbit.{Orbit}
use Rattle.mr_auto.specs.Orbits.{leasts, AreOrbits, IsInOneOrbit}
use Rattle.mr_auto.proofs.Matrices.{orbits_of_matrices}
use Rattle.mr_auto.proofs.Partition.{least_listed}
use Rattle.matrep.specs.Texts.{orbit_lines, classes_text, orbits_text}
use Rattle.matrep.specs.Solving.{ListsClasses, ListsOrbits}
use Rattle.matrep.specs.Private.Searched.{AreForms}
use Rattle.matrep.specs.Private.Listing.{AppendsBlock, AppendsBlocks, AppendsOrbits}

-- one more pair
zip_push : {A B : Type 0} (R : A → B → Type 0) (xs : List A) (ys : List B) (x : A) (y : B) → AllZip R xs ys → R x y → AllZip R (xs ++ x ∷ []) (ys ++ y ∷ [])
zip_push R [] [] x y zip last = (last, tt)
zip_push R [] (z ∷ ys) x y zip last = absurd zip
zip_push R (w ∷ xs) [] x y zip last = absurd zip
zip_push R (w ∷ xs) (z ∷ ys) x y zip last = (zip.0, zip_push R xs ys x y zip.1 last)

-- as many on the left as on the right
zip_length : {A B : Type 0} (R : A → B → Type 0) (xs : List A) (ys : List B) → AllZip R xs ys → length xs ≡ length ys
zip_length R [] [] zip = refl
zip_length R [] (y ∷ ys) zip = absurd zip
zip_length R (x ∷ xs) [] zip = absurd zip
zip_length R (x ∷ xs) (y ∷ ys) zip = let rest = zip_length R xs ys zip.1 in omega arith

-- where there are some on the left, there are some on the right
zip_some : {A B : Type 0} (R : A → B → Type 0) (xs : List A) (ys : List B) → AllZip R xs ys → xs ≢ [] → ys ≢ []
zip_some R xs ys zip some none =
    let size = zip_length R xs ys zip in
    let empty : length ys ≡ 0 = ap length none in
    some (nil_from_length xs (omega arith))

-- one more item is taken
take_one : {X : Type 0} (xs : List X) (i : ℕ) (x : X) → i < length xs → x ≡ get_or xs i x → take (i + 1) xs ≡ take i xs ++ x ∷ []
take_one xs i x lt is = take_more xs i x lt ∙ ap (λ y. take i xs ++ y ∷ []) (sym is)

-- a text after lines is a text of more lines
lines_more : (old mid new : List ℕ) (front back : List (List ℕ)) → mid ≡ old ++ text_of_lines front → new ≡ mid ++ text_of_lines back → new ≡ old ++ text_of_lines (front ++ back)
lines_more old mid new front back first second =
    second ∙ ap (λ (t : List ℕ). t ++ text_of_lines back) first ∙ append_assoc old (text_of_lines front) (text_of_lines back)
    ∙ ap (λ (t : List ℕ). old ++ t) (sym (flat_map-append (λ (line : List ℕ). line ++ 10 ∷ []) front back))

-- the text of one line
one_line : (line : List ℕ) → text_of_lines (line ∷ []) ≡ line ++ 10 ∷ []
one_line line = flat_map-cons (λ (w : List ℕ). w ++ 10 ∷ []) line [] ∙ append-nil (line ++ 10 ∷ [])

-- nothing was appended
pub blocks_none : (f : Framed) (text : List ℕ) → AppendsBlocks f [] text text
blocks_none f text = record { matrices = []; filled = tt; text = sym (append-nil text) }

-- one more block
pub blocks_more : (f : Framed) (forms : List (List ℕ)) (i : ℕ) (form old mid new : List ℕ) → i < length forms → form ≡ get_or forms i form → AppendsBlocks f (take i forms) old mid → AppendsBlock f form mid new → AppendsBlocks f (take (i + 1) forms) old new
blocks_more f forms i form old mid new lt is before last = record {
  matrices = before.matrices ++ last.matrix ∷ [];
  filled = subst (λ (xs : List (List ℕ)). AllZip (IsFilledBy f) xs (before.matrices ++ last.matrix ∷ [])) (sym (take_one forms i form lt is))
      (zip_push (IsFilledBy f) (take i forms) before.matrices form last.matrix before.filled last.filled);
  text = lines_more old mid new (flat_map block_lines before.matrices) (block_lines last.matrix) before.text last.text
      ∙ ap (λ (ls : List (List ℕ)). old ++ text_of_lines ls)
      (ap (λ (ls : List (List ℕ)). flat_map block_lines before.matrices ++ ls) (sym (append-nil (block_lines last.matrix)) ∙ sym (flat_map-cons block_lines last.matrix []))
      ∙ sym (flat_map-append block_lines before.matrices (last.matrix ∷ [])));
}

-- all of them
pub blocks_all : (f : Framed) (forms : List (List ℕ)) (i : ℕ) (old new : List ℕ) → length forms ≤ i → AppendsBlocks f (take i forms) old new → AppendsBlocks f forms old new
blocks_all f forms i old new le put = subst (λ (xs : List (List ℕ)). AppendsBlocks f xs old new) (take_all i forms le) put

-- the lines of one more orbit
orbit_lines_push : (matrices : List Grid) (sizes : List ℕ) (g : Grid) (size : ℕ) → length matrices ≡ length sizes → orbit_lines (matrices ++ g ∷ []) (sizes ++ size ∷ []) ≡ orbit_lines matrices sizes ++ ((codes "orbit " ++ decimal size) ∷ block_lines g)
orbit_lines_push [] [] g size same = ap (λ (ls : List (List ℕ)). (codes "orbit " ++ decimal size) ∷ ls) (append-nil (block_lines g))
orbit_lines_push [] (s ∷ sizes) g size same = absurd (omega arith)
orbit_lines_push (h ∷ matrices) [] g size same = absurd (omega arith)
orbit_lines_push (h ∷ matrices) (s ∷ sizes) g size same =
    let rest = orbit_lines_push matrices sizes g size (omega arith) in
    ap (λ (ls : List (List ℕ)). (codes "orbit " ++ decimal s) ∷ ls)
    (ap (λ (ls : List (List ℕ)). block_lines h ++ ls) rest ∙ sym (append_assoc (block_lines h) (orbit_lines matrices sizes) ((codes "orbit " ++ decimal size) ∷ block_lines g)))

-- nothing was appended
pub orbits_none : (f : Framed) (text : List ℕ) → AppendsOrbits f [] text text
orbits_none f text = record { matrices = []; filled = tt; text = sym (append-nil text) }

-- one more orbit
pub orbits_more : (f : Framed) (orbits : List Orbit) (i : ℕ) (o : Orbit) (old mid line new : List ℕ) → i < length orbits → o ≡ get_or orbits i o → AppendsOrbits f (take i orbits) old mid
    → line ≡ mid ++ ((codes "orbit " ++ decimal o.size) ++ 10 ∷ []) → AppendsBlock f o.least line new → AppendsOrbits f (take (i + 1) orbits) old new
orbits_more f orbits i o old mid line new lt is before sized last =
    let taken : take (i + 1) orbits ≡ take i orbits ++ o ∷ [] = take_one orbits i o lt is in
    let first : List Orbit = take i orbits in
    let sizes : List ℕ = map (λ (x : Orbit). x.size) first in
    let count : length before.matrices ≡ length sizes = sym (zip_length (IsFilledBy f) (leasts first) before.matrices before.filled) ∙ length-map first (λ (x : Orbit). x.least) ∙ sym (length-map first (λ (x : Orbit). x.size)) in
    let header : List ℕ = codes "orbit " ++ decimal o.size in
    let begun : line ≡ old ++ text_of_lines (orbit_lines before.matrices sizes ++ header ∷ []) =
    lines_more old mid line (orbit_lines before.matrices sizes) (header ∷ []) before.text (sized ∙ ap (λ (t : List ℕ). mid ++ t) (sym (one_line header))) in
    let whole : new ≡ old ++ text_of_lines ((orbit_lines before.matrices sizes ++ header ∷ []) ++ block_lines last.matrix) =
    lines_more old line new (orbit_lines before.matrices sizes ++ header ∷ []) (block_lines last.matrix) begun last.text in
    let lines : (orbit_lines before.matrices sizes ++ header ∷ []) ++ block_lines last.matrix ≡ orbit_lines (before.matrices ++ last.matrix ∷ []) (sizes ++ o.size ∷ []) =
    append_assoc (orbit_lines before.matrices sizes) (header ∷ []) (block_lines last.matrix) ∙ sym (orbit_lines_push before.matrices sizes last.matrix o.size count) in
    subst (λ (os : List Orbit). AppendsOrbits f os old new) (sym taken) (record {
      matrices = before.matrices ++ last.matrix ∷ [];
      filled = subst (λ (xs : List (List ℕ)). AllZip (IsFilledBy f) xs (before.matrices ++ last.matrix ∷ [])) (sym (map-append (λ (x : Orbit). x.least) first (o ∷ [])))
          (zip_push (IsFilledBy f) (leasts first) before.matrices o.least last.matrix before.filled last.filled);
      text = whole ∙ ap (λ (ls : List (List ℕ)). old ++ text_of_lines ls) (lines ∙ ap (orbit_lines (before.matrices ++ last.matrix ∷ [])) (sym (map-append (λ (x : Orbit). x.size) first (o ∷ []))));
    })

-- all of them
pub orbits_all : (f : Framed) (orbits : List Orbit) (i : ℕ) (old new : List ℕ) → length orbits ≤ i → AppendsOrbits f (take i orbits) old new → AppendsOrbits f orbits old new
orbits_all f orbits i old new le put = subst (λ (os : List Orbit). AppendsOrbits f os old new) (take_all i orbits le) put

-- a text that begins with a line
begun_with : (start line_at new line : List ℕ) (lines : List (List ℕ)) → start ≡ [] → line_at ≡ start ++ (line ++ 10 ∷ []) → new ≡ line_at ++ text_of_lines lines → new ≡ text_of_lines (line ∷ lines)
begun_with start line_at new line lines empty first rest =
    rest ∙ ap (λ (t : List ℕ). t ++ text_of_lines lines) (first ∙ ap (λ (t : List ℕ). t ++ (line ++ 10 ∷ [])) empty) ∙ sym (flat_map-cons (λ (w : List ℕ). w ++ 10 ∷ []) line lines)

-- the listed matrices are the answer
pub classes_listed : (f : Framed) (forms : List (List ℕ)) (nodes count : ℕ) (start line_at new : List ℕ) → IsFrame f → AreForms f NODES forms → length forms ≤ nodes → count ≡ length forms → start ≡ []
    → line_at ≡ start ++ ((codes "representations " ++ decimal count ++ codes " field " ++ decimal (order f.field)) ++ 10 ∷ []) → AppendsBlocks f forms line_at new → ListsClasses f.field nodes f.matroid new
classes_listed f forms nodes count start line_at new frame all few size empty line put =
    let same : length forms ≡ length put.matrices = zip_length (IsFilledBy f) forms put.matrices put.filled in
    record {
      answer = put.matrices;
      is_answer = forms_give_the_answer f forms put.matrices frame all.are put.filled;
      some = zip_some (IsFilledBy f) forms put.matrices put.filled all.some;
      few = omega arith;
      text_is = begun_with start line_at new (codes "representations " ++ decimal count ++ codes " field " ++ decimal (order f.field)) (flat_map block_lines put.matrices) empty line put.text
          ∙ ap (λ (n : ℕ). text_of_lines ((codes "representations " ++ decimal n ++ codes " field " ++ decimal (order f.field)) ∷ flat_map block_lines put.matrices)) (size ∙ same);
    }

-- the sizes add up
sum-map : (orbits : List Orbit) → sum (map (λ (o : Orbit). o.size) orbits) ≡ sum_by (λ o. o.size) orbits
sum-map [] = refl
sum-map (o ∷ orbits) =
    sum_by-cons (λ (n : ℕ). n) o.size (map (λ (p : Orbit). p.size) orbits) ∙ ap (λ (n : ℕ). o.size + n) (sum-map orbits) ∙ sym (sum_by-cons (λ (p : Orbit). p.size) o orbits)

-- a list that is not empty has a first member
has_member : {X : Type 0} (xs : List X) → xs ≢ [] → (x : X) × Contains xs x
has_member [] some = absurd (some refl)
has_member (x ∷ xs) some = (x, member_first x xs)

module _ (f : Framed) (forms : List (List ℕ)) (orbits : List Orbit) (all : AreForms f NODES forms) (are : AreOrbits f.field forms orbits) where
  -- the least members are forms
  pub least_forms : All (λ (o : Orbit). IsForm f o.least) orbits
  least_forms k d lt = (all.are.exactly (get_or orbits k d).least).0 ((are.exactly (get_or orbits k d).least).0 (least_listed orbits (get_or orbits k d) (Contains-get_or orbits k d lt))).0

  -- there are no more orbits than forms
  pub few_orbits : length orbits ≤ NODES
  few_orbits =
      let most = length-le_from_members nat_list_cmp_total forms (leasts orbits) are.increasing all.are.increasing (λ c inside. ((are.exactly c).0 inside).0) in
      let size = length-map orbits (λ (o : Orbit). o.least) in
      let few = all.few in
      omega arith

  -- the listed orbits are those of the answer
  pub orbits_listed : (nodes count : ℕ) (start line_at new : List ℕ) → IsFrame f → ((c : List ℕ) → IsForm f c → IsInOneOrbit f.field orbits c) → sum_by (λ o. o.size) orbits ≡ length forms → length forms ≤ nodes → count ≡ length orbits → start ≡ []
      → line_at ≡ start ++ ((codes "orbits " ++ decimal count ++ codes " field " ++ decimal (order f.field)) ++ 10 ∷ []) → AppendsOrbits f orbits line_at new → ListsOrbits f.field nodes f.matroid new
  orbits_listed nodes count start line_at new frame each whole few size empty line put =
      let sizes : List ℕ = map (λ (o : Orbit). o.size) orbits in
      let same : length orbits ≡ length put.matrices = sym (length-map orbits (λ (o : Orbit). o.least)) ∙ zip_length (IsFilledBy f) (leasts orbits) put.matrices put.filled in
      let first = has_member forms all.some in
      let one = each first.0 ((all.are.exactly first.0).0 first.1) in
      let total : sum sizes ≡ length forms = sum-map orbits ∙ whole in
      record {
        leasts = put.matrices;
        sizes = sizes;
        are_orbits = orbits_of_matrices f forms orbits put.matrices frame all.are.exactly are put.filled;
        some = zip_some (IsFilledBy f) (leasts orbits) put.matrices put.filled (λ none. member_none one.orbit.least (subst (λ (cs : List (List ℕ)). Contains cs one.orbit.least) none (least_listed orbits one.orbit one.listed)));
        few = omega arith;
        text_is = begun_with start line_at new (codes "orbits " ++ decimal count ++ codes " field " ++ decimal (order f.field)) (orbit_lines put.matrices sizes) empty line put.text
            ∙ ap (λ (n : ℕ). text_of_lines ((codes "orbits " ++ decimal n ++ codes " field " ++ decimal (order f.field)) ∷ orbit_lines put.matrices sizes)) (size ∙ same);
      }
