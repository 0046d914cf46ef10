-- What is kept of each set for its test.
use Rattle.std.proofs.Common.{ℕ, false, ◌+◌, ◌≡◌, ◌≢◌, List, [], ◌∷◌, ◌++◌, length, get_or, refl, sym, ap, subst, ◌∙◌, ⊎_elim, arith, length-append}
use Rattle.std.specs.Prelude.{◌<◌, Contains, Some, slice_get}
use Rattle.std.proofs.lemmas.Bool.{cases_eq}
use Rattle.std.proofs.lemmas.List.{get_or_push, get_or_append_left, get_or_default, get_or-map, same_lists, length-map}
use Rattle.std.specs.Prelude.{map}
use Rattle.std.proofs.lemmas.List.Elements.{Contains-get_or}
use Rattle.std.proofs.lemmas.Option.{slice_get_within, slice_get-get_or, same_Some}
use Rattle.mr_set.specs.Elements.{IsSet}
use Rattle.mr_set.specs.Subsets.{IsSetOf}
use Rattle.mr_set.specs.Matroid.{Presentation}
use Rattle.mr_graph.specs.declared.edge.Edge.{Edge}
use Rattle.mr_frame.specs.Private.Building.{AreSets, HasAndNot, AreLast}
use Rattle.mr_frame.specs.Private.Parts.{IsPartOfSet, AreParts}
use Rattle.mr_frame.specs.declared.part.Part.{Part}

-- so many sets have theirs
pub record ArePartsTo (m : Presentation) (b : List ℕ) (sets : List (List ℕ)) (parts : List Part) (n : ℕ) : Type 0 where
  pub count : length parts ≡ n
  pub each : (k : ℕ) (part : Part) → slice_get parts k ≡ Some part → IsPartOfSet m b (get_or sets k []) part

module _ (m : Presentation) (b : List ℕ) (sets : List (List ℕ)) where
  -- none so far
  pub parts_none : ArePartsTo m b sets [] 0
  parts_none = record { count = refl; each = λ k part is. let lt = slice_get_within {A = Part} [] k part is in absurd (omega arith) }

  -- one more
  pub parts_more : (parts : List Part) (n : ℕ) (part : Part) → ArePartsTo m b sets parts n → IsPartOfSet m b (get_or sets n []) part → ArePartsTo m b sets (parts ++ part ∷ []) (n + 1)
  parts_more parts n part are new = record {
    count = length-append parts (part ∷ []) ∙ ap (λ (k : ℕ). k + 1) are.count;
    each = λ k other is.
        let lt = slice_get_within (parts ++ part ∷ []) k other is in
        let long = length-append parts (part ∷ []) in
        let count = are.count in
        ⊎_elim
        (λ (same : k ≡ n).
        let last : get_or (parts ++ part ∷ []) n part ≡ part = get_or_push parts part part n are.count in
        let here : slice_get (parts ++ part ∷ []) n ≡ Some part = slice_get-get_or (parts ++ part ∷ []) n part (omega arith) ∙ ap Some last in
        let equal : part ≡ other = same_Some part other (sym here ∙ ap (slice_get (parts ++ part ∷ [])) (sym same) ∙ is) in
        subst (λ (j : ℕ). IsPartOfSet m b (get_or sets j []) other) (sym same) (subst (IsPartOfSet m b (get_or sets n [])) equal new))
        (λ (differs : k ≢ n).
        let within : k < length parts = omega arith in
        let left : get_or (parts ++ part ∷ []) k part ≡ get_or parts k part = get_or_append_left parts (part ∷ []) part k within in
        let there : slice_get parts k ≡ Some other =
        slice_get-get_or parts k part within ∙ ap Some (sym left) ∙ sym (slice_get-get_or (parts ++ part ∷ []) k part (omega arith)) ∙ is in
        are.each k other there)
        (cases_eq k n);
  }

-- so many lists have theirs
pub record ArePartListsTo (m : Presentation) (b : List ℕ) (due : List (List (List ℕ))) (parts : List (List Part)) (n : ℕ) : Type 0 where
  pub count : length parts ≡ n
  pub each : (p : ℕ) → p < n → AreParts m b (get_or due p []) (get_or parts p [])

module _ (m : Presentation) (b : List ℕ) (due : List (List (List ℕ))) where
  -- none so far
  pub part_lists_none : ArePartListsTo m b due [] 0
  part_lists_none = record { count = refl; each = λ p lt. absurd (omega arith) }

  -- one more
  pub part_lists_more : (parts : List (List Part)) (n : ℕ) (list : List Part) → ArePartListsTo m b due parts n → AreParts m b (get_or due n []) list → ArePartListsTo m b due (parts ++ list ∷ []) (n + 1)
  part_lists_more parts n list are new = record {
    count = length-append parts (list ∷ []) ∙ ap (λ (k : ℕ). k + 1) are.count;
    each = λ p lt. ⊎_elim
        (λ (same : p ≡ n).
        subst (λ (j : ℕ). AreParts m b (get_or due j []) (get_or (parts ++ list ∷ []) j [])) (sym same)
        (subst (AreParts m b (get_or due n [])) (sym (get_or_push parts list [] n are.count)) new))
        (λ (other : p ≢ n).
        let within : p < n = omega arith in
        subst (AreParts m b (get_or due p [])) (sym (get_or_append_left parts (list ∷ []) [] p (let s = are.count in omega arith))) (are.each p within))
        (cases_eq p n);
  }

-- the sets of the lists are sets of elements
pub due_are_sets : (n r : ℕ) (places : List Edge) (b : List ℕ) (tests due : List (List (List ℕ))) → ((p : ℕ) (x : Edge) → slice_get places p ≡ Some x → AreSets n r (HasAndNot x.col (get_or b x.row 0)) (get_or tests p [])) →
    length tests ≡ length places → length due ≡ length tests → ((p : ℕ) → p < length tests → AreLast places b p (get_or tests p []) (get_or due p [])) →
    (p : ℕ) → p < length due → (k : ℕ) → k < length (get_or due p []) → IsSet n (get_or (get_or due p []) k [])
due_are_sets n r places b tests due are count size last p pl k kl =
    let place : Edge = get_or places p (record { row = 0; col = 0 }) in
    let here : slice_get places p ≡ Some place = slice_get-get_or places p (record { row = 0; col = 0 }) (omega arith) in
    let sets = are p place here in
    let chosen = last p (omega arith) in
    let has : Contains (get_or due p []) (get_or (get_or due p []) k []) = Contains-get_or (get_or due p []) k [] kl in
    let set_of : IsSetOf n r (get_or (get_or due p []) k []) = ((sets.exactly (get_or (get_or due p []) k [])).0 ((chosen.exactly (get_or (get_or due p []) k [])).0 has).0).0 in
    set_of.set

-- the sets of the parts are those of the list
pub sets_of_parts : (m : Presentation) (b : List ℕ) (sets : List (List ℕ)) (parts : List Part) → AreParts m b sets parts → map (λ (q : Part). q.set) parts ≡ sets
sets_of_parts m b sets parts are = same_lists (map (λ (q : Part). q.set) parts) sets (length-map parts (λ (q : Part). q.set) ∙ are.count) (λ k d lt.
    let long = length-map parts (λ (q : Part). q.set) in
    let count = are.count in
    let fits : k < length parts = omega arith in
    let none : Part = record { set = []; rows = []; columns = []; basis = false } in
    let part : Part = get_or parts k none in
    get_or-map (λ (q : Part). q.set) parts k none d fits ∙ (are.each k part (slice_get-get_or parts k none fits)).set ∙ get_or_default sets k [] d (omega arith))
