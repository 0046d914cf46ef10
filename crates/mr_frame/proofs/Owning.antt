-- What a frame keeps of the sets that are due at a position.
use Rattle.std.proofs.Common.{ℕ, ◌≡◌, ◌↔◌, List, [], length, get_or, sym, ap, subst, ◌∙◌, arith}
use Rattle.std.specs.Prelude.{◌<◌, Contains, Some, slice_get, map}
use Rattle.std.specs.List.Sorted.{IsStrictlySortedBy}
use Rattle.std.proofs.lemmas.List.{get_or_default, get_or-map, length-map}
use Rattle.std.proofs.lemmas.List.Elements.{Contains-get_or}
use Rattle.mr_set.specs.Subsets.{IsSetOf, list_cmp}
use Rattle.mr_frame.specs.Frame.{Framed}
use Rattle.mr_frame.specs.Test.{NeedsLast}
use Rattle.mr_frame.specs.Private.Kept.{IsKept, AreDueParts}
use Rattle.mr_frame.specs.Private.Parts.{IsPartOfSet, AreParts}
use Rattle.mr_frame.specs.declared.cell.Cell.{Cell}
use Rattle.mr_frame.specs.declared.part.Part.{Part}
use Rattle.mr_frame.proofs.Lasting.{read_due}
use Rattle.mr_frame.proofs.Parting.{sets_of_parts}

-- the sets of parts
abbrev pub sets_of : List Part → List (List ℕ)
sets_of parts = map (λ (q : Part). q.set) parts

-- just the sets whose part has p as its last free position, in order, each with what its test needs
pub record AreOfFrame (f : Framed) (p : ℕ) (parts : List Part) : Type 0 where
  pub sorted : IsStrictlySortedBy list_cmp (sets_of parts)
  pub exactly : (x : List ℕ) → Contains (sets_of parts) x ↔ (IsSetOf f.matroid.elements f.matroid.rank x × NeedsLast f x p)
  pub each : (k : ℕ) (part : Part) → slice_get parts k ≡ Some part → IsPartOfSet f.matroid f.basis part.set part

-- so it is with the list that is read
pub parts_of_frame : (f : Framed) (cells : List Cell) (tests : List (List (List ℕ))) (lists : List (List Part)) → IsKept f cells tests → AreDueParts f tests lists →
    (p : ℕ) (parts : List Part) → p < length f.places → parts ≡ get_or lists p parts → AreOfFrame f p parts
parts_of_frame f cells tests lists kept all p parts within read = record {
  sorted = subst (IsStrictlySortedBy list_cmp) (sym same) sets.0;
  exactly = λ x. subst (λ (xs : List (List ℕ)). Contains xs x ↔ (IsSetOf f.matroid.elements f.matroid.rank x × NeedsLast f x p)) (sym same) (sets.1 x);
  each = λ k part is. let of_set = here.each k part is in subst (λ (x : List ℕ). IsPartOfSet f.matroid f.basis x part) (sym of_set.set) of_set;
}
  where
    small : p < length all.due
    small = let count = kept.test_count in let size = all.are.count in omega arith

    here : AreParts f.matroid f.basis (get_or all.due p []) parts
    here = subst (AreParts f.matroid f.basis (get_or all.due p [])) (sym (read ∙ get_or_default lists p parts [] (let count = all.kept.count in omega arith))) (all.kept.each p small)

    same : sets_of parts ≡ get_or all.due p []
    same = sets_of_parts f.matroid f.basis (get_or all.due p []) parts here

    sets : IsStrictlySortedBy list_cmp (get_or all.due p []) × ((x : List ℕ) → Contains (get_or all.due p []) x ↔ (IsSetOf f.matroid.elements f.matroid.rank x × NeedsLast f x p))
    sets = read_due f cells tests all.due kept all.are p (get_or all.due p []) within (get_or_default all.due p [] (get_or all.due p []) small)

-- the set of the part at a place
pub set_here : (parts : List Part) (k : ℕ) (part : Part) → k < length parts → part ≡ get_or parts k part → part.set ≡ get_or (sets_of parts) k []
set_here parts k part lt is = ap (λ (q : Part). q.set) is ∙ sym (get_or-map (λ (q : Part). q.set) parts k part [] lt)

-- it is one that is due
pub due_part : (f : Framed) (p : ℕ) (parts : List Part) → AreOfFrame f p parts → (k : ℕ) (part : Part) → k < length parts → part ≡ get_or parts k part →
    IsSetOf f.matroid.elements f.matroid.rank part.set × NeedsLast f part.set p
due_part f p parts own k part lt is =
    let size = length-map parts (λ (q : Part). q.set) in
    let has : Contains (sets_of parts) part.set = subst (Contains (sets_of parts)) (sym (set_here parts k part lt is)) (Contains-get_or (sets_of parts) k [] (omega arith)) in
    (own.exactly part.set).0 has
