-- The slots that are kept, their numbers, and the steps.
use Rattle.std.proofs.Common.{◌≡◌, ◌≢◌, ◌⊎◌, ℕ, ◌<◌, ◌≤◌, Bool, true, false, cond, List, [], ◌∷◌, length, get_or, map, Option, Some, None, IsSome, refl, sym, ap, subst, ◌∙◌, inl, inr, ⊎_elim, arith, true≢false}
use Rattle.std.specs.Prelude.{Contains, AllPairs, slice_index}
use Rattle.std.specs.List.{filter}
use Rattle.std.proofs.lemmas.List.{get_or-map, length-map}
use Rattle.std.proofs.lemmas.List.Sums.{length-filter, count_by-le-length}
use Rattle.std.proofs.lemmas.List.Elements.{Contains-get_or}
use Rattle.std.proofs.lemmas.List.Kept.{AllPairs-filter}
use Rattle.std.proofs.lemmas.Option.{same_Some, get_or_from_slice_get}
use Rattle.mr_set.proofs.Ordered.{member_first, member_later, member_cases, member_none, place_member}
use Rattle.mr_nogood.specs.declared.row.Row.{Row}
use Rattle.mr_nogood.specs.declared.row.Cite.TheVariants.{Slot}
use Rattle.mr_nogood.specs.Follows.{in_slots}
use Rattle.mr_merge.specs.Private.Order.{IsEarlier, AreInOrder}
use Rattle.mr_merge.specs.Private.Table.{CiteSmaller}
use Rattle.mr_merge.specs.Steps.{LeadsTo, named, cited, IsRowBefore, AreStepsTo}
use Rattle.mr_merge.specs.Private.Marks.{IsMarked, MarksFrom, marked_slots, AreNumbers, AreRenumbered, AreKept}
use Rattle.mr_merge.proofs.Joining.{element_at}
use Rattle.mr_merge.proofs.Prefixing.{in_range}
use Rattle.mr_merge.proofs.Reaching.{all_marked}

module _ {X : Type 0} (p : X → Bool) where
  -- what passes the test is kept
  pub kept_passes : (xs : List X) (x : X) → Contains xs x → p x ≡ true → Contains (filter p xs) x
  kept_passes [] x inside passes = absurd (member_none x inside)
  kept_passes (y ∷ ys) x inside passes = by (p y) refl (member_cases y ys x inside) (λ later. kept_passes ys x later passes)
    where
      by : (b : Bool) → p y ≡ b → (y ≡ x) ⊎ Contains ys x → (Contains ys x → Contains (filter p ys) x) → Contains (cond b (y ∷ filter p ys) (filter p ys)) x
      by true e (inl same) rest = subst (λ z. Contains (z ∷ filter p ys) x) (sym same) (member_first x (filter p ys))
      by true e (inr later) rest = member_later y (filter p ys) x (rest later)
      by false e (inl same) rest = absurd (true≢false (sym passes ∙ ap p (sym same) ∙ e))
      by false e (inr later) rest = rest later

  -- and nothing else
  pub passes_kept : (xs : List X) (x : X) → Contains (filter p xs) x → Contains xs x × (p x ≡ true)
  passes_kept [] x inside = absurd (member_none x inside)
  passes_kept (y ∷ ys) x inside = by (p y) refl inside (passes_kept ys x)
    where
      by : (b : Bool) → p y ≡ b → Contains (cond b (y ∷ filter p ys) (filter p ys)) x → (Contains (filter p ys) x → Contains ys x × (p x ≡ true)) → Contains (y ∷ ys) x × (p x ≡ true)
      by true e here rest = ⊎_elim
          (λ (same : y ≡ x). (subst (λ z. Contains (z ∷ ys) x) (sym same) (member_first x ys), ap p (sym same) ∙ e))
          (λ (later : Contains (filter p ys) x). (let found = rest later in (member_later y ys x found.0, found.1)))
          (member_cases y (filter p ys) x here)
      by false e here rest = let found = rest here in (member_later y ys x found.0, found.1)

module _ {X Y : Type 0} (g : X → Y) where
  -- the image of a member is a member
  pub member_map : (xs : List X) (x : X) → Contains xs x → Contains (map g xs) (g x)
  member_map [] x inside = absurd (member_none x inside)
  member_map (y ∷ ys) x inside = ⊎_elim
      (λ (same : y ≡ x). subst (λ z. Contains (g z ∷ map g ys) (g x)) (sym same) (member_first (g x) (map g ys)))
      (λ (later : Contains ys x). member_later (g y) (map g ys) (g x) (member_map ys x later))
      (member_cases y ys x inside)

  -- and each is one of a member
  pub map_member : (xs : List X) (y : Y) → Contains (map g xs) y → (x : X) × Contains xs x × (g x ≡ y)
  map_member [] y inside = absurd (member_none y inside)
  map_member (x ∷ xs) y inside = ⊎_elim
      (λ (same : g x ≡ y). (x, member_first x xs, same))
      (λ (later : Contains (map g xs) y). (let rest = map_member xs y later in (rest.0, member_later x xs rest.0 rest.1, rest.2)))
      (member_cases (g x) (map g xs) y inside)

  -- pairs of images
  pub AllPairs-map : (R : Y → Y → Type 0) (xs : List X) → AllPairs (λ x y. R (g x) (g y)) xs → AllPairs R (map g xs)
  AllPairs-map R xs pairs i j d less lt =
      let within : j < length xs = omega (arith, length-map xs g) in
      let x = element_at xs i (omega arith) in
      subst (λ v. R v (get_or (map g xs) j d)) (sym (get_or-map g xs i x.0 d (omega arith))) (subst (R (g (get_or xs i x.0))) (sym (get_or-map g xs j x.0 d within)) (pairs i j x.0 less within))

-- a row that is there
some_row : (o : Option Row) → IsSome o → (row : Row) × (o ≡ Some row)
some_row None some = absurd (true≢false (sym some))
some_row (Some row) some = (row, refl)

module _ (rows : List (Option Row)) (slots : List (ℕ × ℕ)) (end : ℕ) (marks : List Bool) (smaller : CiteSmaller rows) (order : AreInOrder rows slots) (reached : MarksFrom rows end slots 0 marks) where
  -- the test of a slot
  abbrev is_kept : ℕ × ℕ → Bool
  is_kept p = get_or marks p.1 false

  -- a kept slot is marked, and has a row
  pub kept_has : (s : ℕ) → Contains (marked_slots marks slots) s → IsMarked marks s × ((row : Row) × (in_slots rows s ≡ Some row))
  kept_has s inside =
      let p = map_member (λ (q : ℕ × ℕ). q.1) (filter is_kept slots) s inside in
      let kept = passes_kept is_kept slots p.0 p.1 in
      let row = order.just.each p.0 kept.0 in
      (subst (IsMarked marks) p.2 kept.1, (row.0, subst (λ (i : ℕ). in_slots rows i ≡ Some row.0) p.2 row.1))

  -- a marked slot with a row is kept
  has_kept : (s : ℕ) (row : Row) → IsMarked marks s → in_slots rows s ≡ Some row → Contains (marked_slots marks slots) s
  has_kept s row marked there =
      member_map (λ (q : ℕ × ℕ). q.1) (filter is_kept slots) (row.rank, s) (kept_passes is_kept slots (row.rank, s) (order.just.all s row there) marked)

  -- each slot that the end leads to has a row, where the end has one
  leads_has : (row : Row) → in_slots rows end ≡ Some row → (s : ℕ) → LeadsTo (in_slots rows) (Slot end) s → (r : Row) × (in_slots rows s ≡ Some r)
  leads_has row there s (named _ is) = (row, (let same : end ≡ s = cc in subst (λ (i : ℕ). in_slots rows i ≡ Some row) same there))
  leads_has row there s (cited t _ k r before at is) = let found = smaller t k s r at is in (found.0, found.1)

  -- the kept slots are in order
  pub kept_rise : AllPairs (IsRowBefore (in_slots rows)) (marked_slots marks slots)
  kept_rise = AllPairs-map (λ (q : ℕ × ℕ). q.1) (IsRowBefore (in_slots rows)) (filter is_kept slots) (λ i j d less lt row other one two.
      let lower = place i d (omega arith) row one in
      let upper = place j d lt other two in
      elim (AllPairs-filter IsEarlier is_kept slots order.order i j d less lt) [
        | inl smaller ↦ inl (omega arith)
        | inr tie ↦ let e = tie.0 in let l = tie.1 in inr (omega arith, l)
      ])
    where
      place : (i : ℕ) (d : ℕ × ℕ) → i < length (filter is_kept slots) → (row : Row) → in_slots rows (get_or (filter is_kept slots) i d).1 ≡ Some row → (get_or (filter is_kept slots) i d).0 ≡ row.rank
      place i d lt row there =
          let x = element_at (filter is_kept slots) i lt in
          let same : get_or (filter is_kept slots) i d ≡ x.0 = get_or_from_slice_get (filter is_kept slots) i x.0 d x.1 in
          let known = order.just.each x.0 (passes_kept is_kept slots x.0 (place_member (filter is_kept slots) i x.0 x.1)).0 in
          let one : known.0 ≡ row = same_Some known.0 row (sym known.1 ∙ ap (λ (q : ℕ × ℕ). in_slots rows q.1) (sym same) ∙ there) in
          ap (λ (q : ℕ × ℕ). q.0) same ∙ known.2 ∙ ap (λ (r : Row). r.rank) one

  -- they are different
  pub kept_apart : AllPairs (λ s t. s ≢ t) (marked_slots marks slots)
  kept_apart i j d less lt same =
      let at = element_at (marked_slots marks slots) i (omega arith) in
      let is : get_or (marked_slots marks slots) i d ≡ at.0 = get_or_from_slice_get (marked_slots marks slots) i at.0 d at.1 in
      let row = (kept_has at.0 (place_member (marked_slots marks slots) i at.0 at.1)).1 in
      let one = subst (λ (s : ℕ). in_slots rows s ≡ Some row.0) (sym is) row.1 in
      let two = subst (λ (s : ℕ). in_slots rows s ≡ Some row.0) same one in
      elim (kept_rise i j d less lt row.0 row.0 one two) [
        | inl smaller ↦ omega arith
        | inr tie ↦ let l = tie.1 in omega arith
      ]

  -- there are no more than slots with rows
  few_kept : length (marked_slots marks slots) ≤ length slots
  few_kept = omega (arith, length-map (filter is_kept slots) (λ (q : ℕ × ℕ). q.1), length-filter is_kept slots, count_by-le-length is_kept slots)

  -- the kept slots are those that the end leads to, in order
  pub are_kept : IsSome (in_slots rows end) → length slots ≤ length rows → AreKept rows end (marked_slots marks slots)
  are_kept some few = record {
    exactly = λ s. (
      (λ inside. reached.leads s (kept_has s inside).0),
      (λ leads. (let row = some_row (in_slots rows end) some in let has = leads_has row.0 row.1 s leads in has_kept s has.0 (all_marked rows slots smaller order end marks reached s leads) has.1)),
    );
    order = kept_rise;
    apart = kept_apart;
    rows_are = λ s inside. (let has = (kept_has s inside).1 in subst IsSome (sym has.1) refl);
    few = (let less = few_kept in omega arith);
  }

-- the kept slots are slots
pub kept_within : (rows : List (Option Row)) (end : ℕ) (slots : List ℕ) → AreKept rows end slots → (k d : ℕ) → k < length slots → get_or slots k d < length rows
kept_within rows end slots are k d lt =
    let row = some_row (in_slots rows (get_or slots k d)) (are.rows_are (get_or slots k d) (Contains-get_or slots k d lt)) in
    in_range rows (get_or slots k d) row.0 row.1

-- a slot with a row is one of the slots
pub some_within : (rows : List (Option Row)) (s : ℕ) → IsSome (in_slots rows s) → s < length rows
some_within rows s some = let row = some_row (in_slots rows s) some in in_range rows s row.0 row.1

-- the rows of the kept slots, renumbered, are the steps to the end
pub steps_to : (rows : List (Option Row)) (end : ℕ) (slots numbers : List ℕ) (steps : List Row) → AreKept rows end slots → AreNumbers slots numbers → AreRenumbered rows numbers slots steps → AreStepsTo (in_slots rows) (Slot end) steps (Slot (slice_index numbers end))
steps_to rows end kept numbers steps are numbered made = record {
  slots = kept;
  number = slice_index numbers;
  exactly = are.exactly;
  there = are.rows_are;
  order = are.order;
  numbers = numbered;
  count = made.count;
  step = made.step;
  last_is = refl;
}
