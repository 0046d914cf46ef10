-- The completions of all cubes, one cube after another, are the completions of the assignment without values.
use Rattle.std.proofs.Common.{◌≡◌, ◌≢◌, ℕ, zero, suc, ◌+◌, ◌-◌, ◌<◌, ◌≤◌, List, [], ◌∷◌, ◌++◌, length, take, drop, get_or, Some, refl, sym, ap, subst, ◌∙◌, ⊎_elim, inl, inr, arith, get_or-take, length-take}
use Rattle.std.specs.Prelude.{Contains, slice_get, flat_map}
use Rattle.std.specs.List.Sorted.{IsStrictlySortedBy}
use Rattle.std.specs.declared.cmp.Ordering.TheVariants.{Less}
use Rattle.std.proofs.lemmas.Bool.{cases_lt}
use Rattle.std.proofs.lemmas.List.{ext_get_or, take-append-drop}
use Rattle.std.proofs.lemmas.List.Elements.{Contains-append_left, Contains-append_right, Contains-append_cases}
use Rattle.std.proofs.lemmas.Option.{slice_get_within}
use Rattle.mr_field.specs.Gf.{order}
use Rattle.mr_set.specs.Subsets.{list_cmp}
use Rattle.mr_set.proofs.Ordered.{member_none, sorted_join}
use Rattle.mr_assign.specs.Assign.{no_values, IsPartOf}
use Rattle.mr_frame.specs.Frame.{Framed, IsFrame}
use Rattle.mr_frame.specs.Completion.{IsCompletion}
use Rattle.mr_nogood.proofs.Excluding.{completes_part}
use Rattle.mr_assign.proofs.Maps.{get_or-no_values}
use Rattle.mr_exchange.specs.Cubes.{cube_count, cube_at, values_at}
use Rattle.mr_exchange.specs.Right.{AreCompletions}
use Rattle.mr_exchange.proofs.CubesInOrder.{few_elements, few_places, length-values_at, value_at, values_rise, values_of, cube_value, cube_else}

-- the assignment without values is a part of each
pub nothing_is_part : (a : List ℕ) → IsPartOf no_values a
nothing_is_part a p some = absurd (some (get_or-no_values p))

-- there is something at each place of a list
pub element_at : {X : Type 0} (xs : List X) (k : ℕ) → k < length xs → (x : X) × (slice_get xs k ≡ Some x)
element_at [] k lt = absurd (omega arith)
element_at (x ∷ xs) zero lt = (x, refl)
element_at (x ∷ xs) (suc k) lt = element_at xs k (omega arith)

module _ {X A : Type 0} (g : X → List A) where
  -- what stands in one of the lists that are put together stands in one of them
  pub among_one : (xs : List X) (c : A) → Contains (flat_map g xs) c → (k : ℕ) × (x : X) × (slice_get xs k ≡ Some x) × Contains (g x) c
  among_one [] c inside = absurd (member_none c inside)
  among_one (x ∷ xs) c inside = ⊎_elim
      (λ (here : Contains (g x) c). (0, x, refl, here))
      (λ (later : Contains (flat_map g xs) c). (let rest = among_one xs c later in (suc rest.0, rest.1, rest.2, rest.3)))
      (Contains-append_cases (g x) (flat_map g xs) c inside)

  -- and the other way round
  pub among_all : (xs : List X) (k : ℕ) (x : X) (c : A) → slice_get xs k ≡ Some x → Contains (g x) c → Contains (flat_map g xs) c
  among_all [] k x c is inside = cc
  among_all (y ∷ ys) zero x c is inside = (let same : y ≡ x = cc in Contains-append_left (g y) (flat_map g ys) c (subst (λ (z : X). Contains (g z) c) (sym same) inside))
  among_all (y ∷ ys) (suc k) x c is inside = Contains-append_right (g y) (flat_map g ys) c (among_all ys k x c is inside)

module _ (f : Framed) (frame : IsFrame f) (depth : ℕ) (few : depth ≤ length f.places) where
  -- a completion of a cube begins with the cube's values
  begins : (b : ℕ) (c : List ℕ) → b < cube_count f depth → IsCompletion f (cube_at f depth b) c → take depth c ≡ values_at (order f.field - 1) depth b
  begins b c lt done =
      let fits = few_places f frame in
      let long = done.map.positions in
      let front : length (take depth c) ≡ depth = omega (arith, length-take depth c) in
      ext_get_or 0 (take depth c) (values_at (order f.field - 1) depth b) (front ∙ sym (length-values_at (order f.field - 1) depth b)) (λ p in_range.
      let below : p < depth = omega arith in
      let value = cube_value f depth b p below in
      let some = (value_at (order f.field - 1) depth b p (few_elements f.field).0 lt below).0 in
      let there : get_or (cube_at f depth b) p 0 ≢ 0 = λ e. omega arith in
      get_or-take depth c p 0 below ∙ done.contains p there ∙ value)

  -- completions of an earlier cube come first
  completes_before : (a b : ℕ) (c d : List ℕ) → a < b → b < cube_count f depth → IsCompletion f (cube_at f depth a) c → IsCompletion f (cube_at f depth b) d → list_cmp c d ≡ Less
  completes_before a b c d less lt first second =
      let one : take depth c ≡ values_at (order f.field - 1) depth a = begins a c (omega arith) first in
      let two : take depth d ≡ values_at (order f.field - 1) depth b = begins b d lt second in
      let whole_c : values_at (order f.field - 1) depth a ++ drop depth c ≡ c = ap (λ (xs : List ℕ). xs ++ drop depth c) (sym one) ∙ take-append-drop depth c in
      let whole_d : values_at (order f.field - 1) depth b ++ drop depth d ≡ d = ap (λ (xs : List ℕ). xs ++ drop depth d) (sym two) ∙ take-append-drop depth d in
      let rise = values_rise (order f.field - 1) depth a b (drop depth c) (drop depth d) (few_elements f.field).0 less lt in
      subst (λ (x : List ℕ). list_cmp x d ≡ Less) whole_c (subst (λ (y : List ℕ). list_cmp (values_at (order f.field - 1) depth a ++ drop depth c) y ≡ Less) whole_d rise)

  -- a cube is a part of what begins with its values
  begun : (b : ℕ) (c : List ℕ) → take depth c ≡ values_at (order f.field - 1) depth b → IsPartOf (cube_at f depth b) c
  begun b c front p some = elim (cases_lt p depth) [
    | inl lt ↦ sym (get_or-take depth c p 0 lt) ∙ ap (λ (xs : List ℕ). get_or xs p 0) front ∙ sym (cube_value f depth b p lt)
    | inr ge ↦ absurd (some (cube_else f depth b p ge))
  ]

  -- each completion is one of a cube
  in_cube : (c : List ℕ) → IsCompletion f no_values c → (b : ℕ) × (b < cube_count f depth) × IsCompletion f (cube_at f depth b) c
  in_cube c done =
      let fits = few_places f frame in
      let long = done.map.positions in
      let front : length (take depth c) ≡ depth = omega (arith, length-take depth c) in
      let given = values_of (order f.field - 1) depth (take depth c) (few_elements f.field).0 front (λ p lt.
      let same = get_or-take depth c p 0 lt in
      let some : get_or c p 0 ≢ 0 = done.full p (omega arith) in
      let small = (done.assignment p some).1 in
      (omega arith, omega arith)) in
      (given.0, given.1, completes_part f no_values (cube_at f depth given.0) c done (begun given.0 c given.2))

  module _ {X : Type 0} (g : X → List (List ℕ)) where
    -- from the number on, the members have the completions of their cubes
    abbrev HaveCompletions : ℕ → List X → Type 0
    HaveCompletions start xs = (k : ℕ) (x : X) → slice_get xs k ≡ Some x → AreCompletions f (cube_at f depth (start + k)) (g x)

    -- the completions of one after another increase
    joined_rise : (start : ℕ) (xs : List X) → start + length xs ≤ cube_count f depth → HaveCompletions start xs → IsStrictlySortedBy list_cmp (flat_map g xs)
    unfolding IsStrictlySortedBy
    joined_rise start [] fits have = tt
    joined_rise start (x ∷ xs) fits have =
        let at : start + 0 ≡ start = omega arith in
        let here = subst (λ (i : ℕ). AreCompletions f (cube_at f depth i) (g x)) at (have 0 x refl) in
        let later : HaveCompletions (start + 1) xs = λ k y is. subst (λ (i : ℕ). AreCompletions f (cube_at f depth i) (g y)) (let e : start + suc k ≡ start + 1 + k = omega arith in e) (have (suc k) y is) in
        sorted_join list_cmp (g x) (flat_map g xs) here.increasing (joined_rise (start + 1) xs (omega arith) later) (λ c d first second.
        let found = among_one g xs d second in
        let inside = slice_get_within xs found.0 found.1 found.2 in
        completes_before start (start + 1 + found.0) c d (omega arith) (omega arith) ((here.exactly c).0 first) (((later found.0 found.1 found.2).exactly d).0 found.3))

    -- so those of all cubes are all completions
    pub joined : (xs : List X) → length xs ≡ cube_count f depth → ((k : ℕ) (x : X) → slice_get xs k ≡ Some x → AreCompletions f (cube_at f depth k) (g x)) → AreCompletions f no_values (flat_map g xs)
    joined xs count have = record {
      increasing = joined_rise 0 xs (omega arith) (λ k x is. subst (λ (i : ℕ). AreCompletions f (cube_at f depth i) (g x)) (let e : k ≡ 0 + k = omega arith in e) (have k x is));
      exactly = λ c. (
        (λ inside. (let found = among_one g xs c inside in completes_part f (cube_at f depth found.0) no_values c (((have found.0 found.1 found.2).exactly c).0 found.3) (nothing_is_part c))),
        λ done.
            let cube = in_cube c done in
            let x = element_at xs cube.0 (let lt = cube.1 in omega arith) in
            among_all g xs cube.0 x.0 c x.1 (((have cube.0 x.0 x.1).exactly c).1 cube.2),
      );
    }
