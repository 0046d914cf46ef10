-- There is a number of nodes: each is one of finitely many maps, of which it is told whether a set fails under them.
use Rattle.std.proofs.Common.{◌≡◌, ◌≢◌, ℕ, ◌+◌, ◌-◌, ◌^◌, ◌<◌, ◌≤◌, ◌⊎◌, List, [], ◌∷◌, length, map, refl, sym, subst, ◌∙◌, ⊎_elim, inl, inr, arith}
use Rattle.std.specs.Prelude.{AllPairs, Contains, flat_map, sum_by}
use Rattle.std.proofs.lemmas.Bool.{cases_lt}
use Rattle.std.proofs.lemmas.List.{length-map}
use Rattle.std.proofs.lemmas.List.Concat.{flat_map-cons, length-flat_map}
use Rattle.std.proofs.lemmas.List.Elements.{Contains-append_left, Contains-append_right, Contains-append_cases}
use Rattle.std.proofs.lemmas.List.Sums.{sum_by-cons}
use Rattle.mr_field.specs.Gf.{order}
use Rattle.mr_set.specs.Elements.{numbers_below}
use Rattle.mr_set.proofs.Ordered.{member_first, member_later, member_cases, member_none}
use Rattle.mr_linear.proofs.Pivots.{below_all}
use Rattle.mr_assign.specs.Assign.{no_values}
use Rattle.mr_frame.specs.Frame.{Framed, IsFrame}
use Rattle.mr_frame.specs.Test.{SetFails}
use Rattle.mr_frame.proofs.Filled.{listed_or_not}
use Rattle.mr_exchange.specs.Cubes.{IsCube, cube_at, cube_count}
use Rattle.mr_exchange.proofs.OnePass.{length-numbers_below}
use Rattle.mr_exchange.proofs.CubesInOrder.{cubes_are_in_order}
use Rattle.mr_search.specs.Laws.{ThereIsANeed, NeedIsAtMostEnough}
use Rattle.mr_search.specs.Nodes.{IsNode, IsNumberOf, IsNeed, enough}
use Rattle.mr_search.proofs.Children.{part_none, empty_value}
use Rattle.mr_search.proofs.Distinct.{no_longer}
use Rattle.mr_search.proofs.Listing.{pairs_one, pairs_append}
use Rattle.mr_search.proofs.Needing.{at_most}
use Rattle.mr_search.proofs.Telling.{some_fails_or_none}

-- the different ones among some lists of which P holds
record AreThose (P : List ℕ → Type 0) (xs ys : List (List ℕ)) : Type 0 where
  different : AllPairs (λ a b. a ≢ b) ys
  each : (x : List ℕ) → Contains ys x → P x
  all : (x : List ℕ) → Contains xs x → P x → Contains ys x
  few : length ys ≤ length xs

-- there are such, where P is told of each
those : (P : List ℕ → Type 0) (xs : List (List ℕ)) → ((x : List ℕ) → Contains xs x → P x ⊎ ¬ (P x)) → (ys : List (List ℕ)) × AreThose P xs ys
those P [] told = ([], record { different = λ i j d lt in_range same. absurd (omega arith); each = λ x inside. absurd (member_none x inside); all = λ x inside. absurd (member_none x inside); few = omega arith })
those P (z ∷ xs) told = join (those P xs (λ x inside. told x (member_later z xs x inside)))
  where
    join : (ys : List (List ℕ)) × AreThose P xs ys → (ys : List (List ℕ)) × AreThose P (z ∷ xs) ys
    join (ys, are) = more (told z (member_first z xs)) (listed_or_not ys z)
      where
        -- the old ones, where z is one of them or not as P says
        keep : (P z → Contains ys z) → (ys : List (List ℕ)) × AreThose P (z ∷ xs) ys
        keep old = (
          ys,
          record {
            different = are.different;
            each = are.each;
            all = λ x inside holds. ⊎_elim
                (λ (is : z ≡ x). subst (Contains ys) is (old (subst P (sym is) holds)))
                (λ (later : Contains xs x). are.all x later holds)
                (member_cases z xs x inside);
            few = (let few = are.few in omega arith);
          },
        )

        more : P z ⊎ ¬ (P z) → Contains ys z ⊎ (Contains ys z → ⊥) → (ys : List (List ℕ)) × AreThose P (z ∷ xs) ys
        more (inr none) listed = keep (λ holds. absurd (none holds))
        more (inl holds) (inl listed) = keep (λ _. listed)
        more (inl holds) (inr new) = (
          z ∷ ys,
          record {
            different = pairs_append (λ a b. a ≢ b) (z ∷ []) ys (pairs_one (λ a b. a ≢ b) z) are.different (λ a b first later same. ⊎_elim
                (λ (here : z ≡ a). new (subst (Contains ys) (sym (here ∙ same)) later))
                (λ (none : Contains [] a). member_none a none)
                (member_cases z [] a first));
            each = λ x inside. ⊎_elim (λ (is : z ≡ x). subst P is holds) (λ (later : Contains ys x). are.each x later) (member_cases z ys x inside);
            all = λ x inside p. ⊎_elim (λ (is : z ≡ x). subst (Contains (z ∷ ys)) is (member_first z ys)) (λ (later : Contains xs x). member_later z ys x (are.all x later p)) (member_cases z xs x inside);
            few = (let few = are.few in omega arith);
          },
        )

-- what holds only of listed maps, and is told of each of them, has a number: no more than are listed
number_exists : (P : List ℕ → Type 0) (xs : List (List ℕ)) → ((x : List ℕ) → P x → Contains xs x) → ((x : List ℕ) → Contains xs x → P x ⊎ ¬ (P x)) → (n : ℕ) × IsNumberOf P n × (n ≤ length xs)
number_exists P xs only told = made (those P xs told)
  where
    made : (ys : List (List ℕ)) × AreThose P xs ys → (n : ℕ) × IsNumberOf P n × (n ≤ length xs)
    made (ys, are) = (
      length ys,
      (
        record { members = ys; different = are.different; each = are.each; count = refl },
        λ many. (let most = no_longer many.members ys many.different (λ x inside. are.all x (only x (many.each x inside)) (many.each x inside)) in let count = many.count in omega arith),
      ),
      are.few,
    )

-- the members of a list that is made of pieces
member_flat : {X Y : Type 0} (h : X → List Y) (xs : List X) (y : Y) → Contains (flat_map h xs) y → (x : X) × Contains xs x × Contains (h x) y
member_flat h [] y inside = absurd (member_none y inside)
member_flat {X} {Y} h (x ∷ xs) y inside = ⊎_elim
    (λ (here : Contains (h x) y). (x, member_first x xs, here))
    (λ (later : Contains (flat_map h xs) y). (let found = member_flat h xs y later in (found.0, member_later x xs found.0 found.1, found.2)))
    (Contains-append_cases (h x) (flat_map h xs) y (subst (λ (ys : List Y). Contains ys y) (flat_map-cons h x xs) inside))

-- each member of a piece is one
flat_member : {X Y : Type 0} (h : X → List Y) (xs : List X) (x : X) (y : Y) → Contains xs x → Contains (h x) y → Contains (flat_map h xs) y
flat_member h [] x y inside has = absurd (member_none x inside)
flat_member {X} {Y} h (z ∷ xs) x y inside has = subst (λ (ys : List Y). Contains ys y) (sym (flat_map-cons h z xs)) (⊎_elim
    (λ (is : z ≡ x). Contains-append_left (h z) (flat_map h xs) y (subst (λ w. Contains (h w) y) (sym is) has))
    (λ (later : Contains xs x). Contains-append_right (h z) (flat_map h xs) y (flat_member h xs x y later has))
    (member_cases z xs x inside))

-- the members of a list of images
member_map : {X Y : Type 0} (h : X → Y) (xs : List X) (y : Y) → Contains (map h xs) y → (x : X) × Contains xs x × (h x ≡ y)
member_map h [] y inside = absurd (member_none y inside)
member_map {X} {Y} h (x ∷ xs) y inside = ⊎_elim
    (λ (here : h x ≡ y). (x, member_first x xs, here))
    (λ (later : Contains (map h xs) y). (let found = member_map h xs y later in (found.0, member_later x xs found.0 found.1, found.2)))
    (member_cases (h x) (map h xs) y inside)

-- each image is one
map_member : {X Y : Type 0} (h : X → Y) (xs : List X) (x : X) → Contains xs x → Contains (map h xs) (h x)
map_member h [] x inside = absurd (member_none x inside)
map_member {X} {Y} h (z ∷ xs) x inside = ⊎_elim
    (λ (is : z ≡ x). subst (λ w. Contains (map h (z ∷ xs)) (h w)) is (member_first (h z) (map h xs)))
    (λ (later : Contains xs x). member_later (h z) (map h xs) (h x) (map_member h xs x later))
    (member_cases z xs x inside)

-- equal terms have equal sums
sum_by-same : {X : Type 0} (s t : X → ℕ) (xs : List X) → ((x : X) → s x ≡ t x) → sum_by s xs ≡ sum_by t xs
sum_by-same s t [] same = refl
sum_by-same s t (x ∷ xs) same =
    let head = same x in
    let tail = sum_by-same s t xs same in
    let left = sum_by-cons s x xs in
    let right = sum_by-cons t x xs in
    omega arith

module _ (f : Framed) (frame : IsFrame f) (depth : ℕ) (few : depth ≤ length f.places) where
  -- the cubes of a depth
  cubes_of : ℕ → List (List ℕ)
  cubes_of i = map (cube_at f (depth + i)) (numbers_below (cube_count f (depth + i)))

  -- the cubes of all depths from this one on
  all_cubes : List (List ℕ)
  all_cubes = flat_map cubes_of (numbers_below (length f.places + 1 - depth))

  -- there are as many as the powers say
  length-all_cubes : length all_cubes ≡ enough (order f.field) (length f.places) depth
  unfolding all_cubes cubes_of
  length-all_cubes =
      length-flat_map cubes_of (numbers_below (length f.places + 1 - depth))
      ∙ sum_by-same (λ i. length (cubes_of i)) (λ i. (order f.field - 1) ^ (depth + i)) (numbers_below (length f.places + 1 - depth))
      (λ i. length-map (numbers_below (cube_count f (depth + i))) (cube_at f (depth + i)) ∙ length-numbers_below (cube_count f (depth + i)))

  -- a node has values at no more than all free positions
  node_within : (count : ℕ) (a : List ℕ) → IsCube f count a → count ≤ length f.places
  node_within count a values = ⊎_elim
      (λ (more : length f.places < count). absurd (let had = values.assignment (length f.places) ((values.just (length f.places)).1 more) in let lt = had.0 in omega arith))
      (λ (le : count ≤ length f.places). le)
      (cases_lt (length f.places) count)

  -- so each node is one of the cubes
  node_listed : (a : List ℕ) → IsNode f depth a → Contains all_cubes a
  unfolding all_cubes cubes_of
  node_listed a node =
      let i = node.count - depth in
      let from = node.from in
      let most = node_within node.count a node.values in
      let is : depth + i ≡ node.count = omega arith in
      let within : i < length f.places + 1 - depth = omega arith in
      let given = (cubes_are_in_order f (depth + i) frame (omega arith)).all a (subst (λ k. IsCube f k a) (sym is) node.values) in
      flat_member cubes_of (numbers_below (length f.places + 1 - depth)) i a ((below_all (length f.places + 1 - depth) i).1 within)
      (subst (Contains (cubes_of i)) (sym given.2) (map_member (cube_at f (depth + i)) (numbers_below (cube_count f (depth + i))) given.0 ((below_all (cube_count f (depth + i)) given.0).1 given.1)))

  -- and each of these is one, or not
  node_or_not : (a : List ℕ) → Contains all_cubes a → IsNode f depth a ⊎ ¬ (IsNode f depth a)
  unfolding all_cubes cubes_of
  node_or_not a inside =
      let found = member_flat cubes_of (numbers_below (length f.places + 1 - depth)) a inside in
      let i = found.0 in
      let within : i < length f.places + 1 - depth = (below_all (length f.places + 1 - depth) i).0 found.1 in
      let number = member_map (cube_at f (depth + i)) (numbers_below (cube_count f (depth + i))) a found.2 in
      let cube : IsCube f (depth + i) a = subst (IsCube f (depth + i)) number.2 ((cubes_are_in_order f (depth + i) frame (omega arith)).each number.0 ((below_all (cube_count f (depth + i)) number.0).0 number.1)) in
      ⊎_elim
      (λ (fails : (x : List ℕ) × SetFails f a x). inr (λ node. node.holds fails.0 fails.1))
      (λ (none : (x : List ℕ) → ¬ (SetFails f a x)). inl (record { count = depth + i; from = omega arith; values = cube; contains = part_none no_values a (empty_value no_values refl); holds = none }))
      (some_fails_or_none f frame a cube.assignment)

  -- there is a number of nodes, no more than the powers add up to
  need_within : (n : ℕ) × IsNeed f depth n × (n ≤ enough (order f.field) (length f.places) depth)
  need_within =
      let found = number_exists (IsNode f depth) all_cubes node_listed node_or_not in
      (found.0, found.1, (let size = length-all_cubes in let most = found.2 in omega arith))

-- each depth has a need
pub there_is_a_need : ThereIsANeed
there_is_a_need f depth frame few = let found = need_within f frame depth few in (found.0, found.1)

-- it is at most enough
pub need_is_at_most_enough : NeedIsAtMostEnough
need_is_at_most_enough f depth n frame few need =
    let found = need_within f frame depth few in
    let le = at_most (IsNode f depth) n found.0 need.0 found.1 in
    let most = found.2 in
    omega arith
