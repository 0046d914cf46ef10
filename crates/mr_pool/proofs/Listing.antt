-- Lists of cubes and their answers, and rows of answers.
use Rattle.std.proofs.Common.{◌≡◌, ◌≢◌, ℕ, zero, suc, ◌+◌, ◌*◌, ◌<◌, ◌≤◌, ◌==◌, List, [], ◌∷◌, ◌++◌, length, length-append, map, get_or, replicate, append_assoc, refl, sym, ap, subst, ◌∙◌, ◌⊎◌, inl, inr, ⊎_elim, arith, Contains, Option, Some, None}
use Rattle.std.specs.Prelude.{slice_get, slice_set, sum_by, count_by, All}
use Rattle.std.proofs.lemmas.Bool.{cases_eq}
use Rattle.std.proofs.lemmas.List.{map-append, append-nil, length-set, get_or-set_same, get_or-set_other, length-replicate, get_or-replicate}
use Rattle.std.proofs.lemmas.List.Elements.{Contains-append_cases, Contains-append_left, Contains-push, Contains-push_cases, Contains-get_or}
use Rattle.std.proofs.lemmas.List.Sums.{sum_by-set, sum_by-cons}
use Rattle.std.proofs.lemmas.List.Folds.{sum_by-replicate}
use Rattle.std.proofs.lemmas.Option.{slice_get_within, slice_get-get_or, slice_get_past, get_or_from_slice_get, same_Some, none-some}
use Rattle.mr_set.proofs.Ordered.{member_first, member_later, member_cases, member_none}
use Rattle.mr_exchange.specs.declared.answer.CubeAnswer.{CubeAnswer}
use Rattle.mr_exchange.specs.Board.{Holding}
use Rattle.mr_exchange.proofs.Totals.{times_of, times-append}
use Rattle.mr_exchange.proofs.Counting.{times-count}
use Rattle.mr_pool.specs.declared.answered.Answered.{Answered}
use Rattle.mr_pool.specs.Answers.{number_found}
use Rattle.mr_pool.specs.Private.Answers.{HasServed}
use Rattle.mr_pool.specs.Private.Lists.{answered, cubes_of, answers_of, HasListed, with_answers, present}
use Rattle.mr_pool.specs.Private.Desks.{number_there, IsRowOf}
use Rattle.mr_pool.proofs.Places.{sum_push}
use Rattle.mr_pool.proofs.Serving.{IsTried, IsTold, served_tried}

-- the list has one more cube and its answer
pub listed_tried : (h k after : Holding) (cube : ℕ) → IsTried h k after cube → (list : List Answered) (answer : CubeAnswer) → IsTold k after cube answer → HasListed h list → HasListed after (list ++ answered cube answer ∷ [])
listed_tried h k after cube tried list answer told was = record {
  cubes = map-append (λ (a : Answered). a.cube) list (answered cube answer ∷ [])
      ∙ ap (λ cubes. cubes ++ cube ∷ []) was.cubes
      ∙ sym (tried.keeps.cubes ∙ ap (λ (x : Holding). x.cubes) tried.gains.is);
  served = subst (HasServed after) (sym (map-append (λ (a : Answered). a.answer) list (answered cube answer ∷ [])))
      (served_tried h k after cube tried (answers_of list) answer told was.served);
}

-- a cube of the list is that of a member
pub member_of_cube : (list : List Answered) (c : ℕ) → Contains (cubes_of list) c → (a : Answered) × Contains list a × (a.cube ≡ c)
member_of_cube [] c has = absurd (member_none c has)
member_of_cube (a ∷ list) c has = ⊎_elim
    (λ (here : a.cube ≡ c). (a, member_first a list, here))
    (λ (later : Contains (cubes_of list) c). (let m = member_of_cube list c later in (m.0, member_later a list m.0 m.1, m.2)))
    (member_cases a.cube (cubes_of list) c has)

-- a member's cube is one of the list
pub cube_of_member : (list : List Answered) (a : Answered) → Contains list a → Contains (cubes_of list) a.cube
cube_of_member [] a has = absurd (member_none a has)
cube_of_member (b ∷ list) a has = ⊎_elim
    (λ (here : b ≡ a). subst (λ (x : Answered). Contains (b.cube ∷ cubes_of list) x.cube) here (member_first b.cube (cubes_of list)))
    (λ (later : Contains list a). member_later b.cube (cubes_of list) a.cube (cube_of_member list a later))
    (member_cases b list a has)

-- where a member stands
pub place_of : (list : List Answered) (a : Answered) → Contains list a → (k : ℕ) × (slice_get (cubes_of list) k ≡ Some a.cube) × (slice_get (answers_of list) k ≡ Some a.answer)
place_of [] a has = absurd (member_none a has)
place_of (b ∷ list) a has = ⊎_elim
    (λ (here : b ≡ a). (0, ap (λ (x : Answered). Some x.cube) here, ap (λ (x : Answered). Some x.answer) here))
    (λ (later : Contains list a). (let p = place_of list a later in (suc p.0, p.1, p.2)))
    (member_cases b list a has)

-- all cubes of the list are low
pub all_low : (list : List Answered) (n : ℕ) → ((c : ℕ) → Contains (cubes_of list) c → c < n) → All (λ (a : Answered). a.cube < n) list
all_low list n low i d lt = low (get_or list i d).cube (cube_of_member list (get_or list i d) (Contains-get_or list i d lt))

-- no number stands in two lists that have each at most once
pub apart_in : (xs ys : List ℕ) → ((x : ℕ) → count_by (λ y. y == x) (xs ++ ys) ≤ 1) → (x : ℕ) → Contains xs x → ¬ (Contains ys x)
apart_in xs ys once x a b = let n = times_of xs x a in let m = times_of ys x b in let both = times-append x xs ys in let count = times-count x (xs ++ ys) in let few = once x in omega arith

-- what stands in a list where an element was set
get_set_same : {X : Type 0} (xs : List X) (i : ℕ) (y : X) → i < length xs → slice_get (slice_set xs i y) i ≡ Some y
get_set_same xs i y lt =
    slice_get-get_or (slice_set xs i y) i y (let long = length-set xs i y in omega arith) ∙ ap Some (get_or-set_same xs i y y lt)

-- and at the other places
get_set_other : {X : Type 0} (xs : List X) (i j : ℕ) (y : X) → j ≢ i → slice_get (slice_set xs i y) j ≡ slice_get xs j
get_set_other [] i j y apart = refl
get_set_other (x ∷ xs) zero zero y apart = absurd (apart refl)
get_set_other (x ∷ xs) zero (suc j) y apart = refl
get_set_other (x ∷ xs) (suc i) zero y apart = refl
get_set_other (x ∷ xs) (suc i) (suc j) y apart = get_set_other xs i j y (λ same. apart (ap suc same))

module _ (row : List (Option CubeAnswer)) (list : List Answered) (is : IsRowOf row list) (a : Answered) (lt : a.cube < length row) (new : ¬ (Contains (cubes_of list) a.cube)) where
  -- nothing stood there
  empty_there : get_or row a.cube None ≡ None
  empty_there = read (get_or row a.cube None) refl where
    read : (o : Option CubeAnswer) → get_or row a.cube None ≡ o → o ≡ None
    read None same = refl
    read (Some answer) same = absurd (new (cube_of_member list (answered a.cube answer) (is.only a.cube answer (slice_get-get_or row a.cube None lt ∙ ap Some same))))

  -- the row with one more answer
  row_put : IsRowOf (slice_set row a.cube (Some a.answer)) (list ++ a ∷ [])
  row_put = record {
    there = λ b has. ⊎_elim
        (λ (old : Contains list b). get_set_other row a.cube b.cube (Some a.answer) (λ same. new (subst (Contains (cubes_of list)) same (cube_of_member list b old))) ∙ is.there b old)
        (λ (last : a ≡ b). subst (λ (x : Answered). slice_get (slice_set row a.cube (Some a.answer)) x.cube ≡ Some (Some x.answer)) last (get_set_same row a.cube (Some a.answer) lt))
        (Contains-push_cases list a b has);
    only = λ c answer at. ⊎_elim
        (λ (here : c ≡ a.cube). (
        let same : Some a.answer ≡ Some answer = same_Some (Some a.answer) (Some answer) (sym (get_set_same row a.cube (Some a.answer) lt) ∙ subst (λ k. slice_get (slice_set row a.cube (Some a.answer)) k ≡ Some (Some answer)) here at) in
        subst (λ k. Contains (list ++ a ∷ []) (answered k answer)) (sym here) (subst (λ z. Contains (list ++ a ∷ []) (answered a.cube z)) (same_Some a.answer answer same) (Contains-push list a))))
        (λ (other : c ≢ a.cube). Contains-append_left list (a ∷ []) (answered c answer) (is.only c answer (sym (get_set_other row a.cube c (Some a.answer) other) ∙ at)))
        (cases_eq c a.cube);
    number = (
        let put = sum_by-set number_there row a.cube (Some a.answer) None lt in
        let none = ap number_there empty_there in
        let was = is.number in
        let more = ap (sum_by number_found) (map-append (λ (x : Answered). x.answer) list (a ∷ [])) ∙ sum_push number_found (answers_of list) a.answer in
        omega arith);
  }

-- as many places as before
pub length-with_answers : (row : List (Option CubeAnswer)) (list : List Answered) → length (with_answers row list) ≡ length row
length-with_answers row [] = refl
length-with_answers row (a ∷ list) = length-with_answers (slice_set row a.cube (Some a.answer)) list ∙ length-set row a.cube (Some a.answer)

-- the row with the answers of a further list, whose cubes are others
pub row_all : (row : List (Option CubeAnswer)) (list more : List Answered) → IsRowOf row list → ((c : ℕ) → Contains (cubes_of more) c → c < length row) → ((x : ℕ) → count_by (λ y. y == x) (cubes_of (list ++ more)) ≤ 1) → IsRowOf (with_answers row more) (list ++ more)
row_all row list [] is low once = subst (IsRowOf row) (sym (append-nil list)) is
row_all row list (a ∷ more) is low once =
    let whole : (list ++ a ∷ []) ++ more ≡ list ++ (a ∷ more) = append_assoc list (a ∷ []) more in
    let apart = apart_in (cubes_of list) (cubes_of (a ∷ more)) (λ x. subst (λ l. count_by (λ y. y == x) l ≤ 1) (map-append (λ (b : Answered). b.cube) list (a ∷ more)) (once x)) in
    let put = row_put row list is a (low a.cube (member_first a.cube (cubes_of more))) (λ has. apart a.cube has (member_first a.cube (cubes_of more))) in
    subst (IsRowOf (with_answers row (a ∷ more))) whole
    (row_all (slice_set row a.cube (Some a.answer)) (list ++ a ∷ []) more put
    (λ c has. (let long = length-set row a.cube (Some a.answer) in let lt = low c (member_later a.cube (cubes_of more) c has) in omega arith))
    (λ x. subst (λ l. count_by (λ y. y == x) (cubes_of l) ≤ 1) (sym whole) (once x)))

-- a row without answers
pub row_empty : (n : ℕ) → IsRowOf (replicate n None) []
row_empty n = record {
  there = λ a has. absurd (member_none a has);
  only = λ c answer at. (let lt = slice_get_within (replicate n None) c (Some answer) at in let long = length-replicate {A = Option CubeAnswer} n None in
      absurd (none-some answer (sym (get_or-replicate n c None None (omega arith)) ∙ get_or_from_slice_get (replicate n None) c (Some answer) None at)));
  number = sum_by-replicate number_there n None ∙ (let zero_times : n * 0 ≡ 0 = omega arith in zero_times);
}

-- the answers that are there have together as many completions as the row
pub number_present : (row : List (Option CubeAnswer)) → sum_by number_found (present row) ≡ sum_by number_there row
number_present [] = refl
number_present (None ∷ row) =
    let rest = number_present row in
    let first = sum_by-cons number_there None row in
    omega arith
number_present (Some answer ∷ row) =
    let rest = number_present row in
    let first = sum_by-cons number_there (Some answer) row in
    let here = sum_by-cons number_found answer (present row) in
    omega arith

-- where each place has an answer, the answers that are there are those of the places
pub whole_row : (row : List (Option CubeAnswer)) → ((c : ℕ) → c < length row → (answer : CubeAnswer) × (slice_get row c ≡ Some (Some answer))) → map Some (present row) ≡ row
whole_row [] full = refl
whole_row (None ∷ row) full = (let here = full 0 (omega arith) in absurd (none-some here.0 (same_Some None (Some here.0) here.1)))
whole_row (Some answer ∷ row) full = ap (λ l. Some answer ∷ l) (whole_row row (λ c lt. full (suc c) (omega arith)))

-- one more answer is put
pub put_row : (row all : List (Option CubeAnswer)) (list rest : List Answered) (a : Answered) → with_answers row list ≡ all → list ≡ a ∷ rest → with_answers (slice_set row a.cube (Some a.answer)) rest ≡ all
put_row row all list rest a was is = ap (with_answers row) (sym is) ∙ was

-- and the cubes that are left are in range
pub put_low : (row : List (Option CubeAnswer)) (list rest : List Answered) (a : Answered) → All (λ (b : Answered). b.cube < length row) list → list ≡ a ∷ rest → All (λ (b : Answered). b.cube < length (slice_set row a.cube (Some a.answer))) rest
put_low row list rest a low is i d lt =
    let long = length-set row a.cube (Some a.answer) in
    let more = ap length is in
    let at = subst (λ l. (get_or l (suc i) d).cube < length row) is (low (suc i) d (omega arith)) in
    omega arith
