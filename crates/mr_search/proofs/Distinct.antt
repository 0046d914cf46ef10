-- Lists without equal members, counted.
use Rattle.std.proofs.Common.{◌≡◌, ◌≢◌, ℕ, zero, suc, ◌<◌, ◌≤◌, List, [], ◌∷◌, length, get_or, sym, subst, ◌∙◌, inl, inr, arith}
use Rattle.std.specs.Prelude.{AllPairs, Contains}
use Rattle.mr_set.proofs.Ordered.{member_first, member_later, member_cases, member_none}

-- the list without what stands at a place
without_place : {X : Type 0} → ℕ → List X → List X
without_place k [] = []
without_place zero (y ∷ ys) = ys
without_place (suc k) (y ∷ ys) = y ∷ without_place k ys

-- it has one member less
length-without_place : {X : Type 0} (k : ℕ) (ys : List X) → k < length ys → suc (length (without_place k ys)) ≡ length ys
unfolding without_place
length-without_place k [] lt = absurd (omega arith)
length-without_place zero (y ∷ ys) lt = omega arith
length-without_place (suc k) (y ∷ ys) lt = let rest = length-without_place k ys (omega arith) in omega arith

-- and each member but the one that stood there
stays : {X : Type 0} (k : ℕ) (ys : List X) (x z : X) → get_or ys k x ≡ x → x ≢ z → Contains ys z → Contains (without_place k ys) z
unfolding without_place
stays k [] x z is apart inside = absurd (member_none z inside)
stays zero (y ∷ ys) x z is apart inside = elim (member_cases y ys z inside) [
  | inl same ↦ absurd (apart (sym is ∙ same))
  | inr later ↦ later
]
stays {X} (suc k) (y ∷ ys) x z is apart inside = elim (member_cases y ys z inside) [
  | inl same ↦ subst (λ (w : X). Contains (y ∷ without_place k ys) w) same (member_first y (without_place k ys))
  | inr later ↦ member_later y (without_place k ys) z (stays k ys x z is apart later)
]

-- a list with no two equal members, which are all in another, is no longer
pub no_longer : {X : Type 0} (xs ys : List X) → AllPairs (λ x y. x ≢ y) xs → ((x : X) → Contains xs x → Contains ys x) → length xs ≤ length ys
no_longer [] ys distinct within = omega arith
no_longer (x ∷ xs) ys distinct within =
    let place = within x (member_first x xs) in
    let size = length-without_place place.0 ys place.1 in
    let rest = no_longer xs (without_place place.0 ys) (λ i j d lt inside. distinct (suc i) (suc j) d (omega arith) (omega arith))
    (λ z inside. stays place.0 ys x z place.2 (λ same. distinct 0 (suc inside.0) z (omega arith) (let lt = inside.1 in omega arith) (same ∙ sym inside.2)) (within z (member_later x xs z inside))) in
    omega arith
