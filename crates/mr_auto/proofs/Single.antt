-- Forms have one list of orbits.
use Rattle.std.proofs.Common.{ℕ, ◌≤◌, ◌≡◌, List, [], ◌∷◌, length, refl, ap, subst, ◌∙◌, arith}
use Rattle.std.specs.Prelude.{Contains}
use Rattle.std.proofs.lemmas.Cmp.{nat_list_cmp_total}
use Rattle.mr_field.specs.Gf.{Gf}
use Rattle.mr_set.proofs.Ordered.{member_first, member_later, same_members}
use Rattle.mr_auto.specs.declared.orbit.Orbit.{Orbit}
use Rattle.mr_auto.specs.Images.{HasSize}
use Rattle.mr_auto.specs.Orbits.{leasts, AreOrbits}
use Rattle.mr_auto.proofs.Partition.{length-le_from_members}

-- an orbit has one size
one-size : (f : Gf) (c : List ℕ) (j k : ℕ) → HasSize f c j → HasSize f c k → j ≡ k
one-size f c j k one two =
    let le = length-le_from_members one.members two.members one.distinct (λ d inside. (two.exactly d).1 ((one.exactly d).0 inside)) in
    let ge = length-le_from_members two.members one.members two.distinct (λ d inside. (one.exactly d).1 ((two.exactly d).0 inside)) in
    let first = one.size in
    let second = two.size in
    omega arith

-- entries with one least member and one size are the same
same-entry : (x y : Orbit) → x.least ≡ y.least → x.size ≡ y.size → x ≡ y
same-entry x y least size = ap (λ (c : List ℕ). let o : Orbit = record { least = c; size = x.size } in o) least ∙ ap (λ n. let o : Orbit = record { least = y.least; size = n } in o) size

-- so are lists of entries with the same least members
same-entries : (f : Gf) (xs ys : List Orbit) → leasts xs ≡ leasts ys → ((o : Orbit) → Contains xs o → HasSize f o.least o.size) → ((o : Orbit) → Contains ys o → HasSize f o.least o.size) → xs ≡ ys
same-entries f [] [] same first second = refl
same-entries f [] (y ∷ ys) same first second = cc
same-entries f (x ∷ xs) [] same first second = cc
same-entries f (x ∷ xs) (y ∷ ys) same first second =
    let least : x.least ≡ y.least = cc in
    let later : leasts xs ≡ leasts ys = cc in
    let size = one-size f y.least x.size y.size (subst (λ (c : List ℕ). HasSize f c x.size) least (first x (member_first x xs))) (second y (member_first y ys)) in
    let head : x ≡ y = same-entry x y least size in
    let rest : xs ≡ ys = same-entries f xs ys later (λ o inside. first o (member_later x xs o inside)) (λ o inside. second o (member_later y ys o inside)) in
    cc

-- there is one list of orbits
pub one-list : (f : Gf) (forms : List (List ℕ)) (xs ys : List Orbit) → AreOrbits f forms xs → AreOrbits f forms ys → xs ≡ ys
one-list f forms xs ys one two = same-entries f xs ys
    (same_members nat_list_cmp_total (leasts xs) (leasts ys) one.increasing two.increasing (λ c. ((λ h. (two.exactly c).1 ((one.exactly c).0 h)), (λ h. (one.exactly c).1 ((two.exactly c).0 h)))))
    one.sizes two.sizes
