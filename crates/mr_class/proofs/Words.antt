-- All lists of so many members of a list.
use Rattle.std.proofs.Common.{◌≡◌, ℕ, zero, suc, ◌+◌, List, [], ◌∷◌, ◌++◌, length, refl, ap, subst, ⊎_elim, arith}
use Rattle.std.specs.Prelude.{Contains}
use Rattle.std.proofs.lemmas.List.Elements.{Contains-append_left, Contains-append_right, Contains-append_cases}
use Rattle.mr_set.proofs.Ordered.{member_first, member_later, member_cases, member_none}

-- each list with x before it
befores : {A : Type 0} → A → List (List A) → List (List A)
befores x [] = []
befores x (w ∷ ws) = (x ∷ w) ∷ befores x ws

-- each list with each letter before it
prefixed : {A : Type 0} → List A → List (List A) → List (List A)
prefixed [] ws = []
prefixed (x ∷ xs) ws = befores x ws ++ prefixed xs ws

-- all lists of so many letters
pub words : {A : Type 0} → List A → ℕ → List (List A)
words letters zero = [] ∷ []
words letters (suc n) = prefixed letters (words letters n)

-- a word with x before it is among them
befores_have : {A : Type 0} (x : A) (ws : List (List A)) (w : List A) → Contains ws w → Contains (befores x ws) (x ∷ w)
unfolding befores
befores_have x [] w inside = absurd (member_none w inside)
befores_have x (v ∷ vs) w inside = ⊎_elim
    (λ (is : v ≡ w). subst (λ u. Contains ((x ∷ v) ∷ befores x vs) (x ∷ u)) is (member_first (x ∷ v) (befores x vs)))
    (λ (later : Contains vs w). member_later (x ∷ v) (befores x vs) (x ∷ w) (befores_have x vs w later))
    (member_cases v vs w inside)

-- and each of them is one
befores_are : {A : Type 0} (x : A) (ws : List (List A)) (w : List A) → Contains (befores x ws) w → (v : List A) × (w ≡ x ∷ v) × Contains ws v
unfolding befores
befores_are x [] w inside = absurd (member_none w inside)
befores_are x (v ∷ vs) w inside = ⊎_elim
    (λ (is : x ∷ v ≡ w). (v, cc, member_first v vs))
    (λ (later : Contains (befores x vs) w). (let found = befores_are x vs w later in (found.0, found.1, member_later v vs found.0 found.2)))
    (member_cases (x ∷ v) (befores x vs) w inside)

-- a word with a letter before it is among them
prefixed_have : {A : Type 0} (xs : List A) (ws : List (List A)) (x : A) (w : List A) → Contains xs x → Contains ws w → Contains (prefixed xs ws) (x ∷ w)
unfolding prefixed
prefixed_have [] ws x w letter inside = absurd (member_none x letter)
prefixed_have (y ∷ ys) ws x w letter inside = ⊎_elim
    (λ (is : y ≡ x). subst (λ z. Contains (befores y ws ++ prefixed ys ws) (z ∷ w)) is (Contains-append_left (befores y ws) (prefixed ys ws) (y ∷ w) (befores_have y ws w inside)))
    (λ (later : Contains ys x). Contains-append_right (befores y ws) (prefixed ys ws) (x ∷ w) (prefixed_have ys ws x w later inside))
    (member_cases y ys x letter)

-- and each of them is one
prefixed_are : {A : Type 0} (xs : List A) (ws : List (List A)) (w : List A) → Contains (prefixed xs ws) w → (x : A) × (v : List A) × (w ≡ x ∷ v) × Contains xs x × Contains ws v
unfolding prefixed
prefixed_are [] ws w inside = absurd (member_none w inside)
prefixed_are (y ∷ ys) ws w inside = ⊎_elim
    (λ (here : Contains (befores y ws) w). (let found = befores_are y ws w here in (y, found.0, found.1, member_first y ys, found.2)))
    (λ (later : Contains (prefixed ys ws) w). (let found = prefixed_are ys ws w later in (found.0, found.1, found.2, member_later y ys found.0 found.3, found.4)))
    (Contains-append_cases (befores y ws) (prefixed ys ws) w inside)

-- a list of letters is among the lists of as many
pub words_have : {A : Type 0} (letters : List A) (w : List A) → ((a : A) → Contains w a → Contains letters a) → Contains (words letters (length w)) w
unfolding words
words_have letters [] all = member_first [] []
words_have letters (x ∷ w) all = prefixed_have letters (words letters (length w)) x w (all x (member_first x w)) (words_have letters w (λ a inside. all a (member_later x w a inside)))

-- and each of those is one
pub words_are : {A : Type 0} (letters : List A) (n : ℕ) (w : List A) → Contains (words letters n) w → (length w ≡ n) × ((a : A) → Contains w a → Contains letters a)
unfolding words
words_are {A} letters zero w inside = ⊎_elim
    (λ (is : [] ≡ w). subst (λ (v : List A). (length v ≡ 0) × ((a : A) → Contains v a → Contains letters a)) is (refl, λ a none. absurd (member_none a none)))
    (λ (none : Contains [] w). absurd (member_none w none))
    (member_cases [] [] w inside)
words_are {A} letters (suc n) w inside =
    let found = prefixed_are letters (words letters n) w inside in
    let rest = words_are letters n found.1 found.4 in
    let size : length w ≡ suc n = (let first = ap length found.2 in let more = rest.0 in omega (arith, first, more)) in
    (size, λ a here. ⊎_elim (λ (is : found.0 ≡ a). subst (Contains letters) is found.3) (λ (later : Contains found.1 a). rest.1 a later) (member_cases found.0 found.1 a (subst (λ (v : List A). Contains v a) found.2 here)))
