-- What right operands give: each key one value, and no more than eight.
use Rattle.std.proofs.Common.{◌≡◌, ◌≢◌, ℕ, zero, suc, ◌+◌, ◌<◌, ◌≤◌, Bool, true, false, List, [], ◌∷◌, ◌++◌, length, get_or, take, ◌-◌, refl, sym, ap, subst, ◌∙◌, inl, inr, ◌⊎◌, ⊎_elim, arith}
use Rattle.std.specs.Prelude.{codes, Contains, nat_eq, min, ◌||◌}
use Rattle.std.specs.List.{AllByRecursion, IsDistinct, list_any}
use Rattle.std.proofs.Math.Dec.{eqb}
use Rattle.std.proofs.lemmas.Bool.{cases_eq, cases_lt}
use Rattle.std.proofs.lemmas.Bool.Decides.{nat_tests, Decides-eqb}
use Rattle.std.proofs.lemmas.Map.Steps.{length-le_from_distinct_below}
use Rattle.std.proofs.lemmas.List.{length-take, get_or-take, get_or_default, take-take}
use Rattle.matrep.specs.declared.names.Name.{Name}
use Rattle.matrep.specs.declared.names.Key.{Key}
use Rattle.matrep.specs.Words.{key_text, IsValue, Gives, HasKey, IsOperand, AreOperands}
use Rattle.matrep.proofs.Keys.{one_cut, key_at, place_of, key_at-place, place-lt}

-- a word at an earlier place is one of the words before
pub word_before : (words : List (List ℕ)) (i k : ℕ) (word : List ℕ) → i < k → i < length words → get_or words i word ≡ word → Contains (take k words) word
word_before words i k word lt within is = (i, (let size = length-take k words in omega arith), get_or-take k words i word lt ∙ is)

-- what is one of the first words is one of more of them
pub more_words : (words : List (List ℕ)) (j k : ℕ) (word : List ℕ) → j ≤ k → Contains (take j words) word → Contains (take k words) word
more_words words j k word le (i, lt, is) =
    let size = length-take j words in
    let low : i < j = omega arith in
    word_before words i k word (omega arith) (omega arith) (sym (get_or-take j words i word low) ∙ is)

-- the first words are operands, and so are fewer of them
pub fewer : (name : Name) (words : List (List ℕ)) (n k : ℕ) → k ≤ n → n ≤ length words → AreOperands name words n → AreOperands name (take k words) (length (take k words))
fewer name words n k le within each j lt =
    let size = length-take k words in
    let low : j < k = omega arith in
    subst (λ (before : List (List ℕ)). IsOperand name before (get_or (take k words) j [])) (sym (take-take j k words (omega arith)))
    (subst (λ (word : List ℕ). IsOperand name (take j words) word) (sym (get_or-take k words j [] low)) (each j (omega arith)))

module _ (name : Name) (words : List (List ℕ)) (each : AreOperands name words (length words)) where
  -- the word at a place has the key and the value of the operand
  cut_at : (k : ℕ) (lt : k < length words) (key : Key) (value : List ℕ) → get_or words k (key_text key ++ codes "=" ++ value) ≡ key_text key ++ codes "=" ++ value →
      ((each k lt).key ≡ key) × ((each k lt).value ≡ value)
  cut_at k lt key value is =
      one_cut (get_or words k []) (each k lt).key key (each k lt).value value (each k lt).text (get_or_default words k [] (key_text key ++ codes "=" ++ value) lt ∙ is)

  -- a value that is given is one of its key
  pub given_is_value : (key : Key) (value : List ℕ) → Gives words key value → IsValue key value
  given_is_value key value (k, lt, is) =
      let cut = cut_at k lt key value is in
      subst (λ (j : Key). IsValue j value) cut.0 (subst (λ (v : List ℕ). IsValue (each k lt).key v) cut.1 (each k lt).of_key)

  -- no later word gives the key again
  not_again : (key : Key) (v w : List ℕ) (i j : ℕ) → i < j → i < length words → get_or words i (key_text key ++ codes "=" ++ v) ≡ key_text key ++ codes "=" ++ v →
      (lt : j < length words) → get_or words j (key_text key ++ codes "=" ++ w) ≡ key_text key ++ codes "=" ++ w → ⊥
  not_again key v w i j before within is lt at =
      (each j lt).new (subst (λ (k : Key). HasKey (take j words) k) (sym (cut_at j lt key w at).0) (v, word_before words i j _ before within is))

  -- each key is given one value
  pub one_value_given : (key : Key) (v w : List ℕ) → Gives words key v → Gives words key w → v ≡ w
  one_value_given key v w (i, lt, is) (j, lu, at) = elim (cases_eq i j) [
    | inl same ↦
        let here : get_or words i (key_text key ++ codes "=" ++ w) ≡ key_text key ++ codes "=" ++ w = subst (λ (k : ℕ). get_or words k (key_text key ++ codes "=" ++ w) ≡ key_text key ++ codes "=" ++ w) (sym same) at in
        sym (cut_at i lt key v is).1 ∙ (cut_at i lt key w here).1
    | inr differ ↦ elim (cases_lt i j) [
      | inl before ↦ absurd (not_again key v w i j before lt is lu at)
      | inr after ↦ absurd (not_again key w v j i (omega arith) lu at lt is)
    ]
  ]

-- what holds of the elements of a list holds of one of them
of_element : (P : ℕ → Type 0) (xs : List ℕ) (q : ℕ) → AllByRecursion P xs → list_any (eqb q) xs ≡ true → P q
of_element P [] q all any = cc
of_element P (x ∷ xs) q all any = elim (cases_eq q x) [
  | inl same ↦ subst P (sym same) all.0
  | inr differ ↦ of_element P xs q all.1 (let other : eqb q x ≡ false = grind (arith, nat_tests) in sym (ap (λ b. b || list_any (eqb q) xs) other) ∙ any)
]

module _ (name : Name) (words : List (List ℕ)) (n : ℕ) (within : n ≤ length words) (each : AreOperands name words n) where
  -- the place of a key that one of the first k words gives
  abbrev IsPlace : ℕ → ℕ → Type 0
  IsPlace k q = (q < 8) × HasKey (take k words) (key_at q)

  -- the key of the next operand has another place than those before
  apart : (k : ℕ) (lt : k < n) (xs : List ℕ) → AllByRecursion (IsPlace k) xs → AllByRecursion (λ q. eqb (place_of (each k lt).key) q ≡ false) xs
  apart k lt [] all = tt
  apart k lt (x ∷ xs) all = (differs, apart k lt xs all.1)
    where
      differs : eqb (place_of (each k lt).key) x ≡ false
      differs = elim (cases_eq (place_of (each k lt).key) x) [
        | inl same ↦ absurd ((each k lt).new (subst (λ (key : Key). HasKey (take k words) key) (sym (ap key_at same) ∙ key_at-place (each k lt).key) all.0.1))
        | inr other ↦ grind (arith, nat_tests)
      ]

  -- places of keys that were given stay such
  later : (k : ℕ) (xs : List ℕ) → AllByRecursion (IsPlace k) xs → AllByRecursion (IsPlace (suc k)) xs
  later k [] all = tt
  later k (x ∷ xs) all = ((all.0.0, (all.0.1.0, more_words words k (suc k) _ (omega arith) all.0.1.1)), later k xs all.1)

  -- as many different places as operands
  places : (k : ℕ) → k ≤ n → (xs : List ℕ) × (length xs ≡ k) × IsDistinct eqb xs × AllByRecursion (IsPlace k) xs
  unfolding IsDistinct
  places zero le = ([], refl, tt, tt)
  places (suc k) le =
      let lt : k < n = omega arith in
      let rest = places k (omega arith) in
      let here : get_or words k (key_text (each k lt).key ++ codes "=" ++ (each k lt).value) ≡ key_text (each k lt).key ++ codes "=" ++ (each k lt).value =
      get_or_default words k _ [] (omega arith) ∙ (each k lt).text in (
        place_of (each k lt).key ∷ rest.0,
        ap suc rest.1,
        (apart k lt rest.0 rest.3, rest.2),
        ((place-lt (each k lt).key, subst (λ (key : Key). HasKey (take (suc k) words) key) (sym (key_at-place (each k lt).key)) ((each k lt).value, word_before words k (suc k) _ (omega arith) (omega arith) here)), later k rest.0 rest.3),
      )

  -- so there are eight operands at most
  pub few : n < 9
  few =
      let all = places n (omega arith) in
      let small = length-le_from_distinct_below all.0 8 all.2 (λ q any. (of_element (IsPlace n) all.0 q all.3 any).0) in
      omega (arith, small, all.1)
