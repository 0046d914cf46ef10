-- Words say one command, or one place is the first that offends.
use Rattle.std.proofs.Common.{◌≡◌, ◌≢◌, ℕ, zero, suc, ◌+◌, ◌<◌, ◌≤◌, Bool, true, false, List, [], ◌∷◌, ◌++◌, length, get_or, take, drop, refl, sym, ap, subst, ◌∙◌, inl, inr, ◌⊎◌, ⊎_elim, arith}
use Rattle.std.specs.Prelude.{codes, decimal, Contains, ◌^◌}
use Rattle.std.proofs.lemmas.Fmt.{decimal_injective}
use Rattle.std.proofs.lemmas.Bool.{cases_eq, cases_lt}
use Rattle.mr_field.specs.Gf.{Gf, gf2, gf3, gf4, gf5, gf7, gf8, gf9, order}
use Rattle.mr_field.specs.Order.{IsOrder}
use Rattle.mr_set.specs.Elements.{elements_below}
use Rattle.matrep.specs.declared.words.Command.{Command}
use Rattle.matrep.specs.declared.words.Command.TheVariants.{Solve, Check, Confirm, MatroidOf, Dual, Minor, Plane}
use Rattle.matrep.specs.declared.names.Name.{Name}
use Rattle.matrep.specs.declared.names.Key.{Key}
use Rattle.matrep.specs.declared.names.Key.TheVariants.{Field, Workers, Nodes, Split, Classes, Delete, Contract, Order}
use Rattle.matrep.specs.Words.{name_text, name_of, classes_word, IsOperand, AreOperands, HasNeeded, Gives, HasKey, GivesNumber, GivesClasses, GivesElements, MeansSolve, Means, IsBuilt, Says, OffendsAfter, IsFirstOffence}
use Rattle.matrep.proofs.Keys.{one_name}
use Rattle.matrep.proofs.Given.{one_value_given}
use Rattle.matrep.proofs.Lists.{one_list, one_mask}
use Rattle.mr_text.specs.declared.TheConstants.{NUMBERS}

-- the orders of fields are small
pub order-lt : (q : ℕ) → IsOrder q → q < 10
order-lt q (f, is) = subst (λ (n : ℕ). n < 10) is (small f)
  where
    small : (f : Gf) → order f < 10
    small gf2 = omega arith
    small gf3 = omega arith
    small gf4 = omega arith
    small gf5 = omega arith
    small gf7 = omega arith
    small gf8 = omega arith
    small gf9 = omega arith

-- what a right list of operands means is one thing
module _ (name : Name) (words : List (List ℕ)) (each : AreOperands name words (length words)) where
  -- one number is given to a key
  one_given : (key : Key) (k j : ℕ) → k < NUMBERS → j < NUMBERS → Gives words key (decimal k) → Gives words key (decimal j) → k ≡ j
  one_given key k j small low p q = decimal_injective k j (omega (arith, small)) (omega (arith, low)) (one_value_given name words each key (decimal k) (decimal j) p q)

  -- or its default is taken
  one_number : (key : Key) (default k j : ℕ) → k < NUMBERS → j < NUMBERS → GivesNumber words key default k → GivesNumber words key default j → k ≡ j
  one_number key default k j small low (inl p) (inl q) = one_given key k j small low p q
  one_number key default k j small low (inl p) (inr q) = absurd (q.0 (decimal k, p))
  one_number key default k j small low (inr p) (inl q) = absurd (p.0 (decimal j, q))
  one_number key default k j small low (inr p) (inr q) = p.1 ∙ sym q.1

  -- a word for classes is one of the two
  one_word : (b c : Bool) → classes_word b ≡ classes_word c → b ≡ c
  one_word true true same = refl
  one_word false false same = refl
  one_word true false same = let first : 97 ≡ 112 = ap (λ (xs : List ℕ). get_or xs 0 0) same in absurd (omega (arith, first))
  one_word false true same = let first : 112 ≡ 97 = ap (λ (xs : List ℕ). get_or xs 0 0) same in absurd (omega (arith, first))

  -- orbits are asked for or are not
  one_choice : (b c : Bool) → GivesClasses words b → GivesClasses words c → b ≡ c
  one_choice b c (inl p) (inl q) = one_word b c (one_value_given name words each Classes (classes_word b) (classes_word c) p q)
  one_choice b c (inl p) (inr q) = absurd (q.0 (classes_word b, p))
  one_choice b c (inr p) (inl q) = absurd (p.0 (classes_word c, q))
  one_choice b c (inr p) (inr q) = p.1 ∙ sym q.1

  -- one mask is given to a key
  one_set : (key : Key) (a b : ℕ) → a < 2 ^ 64 → b < 2 ^ 64 → GivesElements words key a → GivesElements words key b → a ≡ b
  one_set key a b small low (inl (xs, list, p, is)) (inl (ys, other, q, at)) =
      let text = one_value_given name words each key _ _ p q in
      let same : xs ≡ ys = one_list _ xs ys list (subst (λ (t : List ℕ). Rattle.matrep.specs.Words.IsListText t ys) (sym text) other) in
      one_mask a b small low (is ∙ same ∙ sym at)
  one_set key a b small low (inl p) (inr q) = absurd (q.0 (_, p.2))
  one_set key a b small low (inr p) (inl q) = absurd (p.0 (_, q.2))
  one_set key a b small low (inr p) (inr q) = p.1 ∙ sym q.1

  -- the commands of a field or a plane
  one_field : (key : Key) (q r : ℕ) → IsOrder q → IsOrder r → Gives words key (decimal q) → Gives words key (decimal r) → q ≡ r
  one_field key q r p s given other =
      let small = order-lt q p in
      let low = order-lt r s in
      one_given key q r (omega (arith, small)) (omega (arith, low)) given other

  -- two commands of one name that the operands mean are equal
  pub one_meaning : (c d : Command) → name_of c ≡ name_of d → IsBuilt c → IsBuilt d → Means words c → Means words d → c ≡ d
  one_meaning (Solve q workers nodes split orbits) (Solve r others more parts choice) same p s t u =
      let field : q ≡ r = one_field Field q r p.0 s.0 t.field u.field in
      let same_workers : workers ≡ others = (let a = p.2 in let b = s.2 in one_number Workers _ workers others (omega (arith, a)) (omega (arith, b)) t.workers_are u.workers_are) in
      let same_nodes : nodes ≡ more = (let a = p.4 in let b = s.4 in one_number Nodes _ nodes more (omega (arith, a)) (omega (arith, b)) t.nodes_are u.nodes_are) in
      let same_split : split ≡ parts = (let a = p.5 in let b = s.5 in one_number Split _ split parts (omega (arith, a)) (omega (arith, b)) t.split_is u.split_is) in
      let same_choice : orbits ≡ choice = one_choice orbits choice t.classes_are u.classes_are in
      cc
  one_meaning (Check q) (Check r) same p s t u = ap Check (one_field Field q r p s t u)
  one_meaning (Confirm q) (Confirm r) same p s t u = ap Confirm (one_field Field q r p s t u)
  one_meaning (MatroidOf q) (MatroidOf r) same p s t u = ap MatroidOf (one_field Field q r p s t u)
  one_meaning Dual Dual same p s t u = refl
  one_meaning (Minor a b) (Minor x y) same p s t u =
      let deleted : a ≡ x = one_set Delete a x p.0 s.0 t.0 u.0 in
      let contracted : b ≡ y = one_set Contract b y p.1 s.1 t.1 u.1 in
      cc
  one_meaning (Plane q) (Plane r) same p s t u = ap Plane (one_field Order q r p.0 s.0 t u)
  one_meaning (Solve q workers nodes split orbits) (Check r) same p s t u = cc
  one_meaning (Solve q workers nodes split orbits) (Confirm r) same p s t u = cc
  one_meaning (Solve q workers nodes split orbits) (MatroidOf r) same p s t u = cc
  one_meaning (Solve q workers nodes split orbits) Dual same p s t u = cc
  one_meaning (Solve q workers nodes split orbits) (Minor x y) same p s t u = cc
  one_meaning (Solve q workers nodes split orbits) (Plane r) same p s t u = cc
  one_meaning (Check q) (Solve r others more parts choice) same p s t u = cc
  one_meaning (Check q) (Confirm r) same p s t u = cc
  one_meaning (Check q) (MatroidOf r) same p s t u = cc
  one_meaning (Check q) Dual same p s t u = cc
  one_meaning (Check q) (Minor x y) same p s t u = cc
  one_meaning (Check q) (Plane r) same p s t u = cc
  one_meaning (Confirm q) (Solve r others more parts choice) same p s t u = cc
  one_meaning (Confirm q) (Check r) same p s t u = cc
  one_meaning (Confirm q) (MatroidOf r) same p s t u = cc
  one_meaning (Confirm q) Dual same p s t u = cc
  one_meaning (Confirm q) (Minor x y) same p s t u = cc
  one_meaning (Confirm q) (Plane r) same p s t u = cc
  one_meaning (MatroidOf q) (Solve r others more parts choice) same p s t u = cc
  one_meaning (MatroidOf q) (Check r) same p s t u = cc
  one_meaning (MatroidOf q) (Confirm r) same p s t u = cc
  one_meaning (MatroidOf q) Dual same p s t u = cc
  one_meaning (MatroidOf q) (Minor x y) same p s t u = cc
  one_meaning (MatroidOf q) (Plane r) same p s t u = cc
  one_meaning Dual (Solve r others more parts choice) same p s t u = cc
  one_meaning Dual (Check r) same p s t u = cc
  one_meaning Dual (Confirm r) same p s t u = cc
  one_meaning Dual (MatroidOf r) same p s t u = cc
  one_meaning Dual (Minor x y) same p s t u = cc
  one_meaning Dual (Plane r) same p s t u = cc
  one_meaning (Minor a b) (Solve r others more parts choice) same p s t u = cc
  one_meaning (Minor a b) (Check r) same p s t u = cc
  one_meaning (Minor a b) (Confirm r) same p s t u = cc
  one_meaning (Minor a b) (MatroidOf r) same p s t u = cc
  one_meaning (Minor a b) Dual same p s t u = cc
  one_meaning (Minor a b) (Plane r) same p s t u = cc
  one_meaning (Plane q) (Solve r others more parts choice) same p s t u = cc
  one_meaning (Plane q) (Check r) same p s t u = cc
  one_meaning (Plane q) (Confirm r) same p s t u = cc
  one_meaning (Plane q) (MatroidOf r) same p s t u = cc
  one_meaning (Plane q) Dual same p s t u = cc
  one_meaning (Plane q) (Minor x y) same p s t u = cc

-- words have one name and one list of operands
same_operands : (words : List (List ℕ)) (m n : Name) (xs ys : List (List ℕ)) → words ≡ name_text m ∷ xs → words ≡ name_text n ∷ ys → (m ≡ n) × (xs ≡ ys)
same_operands words m n xs ys one other =
    let both : name_text m ∷ xs ≡ name_text n ∷ ys = sym one ∙ other in
    (one_name m n (ap (λ (ws : List (List ℕ)). get_or ws 0 []) both), ap (λ (ws : List (List ℕ)). drop 1 ws) both)

-- words say one command
pub one_command : (words : List (List ℕ)) (c d : Command) → Says words c → Says words d → c ≡ d
one_command words c d p q =
    let both = same_operands words (name_of c) (name_of d) p.operands q.operands p.whole q.whole in
    one_meaning (name_of c) p.operands p.each c d both.0 p.built q.built p.means (subst (λ (ws : List (List ℕ)). Means ws d) (sym both.1) q.means)

-- right operands with all that is needed don't offend
right_words : (name : Name) (operands : List (List ℕ)) (k : ℕ) → AreOperands name operands (length operands) → HasNeeded name operands → OffendsAfter name operands k → ⊥
right_words name operands k each needed offends = ⊎_elim
    (λ (p : (k < length operands) × ¬ (IsOperand name (take k operands) (get_or operands k []))). p.1 (each k p.0))
    (λ (p : (k ≡ length operands) × ¬ (HasNeeded name operands)). p.1 needed)
    offends.here

-- words that say a command have no place that offends
pub no_offence : (words : List (List ℕ)) (c : Command) (place : ℕ) → Says words c → IsFirstOffence words place → ⊥
no_offence [] c place p offends = let e = ap length p.whole in omega (arith, e)
no_offence (w ∷ ws) c place p (inl (at, none)) = none (name_of c) (ap (λ (xs : List (List ℕ)). get_or xs 0 []) p.whole)
no_offence (w ∷ ws) c place p (inr (name, k, is, at, offends)) =
    let both = same_operands (w ∷ ws) (name_of c) name p.operands ws p.whole (ap (λ (x : List ℕ). x ∷ ws) is) in
    let there : OffendsAfter (name_of c) p.operands k = subst (λ (n : Name). OffendsAfter n p.operands k) (sym both.0) (subst (λ (xs : List (List ℕ)). OffendsAfter name xs k) (sym both.1) offends) in
    right_words (name_of c) p.operands k p.each p.needed there

-- no place after the first that offends is the first
not_before : (name : Name) (operands : List (List ℕ)) (k j : ℕ) → OffendsAfter name operands k → OffendsAfter name operands j → k < j → ⊥
not_before name operands k j first later lt = ⊎_elim
    (λ (p : (k < length operands) × ¬ (IsOperand name (take k operands) (get_or operands k []))). p.1 (later.before k lt))
    (λ (p : (k ≡ length operands) × ¬ (HasNeeded name operands)). ⊎_elim
    (λ (q : (j < length operands) × ¬ (IsOperand name (take j operands) (get_or operands j []))). let is = p.0 in let within = q.0 in omega (arith, is, within))
    (λ (q : (j ≡ length operands) × ¬ (HasNeeded name operands)). let is = p.0 in let at = q.0 in omega (arith, is, at))
    later.here)
    first.here

-- after a name one place is the first that offends
one_after : (name : Name) (operands : List (List ℕ)) (k j : ℕ) → OffendsAfter name operands k → OffendsAfter name operands j → k ≡ j
one_after name operands k j p q = ⊎_elim
    (λ (same : k ≡ j). same)
    (λ (differ : (k < j) ⊎ (j < k)). absurd (⊎_elim (λ (lt : k < j). not_before name operands k j p q lt) (λ (gt : j < k). not_before name operands j k q p gt) differ))
    (three k j)
  where
    three : (k j : ℕ) → (k ≡ j) ⊎ ((k < j) ⊎ (j < k))
    three k j = ⊎_elim (λ (e : k ≡ j). inl e) (λ (ne : k ≢ j). inr (⊎_elim (λ (lt : k < j). inl lt) (λ (ge : j ≤ k). inr (let h : j < k = omega (arith, ne, ge) in h)) (cases_lt k j))) (cases_eq k j)

-- one place is the first that offends
pub one_offence : (words : List (List ℕ)) (place other : ℕ) → IsFirstOffence words place → IsFirstOffence words other → place ≡ other
one_offence [] place other p q = p ∙ sym q
one_offence (w ∷ ws) place other (inl (at, none)) (inl (at_too, none_too)) = at ∙ sym at_too
one_offence (w ∷ ws) place other (inl (at, none)) (inr (name, k, is, at_too, offends)) = absurd (none name is)
one_offence (w ∷ ws) place other (inr (name, k, is, at, offends)) (inl (at_too, none)) = absurd (none name is)
one_offence (w ∷ ws) place other (inr (name, k, is, at, offends)) (inr (n, j, is_too, at_too, offends_too)) =
    let same : name ≡ n = one_name name n (sym is ∙ is_too) in
    at ∙ ap (λ (x : ℕ). x + 1) (one_after name ws k j offends (subst (λ (m : Name). OffendsAfter m ws j) (sym same) offends_too)) ∙ sym at_too
