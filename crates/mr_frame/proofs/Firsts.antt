-- The first set that fails for each value of a position.
use Rattle.std.proofs.Common.{ne_eqb, ℕ, ◌+◌, ◌<◌, ◌≤◌, ◌≡◌, ◌≢◌, ◌↔◌, Bool, true, false, List, [], length, get_or, set, Option, Some, None, refl, sym, ap, subst, ◌∙◌, ⊎_elim, arith, length-set, get_or-set_same, get_or-set_other}
use Rattle.std.specs.Prelude.{Contains, MatchOption, replicate, zero, suc}
use Rattle.std.proofs.lemmas.Bool.{cases_eq, both_ways}
use Rattle.mr_set.specs.Elements.{is_element, without_element, minus, numbers_below}
use Rattle.mr_linear.proofs.Opening.{of_others}
use Rattle.mr_set.proofs.Members.{is_element-without, Contains-from_element, is_element-from_Contains}
use Rattle.mr_frame.proofs.Values.{in_minus, all_but_zero}
use Rattle.mr_frame.specs.Frame.{Framed}
use Rattle.mr_frame.specs.Test.{Needs, NeedsLast, SetFails}
use Rattle.mr_frame.specs.Parts.{NoneFailsLast, IsFirstFailingLast}
use Rattle.mr_frame.specs.Private.Parts.{first_of}
use Rattle.std.specs.Option.{is_some}
use Rattle.std.specs.List.Sorted.{IsStrictlySortedBy}
use Rattle.std.proofs.Common.{not, true≢false}
use Rattle.std.proofs.lemmas.List.{get_or_default}
use Rattle.mr_field.specs.Gf.{order}
use Rattle.mr_field.proofs.Lookups.{order-le}
use Rattle.mr_set.specs.Subsets.{IsSetOf, IsBefore, list_cmp}
use Rattle.std.proofs.lemmas.Bool.{cases_lt}
use Rattle.std.proofs.lemmas.Cmp.{nat_list_cmp_total}
use Rattle.std.proofs.lemmas.List.Elements.{Contains-get_or}
use Rattle.std.proofs.lemmas.Option.{slice_get-get_or}
use Rattle.mr_set.proofs.Ordered.{later_is_greater, not_before_itself, not_both_ways}

-- the values of a set but those that are left are looked at
pub record MarkedBut (values x : List ℕ) (old now : List (Option (List ℕ))) (left : List ℕ) : Type 0 where
  pub len : length now ≡ 9
  pub done : (v : ℕ) → is_element left v ≡ false → get_or now v None ≡ first_of (get_or old v None) (is_element values v) x
  pub kept : (v : ℕ) → is_element left v ≡ true → get_or now v None ≡ get_or old v None
  pub within : (v : ℕ) → is_element left v ≡ true → is_element values v ≡ true

-- where no value fails nothing changes
first_of-false : (o : Option (List ℕ)) (x : List ℕ) → o ≡ first_of o false x
first_of-false None x = refl
first_of-false (Some y) x = refl

-- at the start all are left
pub marked-none : (values x : List ℕ) (old : List (Option (List ℕ))) → length old ≡ 9 → MarkedBut values x old old values
marked-none values x old len = record {
  len = len;
  done = λ v out. first_of-false (get_or old v None) x ∙ ap (λ b. first_of (get_or old v None) b x) (sym out);
  kept = λ v h. refl;
  within = λ v h. h;
}

module _ (values x : List ℕ) (old now : List (Option (List ℕ))) (left left' : List ℕ) (e : ℕ) (to : MarkedBut values x old now left) (less : left' ≡ without_element e left) (inside : is_element left e ≡ true) where
  -- what is left is another one
  other : (v : ℕ) → is_element left' v ≡ true → (v ≢ e) × (is_element left v ≡ true)
  other v h = of_others left left' e v less (Contains-from_element left' v h)

  -- another one that isn't left wasn't left before
  gone : (v : ℕ) → v ≢ e → is_element left' v ≡ false → is_element left v ≡ false
  gone v ne h = sym (ap (λ (ys : List ℕ). is_element ys v) less ∙ is_element-without e v left ∙ rw (ne_eqb v e ne) refl) ∙ h

  -- the value has a set
  pub marked-some : (y : List ℕ) → get_or now e None ≡ Some y → MarkedBut values x old now left'
  marked-some y is = record {
    len = to.len;
    done = λ v out. ⊎_elim
        (λ (p : v ≡ e). subst (λ (k : ℕ). get_or now k None ≡ first_of (get_or old k None) (is_element values k) x) (sym p)
        (is ∙ sym (ap (λ o. first_of o (is_element values e) x) (sym (to.kept e inside) ∙ is))))
        (λ (o : v ≢ e). to.done v (gone v o out))
        (cases_eq v e);
    kept = λ v h. to.kept v (other v h).1;
    within = λ v h. to.within v (other v h).1;
  }

  -- it has none
  pub marked-set : e < 9 → get_or now e None ≡ None → MarkedBut values x old (set now e (Some x)) left'
  marked-set small is = record {
    len = length-set now e (Some x) ∙ to.len;
    done = λ v out. ⊎_elim
        (λ (p : v ≡ e). subst (λ (k : ℕ). get_or (set now e (Some x)) k None ≡ first_of (get_or old k None) (is_element values k) x) (sym p)
        (get_or-set_same now e (Some x) None (let n = to.len in omega arith) ∙ sym (ap (λ o. first_of o (is_element values e) x) (sym (to.kept e inside) ∙ is) ∙ ap (λ b. first_of None b x) (to.within e inside))))
        (λ (o : v ≢ e). get_or-set_other now e v (Some x) None o ∙ to.done v (gone v o out))
        (cases_eq v e);
    kept = λ v h. get_or-set_other now e v (Some x) None (other v h).0 ∙ to.kept v (other v h).1;
    within = λ v h. to.within v (other v h).1;
  }

-- a value without a set
pub read-none : (xs : List (Option (List ℕ))) (v : ℕ) (d : Option (List ℕ)) (b : Bool) → v < length xs → is_some (get_or xs v d) ≡ not b → b ≡ true → get_or xs v None ≡ None
read-none xs v d b l is flag = by_case (get_or xs v None) (ap is_some (get_or_default xs v None d l) ∙ is ∙ ap not flag)
  where
    by_case : (o : Option (List ℕ)) → is_some o ≡ false → o ≡ None
    by_case None h = refl
    by_case (Some y) h = absurd (true≢false h)

-- a value with one
pub read-some : (xs : List (Option (List ℕ))) (v : ℕ) (d : Option (List ℕ)) (b : Bool) → v < length xs → is_some (get_or xs v d) ≡ not b → b ≡ false → (y : List ℕ) × (get_or xs v None ≡ Some y)
read-some xs v d b l is flag = by_case (get_or xs v None) (ap is_some (get_or_default xs v None d l) ∙ is ∙ ap not flag)
  where
    by_case : (o : Option (List ℕ)) → is_some o ≡ true → (y : List ℕ) × (o ≡ Some y)
    by_case None h = absurd (true≢false (sym h))
    by_case (Some y) h = (y, refl)

-- no set before this place fails
abbrev pub NoneFailsBefore : Framed → List ℕ → List (List ℕ) → ℕ → Type 0
NoneFailsBefore f a sets i = (k : ℕ) → k < i → ¬ (SetFails f a (get_or sets k []))

-- for each value the first set among those before this place that fails with it
pub record FirstsTo (f : Framed) (node : List ℕ) (p : ℕ) (sets : List (List ℕ)) (first : List (Option (List ℕ))) (i : ℕ) : Type 0 where
  pub len : length first ≡ 9
  pub firsts : (v : ℕ) → v < order f.field → MatchOption (get_or first v None) (NoneFailsBefore f (set node p v) sets i) (IsFirstFailingLast f (set node p v) p)

-- before the first set
pub firsts-none : (f : Framed) (node : List ℕ) (p : ℕ) (sets : List (List ℕ)) (first : List (Option (List ℕ))) → length first ≡ 9 → ((v : ℕ) → v < 9 → get_or first v None ≡ None) → FirstsTo f node p sets first 0
firsts-none f node p sets first len none = record {
  len = len;
  firsts = λ v l.
      let small = order-le f.field in
      subst (λ o. MatchOption o (NoneFailsBefore f (set node p v) sets 0) (IsFirstFailingLast f (set node p v) p)) (sym (none v (omega arith))) (λ k kl. absurd (omega arith));
}

-- where none of the listed sets fails, none that is listed does
pub none_listed : (f : Framed) (a : List ℕ) (sets : List (List ℕ)) → NoneFailsBefore f a sets (length sets) → (x : List ℕ) → Contains sets x → ¬ (SetFails f a x)
none_listed f a sets none x inside fails =
    let (k, lt, is) = inside in
    none k lt (subst (SetFails f a) (sym (get_or_default sets k [] x lt ∙ is)) fails)

-- of sets in order none that fails comes before the set at this place, where none before the place fails
pub none_earlier : (f : Framed) (a : List ℕ) (sets : List (List ℕ)) (i : ℕ) → IsStrictlySortedBy list_cmp sets → i < length sets → NoneFailsBefore f a sets i → (y : List ℕ) → Contains sets y → SetFails f a y → ¬ (IsBefore y (get_or sets i []))
none_earlier f a sets i sorted within none y inside other before =
    let (k, lt, is) = inside in
    let at : get_or sets k [] ≡ y = get_or_default sets k [] y lt ∙ is in
    ⊎_elim
    (λ (low : k < i). none k low (subst (SetFails f a) (sym at) other))
    (λ (high : i ≤ k). ⊎_elim
    (λ (same : k ≡ i). not_before_itself nat_list_cmp_total y (subst (IsBefore y) (sym (ap (λ (j : ℕ). get_or sets j []) same) ∙ at) before))
    (λ (differs : k ≢ i). not_both_ways nat_list_cmp_total (get_or sets i []) y
    (later_is_greater list_cmp sets i k (get_or sets i []) y sorted (slice_get-get_or sets i [] within) (slice_get-get_or sets k [] lt ∙ ap Some at) (omega arith)) before)
    (cases_eq k i))
    (cases_lt k i)

module _ (f : Framed) (node : List ℕ) (p : ℕ) (sets : List (List ℕ)) (sorted : IsStrictlySortedBy list_cmp sets)
    (exactly : (x : List ℕ) → Contains sets x ↔ (IsSetOf f.matroid.elements f.matroid.rank x × NeedsLast f x p)) where
  -- where none of the listed sets fails, none does
  none_fails : (a : List ℕ) → NoneFailsBefore f a sets (length sets) → NoneFailsLast f a p
  none_fails a none x needs fails = none_listed f a sets none x ((exactly x).1 (fails.size, needs)) fails

  -- the set at this place is the first
  first_fails : (a : List ℕ) (i : ℕ) → i < length sets → NoneFailsBefore f a sets i → SetFails f a (get_or sets i []) → IsFirstFailingLast f a p (get_or sets i [])
  first_fails a i within none fails = record {
    needs = ((exactly (get_or sets i [])).0 (Contains-get_or sets i [] within)).1;
    fails = fails;
    least = λ y needs other. none_earlier f a sets i sorted within none y ((exactly y).1 (other.size, needs)) other;
  }

  -- one set more
  pub firsts-more : (first now : List (Option (List ℕ))) (values x : List ℕ) (i : ℕ) → FirstsTo f node p sets first i → i < length sets → x ≡ get_or sets i [] → length now ≡ length first →
      ((v : ℕ) → Contains values v ↔ SetFails f (set node p v) x) →
      ((v : ℕ) → v < 9 → get_or now v None ≡ first_of (get_or first v None) (is_element values v) x) → FirstsTo f node p sets now (i + 1)
  firsts-more first now values x i to within is size fails marked = record {
    len = size ∙ to.len;
    firsts = λ v l.
        let small = order-le f.field in
        subst (λ o. MatchOption o (NoneFailsBefore f (set node p v) sets (i + 1)) (IsFirstFailingLast f (set node p v) p)) (sym (marked v (omega arith)))
        (by_case v (get_or first v None) (to.firsts v l) (is_element values v) refl);
  }
    where
      first_at : (v : ℕ) → NoneFailsBefore f (set node p v) sets i → SetFails f (set node p v) x → IsFirstFailingLast f (set node p v) p x
      first_at v none fails_here = subst (IsFirstFailingLast f (set node p v) p) (sym is)
          (first_fails (set node p v) i within none (subst (SetFails f (set node p v)) is fails_here))

      by_case : (v : ℕ) (o : Option (List ℕ)) → MatchOption o (NoneFailsBefore f (set node p v) sets i) (IsFirstFailingLast f (set node p v) p) → (b : Bool) → is_element values v ≡ b →
          MatchOption (first_of o b x) (NoneFailsBefore f (set node p v) sets (i + 1)) (IsFirstFailingLast f (set node p v) p)
      by_case v (Some y) had b e = had
      by_case v None none true e = first_at v none ((fails v).0 (Contains-from_element values v e))
      by_case v None none false e = λ k kl. ⊎_elim
          (λ (s : k ≡ i). λ failing. both_ways (is_element values v) e (is_element-from_Contains values v ((fails v).1 (subst (SetFails f (set node p v)) (sym (is ∙ ap (λ (j : ℕ). get_or sets j []) (sym s))) failing))))
          (λ (o : k ≢ i). none k (omega arith))
          (cases_eq k i)

  -- all sets
  pub firsts-all : (first : List (Option (List ℕ))) (i : ℕ) → length sets ≤ i → FirstsTo f node p sets first i → (v : ℕ) → v < order f.field → MatchOption (get_or first v None) (NoneFailsLast f (set node p v) p) (IsFirstFailingLast f (set node p v) p)
  firsts-all first i all to v l = by_case (get_or first v None) (to.firsts v l)
    where
      by_case : (o : Option (List ℕ)) → MatchOption o (NoneFailsBefore f (set node p v) sets i) (IsFirstFailingLast f (set node p v) p) → MatchOption o (NoneFailsLast f (set node p v) p) (IsFirstFailingLast f (set node p v) p)
      by_case (Some y) h = h
      by_case None none = none_fails (set node p v) (λ k kl. none k (omega arith))

-- a set that needs p last needs no other without a value
pub others_filled : (f : Framed) (node : List ℕ) (p : ℕ) → ((q : ℕ) → q < p → get_or node q 0 ≢ 0) → (x : List ℕ) → NeedsLast f x p → (q : ℕ) → Needs f x q → q ≢ p → get_or node q 0 ≢ 0
others_filled f node p earlier x last q needs other = earlier q (let le = last.last q needs in omega arith)

-- no value has a set at the start
pub no_set : (n v : ℕ) → get_or (replicate {A = Option (List ℕ)} n None) v None ≡ None
no_set zero v = refl
no_set (suc n) zero = refl
no_set (suc n) (suc v) = no_set n v

-- each value that is not open has a set
abbrev pub AllButOpen : ℕ → List ℕ → List (Option (List ℕ)) → Type 0
AllButOpen q open_values first = (v : ℕ) → 0 < v → v < q → is_element open_values v ≡ false → (y : List ℕ) × (get_or first v None ≡ Some y)

-- at the start each is open
pub open-all : (q : ℕ) (open_values : List ℕ) (first : List (Option (List ℕ))) → open_values ≡ without_element 0 (numbers_below q) → AllButOpen q open_values first
open-all q open_values first are v low high out = absurd (both_ways (is_element open_values v) out ((all_but_zero q v open_values are).1 (low, high)))

-- those for which a set fails are open no more
pub open-less : (q : ℕ) (open_values less values x : List ℕ) (first now : List (Option (List ℕ))) → q < 10 → AllButOpen q open_values first → less ≡ minus open_values values →
    ((v : ℕ) → v < 9 → get_or now v None ≡ first_of (get_or first v None) (is_element values v) x) → AllButOpen q less now
open-less q open_values less values x first now few all is marked v low high out =
    by_case (is_element values v) refl
  where
    -- the set that a value has
    kept : (o : Option (List ℕ)) (b : Bool) → (y : List ℕ) × (o ≡ Some y) → (y : List ℕ) × (first_of o b x ≡ Some y)
    kept o b (y, some) = (y, ap (λ (p : Option (List ℕ)). first_of p b x) some)

    -- or gets
    given : (o : Option (List ℕ)) → (y : List ℕ) × (first_of o true x ≡ Some y)
    given None = (x, refl)
    given (Some y) = (y, refl)

    by_case : (b : Bool) → is_element values v ≡ b → (y : List ℕ) × (get_or now v None ≡ Some y)
    by_case true e =
        let (y, some) = given (get_or first v None) in
        (y, marked v (omega arith) ∙ ap (λ (b : Bool). first_of (get_or first v None) b x) e ∙ some)
    by_case false e =
        let was : is_element open_values v ≡ false = sym (ap (λ (ys : List ℕ). is_element ys v) is ∙ in_minus open_values values v ∙ rw e refl) ∙ out in
        let (y, some) = kept (get_or first v None) false (all v low high was) in
        (y, marked v (omega arith) ∙ ap (λ (b : Bool). first_of (get_or first v None) b x) e ∙ some)

-- where none is open each value has its first set, and with 0 no set fails
pub firsts-early : (f : Framed) (node : List ℕ) (p : ℕ) (sets : List (List ℕ)) (first : List (Option (List ℕ))) (i : ℕ) (open_values : List ℕ) → p < length node → open_values ≡ [] →
    FirstsTo f node p sets first i → AllButOpen (order f.field) open_values first → (v : ℕ) → v < order f.field →
    MatchOption (get_or first v None) (NoneFailsLast f (set node p v) p) (IsFirstFailingLast f (set node p v) p)
firsts-early f node p sets first i open_values within none to all v l =
    ⊎_elim
    (λ (z : v ≡ 0). subst (λ (k : ℕ). MatchOption (get_or first k None) (NoneFailsLast f (set node p k) p) (IsFirstFailingLast f (set node p k) p)) (sym z)
    (without (get_or first 0 None) (subst (λ (k : ℕ). MatchOption (get_or first k None) (NoneFailsBefore f (set node p k) sets i) (IsFirstFailingLast f (set node p k) p)) z (to.firsts v l))))
    (λ (n : v ≢ 0).
    let (y, some) = all v (omega arith) l (rw none refl) in
    subst (λ (o : Option (List ℕ)). MatchOption o (NoneFailsLast f (set node p v) p) (IsFirstFailingLast f (set node p v) p)) (sym some)
    (subst (λ (o : Option (List ℕ)). MatchOption o (NoneFailsBefore f (set node p v) sets i) (IsFirstFailingLast f (set node p v) p)) some (to.firsts v l)))
    (cases_eq v 0)
  where
    without : (o : Option (List ℕ)) → MatchOption o (NoneFailsBefore f (set node p 0) sets i) (IsFirstFailingLast f (set node p 0) p) → MatchOption o (NoneFailsLast f (set node p 0) p) (IsFirstFailingLast f (set node p 0) p)
    without (Some y) h = h
    without None h = λ x needs fails. fails.decided p needs.needs (get_or-set_same node p 0 0 within)
