-- What fits in the place of an element, and which exchanges fail.
use Rattle.std.proofs.Common.{◌≡◌, ◌↔◌, ℕ, ◌+◌, List, [], length, Option, Some, None, refl, sym, subst, ◌∙◌, inl, inr, arith}
use Rattle.std.specs.Prelude.{◌<◌, Contains, MatchOption, nat_eq}
use Rattle.std.proofs.lemmas.Bool.{cases_lt, or_cases}
use Rattle.mr_set.proofs.Members.{same_numbers, is_element-with, is_element-from_Contains, Contains-from_element}
use Rattle.mr_set.proofs.Tests.{IsSet-more, IsSet-with, IsSet-numbers_below}
use Rattle.mr_set.specs.Elements.{IsSet, is_element, with_element, without_element}
use Rattle.mr_set.specs.Subsets.{IsBefore}
use Rattle.mr_set.specs.Matroid.{Presentation, IsBasis, FailsExchange}
use Rattle.mr_matroid.specs.Table.{IsFit, AreFits, AreApart, IsFirstMissing}
use Rattle.mr_matroid.specs.Private.Search.{NoneFrom, NoneAt, IsFirstFrom}
use Rattle.mr_matroid.specs.Laws.{ExchangeFailsWhereNothingFits}
use Rattle.mr_matroid.proofs.Failures.{element_small}
use Rattle.mr_matroid.proofs.Exchanged.{in_rest, from_rest, in_with_new, in_with_old, rest_set, absent, exchanged_set, put_back, taken_out, with_before, apart_sizes}

-- what fits makes a basis
pub basis_from_fit : (m : Presentation) (b : List ℕ) (x y : ℕ) → IsBasis m b → Contains b x → IsFit m b x y → IsBasis m (with_element y (without_element x b))
basis_from_fit m b x y basis inside fit = (exchanged_set m.elements m.rank x y b basis.0 inside fit.0 fit.1, fit.2)

-- in a basis each element fits in its own place
pub fits_itself : (m : Presentation) (b : List ℕ) (x : ℕ) → IsBasis m b → Contains b x → IsFit m b x x
fits_itself m b x basis inside = (
  element_small m.elements b x basis.0.set inside,
  λ there. (from_rest x x b there).1 refl,
  λ listed. basis.1 (subst (Contains m.nonbases) (put_back m.elements x b basis.0.set inside) listed),
)

-- where the exchange fails the second basis has nothing that fits
pub apart_from_failure : (m : Presentation) (b1 b2 : List ℕ) (x : ℕ) (f : List ℕ) → AreFits m b1 x f → FailsExchange m b1 b2 x → AreApart b2 f
apart_from_failure m b1 b2 x f fits fails e there fit =
    let is = (fits.exactly e).0 fit in
    fails.none e there (λ here. is.1 (in_rest x e b1 here (λ same. fails.outside (subst (Contains b2) same there)))) (basis_from_fit m b1 x e fails.first fails.inside is)

-- where it has nothing that fits the exchange fails
pub failure_from_apart : (m : Presentation) (b1 b2 : List ℕ) (x : ℕ) (f : List ℕ) → IsBasis m b1 → IsBasis m b2 → Contains b1 x → AreFits m b1 x f → AreApart b2 f → FailsExchange m b1 b2 x
failure_from_apart m b1 b2 x f first second inside fits apart = record {
  first = first;
  second = second;
  inside = inside;
  outside = λ there. apart x there ((fits.exactly x).1 (fits_itself m b1 x first inside));
  none = λ y there away basis. apart y there ((fits.exactly y).1 (element_small m.elements b2 y second.0.set there, λ rest. away (from_rest x y b1 rest).0, basis.1));
}

-- the law
pub exchange_fails_where_nothing_fits : ExchangeFailsWhereNothingFits
exchange_fails_where_nothing_fits m b1 b2 x f first second inside outside fits = (
  λ fails e fit there. apart_from_failure m b1 b2 x f fits fails e there fit,
  λ apart. failure_from_apart m b1 b2 x f first second inside fits (λ e there fit. apart e fit there),
)

-- where a smaller element fits, no exchange fails unless one fails from an earlier basis
pub none_from_earlier : (m : Presentation) (b1 : List ℕ) (x y : ℕ) → IsBasis m b1 → Contains b1 x → y < x → IsFit m b1 x y → ((z : List ℕ) → IsBefore z b1 → NoneFrom m z) → NoneAt m b1 x
none_from_earlier m b1 x y first inside less fit before c fails =
    before (with_element y (without_element x b1)) earlier c y (record {
      first = basis_from_fit m b1 x y first inside fit;
      second = fails.second;
      inside = in_with_new y (without_element x b1);
      outside = λ there. fails.none y there (λ here. fit.1 (in_rest x y b1 here (omega arith))) (basis_from_fit m b1 x y first inside fit);
      none = λ z there away basis. fails.none z there
          (λ here. away (in_with_old y z (without_element x b1) (in_rest x z b1 here (λ same. fails.outside (subst (Contains c) same there)))))
          (subst (λ w. IsBasis m (with_element z w)) (taken_out m.elements y (without_element x b1) (rest_set m.elements x b1 first.0.set) fit.1) basis);
    })
  where
    earlier : IsBefore (with_element y (without_element x b1)) b1
    earlier = subst (IsBefore (with_element y (without_element x b1))) (put_back m.elements x b1 first.0.set inside)
        (with_before y x (without_element x b1) less (absent y (without_element x b1) fit.1))

-- with too few elements left no exchange fails
pub none_from_few : (m : Presentation) (b1 : List ℕ) (x : ℕ) (f : List ℕ) → AreFits m b1 x f → m.elements < length f + m.rank → NoneAt m b1 x
none_from_few m b1 x f fits few c fails =
    let sizes = apart_sizes m.elements c f fails.second.0.set fits.set (apart_from_failure m b1 c x f fits fails) in
    let size = fails.second.0.size in
    omega arith

-- the first basis without a fit is the first with which the exchange fails
pub first_at_missing : (m : Presentation) (b1 : List ℕ) (x : ℕ) (f : List ℕ) (found : Option (List ℕ)) → IsBasis m b1 → Contains b1 x → AreFits m b1 x f → MatchOption found ((b : List ℕ) → IsBasis m b → ¬ (AreApart b f)) (IsFirstMissing m f) → MatchOption found (NoneAt m b1 x) (IsFirstFrom m b1 x)
first_at_missing m b1 x f None first inside fits none = λ c fails. none c fails.second (apart_from_failure m b1 c x f fits fails)
first_at_missing m b1 x f (Some b2) first inside fits found = record {
  fails = failure_from_apart m b1 b2 x f first found.basis inside fits found.apart;
  least = λ c fails. found.least c fails.second (apart_from_failure m b1 c x f fits fails);
}

-- the elements below k that fit
pub record AreFitsBelow (m : Presentation) (b : List ℕ) (x k : ℕ) (f : List ℕ) : Type 0 where
  pub set : IsSet m.elements f
  pub exactly : (e : ℕ) → Contains f e ↔ ((e < k) × IsFit m b x e)

-- below 0 there are none
pub fits_none : (m : Presentation) (b : List ℕ) (x : ℕ) → AreFitsBelow m b x 0 []
fits_none m b x = record {
  set = IsSet-more 0 m.elements [] (omega arith) (IsSet-numbers_below 0);
  exactly = λ e. (λ inside. absurd (let lt = inside.1 in omega arith), λ fit. absurd (let lt = fit.0 in omega arith));
}

-- one element more that fits
pub fits_more : (m : Presentation) (b : List ℕ) (x k : ℕ) (f : List ℕ) → IsFit m b x k → AreFitsBelow m b x k f → AreFitsBelow m b x (k + 1) (with_element k f)
fits_more m b x k f fit are = record {
  set = IsSet-with m.elements k f fit.0 are.set;
  exactly = λ e. (
    λ inside. elim (or_cases (nat_eq e k) (is_element f e) (sym (is_element-with k e f) ∙ is_element-from_Contains (with_element k f) e inside)) [
      | inl same ↦ let equal : e ≡ k = same_numbers e k same in (omega arith, subst (IsFit m b x) (sym equal) fit)
      | inr old ↦ let h = (are.exactly e).0 (Contains-from_element f e old) in let lt = h.0 in (omega arith, h.1)
    ],
    λ is. elim (cases_lt e k) [
      | inl less ↦ in_with_old k e f ((are.exactly e).1 (less, is.1))
      | inr le ↦ let equal : k ≡ e = (let lt = is.0 in omega arith) in subst (Contains (with_element k f)) equal (in_with_new k f)
    ],
  );
}

-- one element more that doesn't
pub fits_kept : (m : Presentation) (b : List ℕ) (x k : ℕ) (f : List ℕ) → ¬ (IsFit m b x k) → AreFitsBelow m b x k f → AreFitsBelow m b x (k + 1) f
fits_kept m b x k f none are = record {
  set = are.set;
  exactly = λ e. (
    λ inside. let h = (are.exactly e).0 inside in let lt = h.0 in (omega arith, h.1),
    λ is. elim (cases_lt e k) [
      | inl less ↦ (are.exactly e).1 (less, is.1)
      | inr le ↦ let equal : e ≡ k = (let lt = is.0 in omega arith) in absurd (none (subst (IsFit m b x) equal is.1))
    ],
  );
}

-- below the number of elements they are all
pub fits_all : (m : Presentation) (b : List ℕ) (x : ℕ) (f : List ℕ) → AreFitsBelow m b x m.elements f → AreFits m b x f
fits_all m b x f are = record { set = are.set; exactly = λ e. (λ inside. ((are.exactly e).0 inside).1, λ is. (are.exactly e).1 (is.0, is)) }
