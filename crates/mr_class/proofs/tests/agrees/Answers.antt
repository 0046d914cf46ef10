-- the two answers are equal
use Rattle.std.proofs.Common.{◌≡◌, ◌↔◌, ℕ, List, Bool, true, false, refl}
use Rattle.std.specs.Prelude.{IsTrue, MatchBool}
use mathlib.Core.Bool.{beq}
use Rattle.mr_set.specs.Subsets.{IsSetOf}
use Rattle.mr_set.specs.Matroid.{Presentation, IsBasis, IsIndependent}
use Rattle.mr_linear.specs.Matrix.{Grid, AreDependent, AreIndependent}
use Rattle.mr_linear.proofs.LawsOfMatrices.{basis-independent, basis-from_independent}
use Rattle.mr_class.proofs.tests.agrees.Goals as goal

agree : (m : Presentation) (a : Grid) (x : List ℕ) → IsSetOf m.elements m.rank x → (p q : Bool) → MatchBool p (AreIndependent a x) (AreDependent a x) → IsTrue q ↔ IsBasis m x → p ≡ q → AreIndependent a x ↔ IsIndependent m x
agree m a x set true true is basis same = ((λ _. basis-independent m x (basis.0 refl)), (λ _. is))
agree m a x set true false is basis same = absurd cc
agree m a x set false true is basis same = absurd cc
agree m a x set false false is basis same = (
  (λ independent. absurd (independent is)),
  (λ independent. absurd (let yes = basis.1 (basis-from_independent m x set independent) in cc)),
)

-- an answer that two tests are equal
equal_tests : (p q : Bool) → beq p q ≡ true → p ≡ q
equal_tests true true is = refl
equal_tests true false is = cc
equal_tests false true is = cc
equal_tests false false is = refl

pub returns : goal.returns
returns c = λ yes. agree c.args.m.now c.args.a.now c.args.x c.requires.set c.independent.result c.is_basis.result c.independent.ensures c.is_basis.ensures (equal_tests c.independent.result c.is_basis.result yes)
