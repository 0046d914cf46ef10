-- What is due of numbers and sets that may be a matroid.
use Rattle.std.specs.Prelude.{◌≡◌, ◌≢◌, ◌↔◌, ℕ, List, Result, Err, Contains}
use Rattle.mr_set.specs.Matroid.{Presentation, IsBasis, FailsExchange}
use Rattle.mr_matroid.specs.Exchange.{IsFirstFailure}
use Rattle.mr_matroid.specs.Answers.{IsMatroidVerdict}
use Rattle.mr_matroid.specs.Table.{AreFits, AreApart}
use Rattle.mr_matroid.specs.declared.fault.MatroidFault.{MatroidFault}
use Rattle.mr_matroid.specs.declared.fault.MatroidFault.TheVariants.{Memory}

-- one exchange is the first that fails
abbrev pub OneFirstFailure : Type 0
OneFirstFailure = (m : Presentation) (b1 b2 c1 c2 : List ℕ) (x y : ℕ) → IsFirstFailure m b1 b2 x → IsFirstFailure m c1 c2 y → (b1 ≡ c1) × (b2 ≡ c2) × (x ≡ y)

-- a matroid, no basis or a failing exchange: one answer is due, unless memory runs out
abbrev pub OneMatroidVerdict : Type 0
OneMatroidVerdict = (m : Presentation) (a b : Result Presentation MatroidFault) → a ≢ Err Memory → b ≢ Err Memory → IsMatroidVerdict m a → IsMatroidVerdict m b → a ≡ b

-- the exchange of x between two bases fails exactly where the second has none of the elements that fit
abbrev pub ExchangeFailsWhereNothingFits : Type 0
ExchangeFailsWhereNothingFits = (m : Presentation) (b1 b2 : List ℕ) (x : ℕ) (f : List ℕ) → IsBasis m b1 → IsBasis m b2 → Contains b1 x → ¬ (Contains b2 x) → AreFits m b1 x f → FailsExchange m b1 b2 x ↔ AreApart f b2
