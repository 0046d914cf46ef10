-- Which sets of one size are listed, and what the others offer to an exchange.
use Rattle.std.specs.Prelude.{◌↔◌, ℕ, ◌<◌, List, Contains}
use Rattle.mr_set.specs.Elements.{IsSet, with_element, without_element}
use Rattle.mr_set.specs.Subsets.{IsBefore}
use Rattle.mr_set.specs.Matroid.{Presentation, IsBasis}

-- y is outside b without x, and with it makes a set that isn't listed
abbrev pub IsFit : Presentation → List ℕ → ℕ → ℕ → Type 0
IsFit m b x y = (y < m.elements) × (¬ (Contains (without_element x b) y)) × ¬ (Contains m.nonbases (with_element y (without_element x b)))

-- the set of the elements that fit
pub record AreFits (m : Presentation) (b : List ℕ) (x : ℕ) (f : List ℕ) : Type 0 where
  pub set : IsSet m.elements f
  pub exactly : (y : ℕ) → Contains f y ↔ IsFit m b x y

-- the sets have no common element
abbrev pub AreApart : List ℕ → List ℕ → Type 0
AreApart x y = (e : ℕ) → Contains x e → ¬ (Contains y e)

-- b is the first basis that has no element of f
pub record IsFirstMissing (m : Presentation) (f b : List ℕ) : Type 0 where
  pub basis : IsBasis m b
  pub apart : AreApart b f
  pub least : (c : List ℕ) → IsBasis m c → AreApart c f → ¬ (IsBefore c b)
