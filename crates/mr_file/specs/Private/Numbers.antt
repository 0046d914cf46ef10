-- The elements on a set line.
use Rattle.std.specs.Prelude.{◌≡◌, ℕ, ◌≤◌, List, All}
use Rattle.mr_set.specs.Subsets.{IsSetOf}
use Rattle.mr_text.specs.Text.{numbers_text, set_text}

-- a set of so many elements from low on and below n, and its numbers with spaces between them
pub record AreNumbersFrom (low n count : ℕ) (line x : List ℕ) : Type 0 where
  pub set : IsSetOf n count x
  pub from : All (λ e. low ≤ e) x
  pub text : line ≡ numbers_text x

-- the line is the set of r of n elements
pub record SpellsSet (n r : ℕ) (line x : List ℕ) : Type 0 where
  pub set : IsSetOf n r x
  pub text : line ≡ set_text x
