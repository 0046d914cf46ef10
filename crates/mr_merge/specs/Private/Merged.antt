-- What is merged of the answers of all cubes: words of private contracts and of the proofs.
use Rattle.std.specs.Prelude.{◌≡◌, ◌≤◌, ℕ, List, All, length}
use Rattle.mr_assign.specs.declared.TheConstants.{VALUES}
use Rattle.mr_nogood.specs.declared.row.Row.{Row}

-- there are no more than n steps, and each has as many cites as a row has
pub record AreStored (n : ℕ) (steps : List Row) : Type 0 where
  pub few : length steps ≤ n
  pub cites : All (λ row. length row.cites ≡ VALUES) steps
