-- Matrices in a list of bytes whose rows stand at multiples of a stride: words of private contracts and of the proofs.
use Rattle.std.specs.Prelude.{ℕ, ◌*◌, ◌≤◌, ◌≡◌, List, length}
use Rattle.mr_field.specs.Gf.{Gf}
use Rattle.mr_set.specs.declared.TheConstants.{ELEMENTS}
use Rattle.mr_linear.specs.declared.elimination.TheConstants.{STRIDE}
use Rattle.mr_linear.specs.Stored.{InField}

-- r rows of n elements, in at most ELEMENTS rows and columns
pub record IsStored (f : Gf) (r n : ℕ) (w : List ℕ) : Type 0 where
  pub wide : n ≤ ELEMENTS
  pub flat : r ≤ n
  pub room : length w ≡ r * STRIDE
  pub elements : InField f w
