-- The blocks that are listed of forms and of orbits.
use Rattle.std.specs.Prelude.{◌≡◌, ℕ, List, ◌++◌, flat_map, map}
use Rattle.std.specs.List.{AllZip}
use Rattle.mr_linear.specs.Matrix.{Grid}
use Rattle.mr_text.specs.Text.{text_of_lines}
use Rattle.mr_frame.specs.Frame.{Framed}
use Rattle.mr_frame.specs.Test.{IsFilledBy}
use Rattle.mr_matrix.specs.Block.{block_lines, block_text}
use Rattle.mr_auto.specs.declared.orbit.Orbit.{Orbit}
use Rattle.mr_auto.specs.Orbits.{leasts}
use Rattle.matrep.specs.Texts.{orbit_lines}

-- the block of the matrix of an assignment was appended
pub record AppendsBlock (f : Framed) (form old new : List ℕ) : Type 0 where
  pub matrix : Grid
  pub filled : IsFilledBy f form matrix
  pub text : new ≡ old ++ block_text matrix

-- the blocks of the matrices of assignments were appended, in order
pub record AppendsBlocks (f : Framed) (forms : List (List ℕ)) (old new : List ℕ) : Type 0 where
  pub matrices : List Grid
  pub filled : AllZip (IsFilledBy f) forms matrices
  pub text : new ≡ old ++ text_of_lines (flat_map block_lines matrices)

-- the lines of orbits were appended, in order
pub record AppendsOrbits (f : Framed) (orbits : List Orbit) (old new : List ℕ) : Type 0 where
  pub matrices : List Grid
  pub filled : AllZip (IsFilledBy f) (leasts orbits) matrices
  pub text : new ≡ old ++ text_of_lines (orbit_lines matrices (map (λ o. o.size) orbits))
