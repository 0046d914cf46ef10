-- What holds of matrices and matroids.
use Rattle.std.specs.Prelude.{◌≡◌, ◌≢◌, ℕ, List}
use Rattle.mr_field.specs.Gf.{Gf}
use Rattle.mr_set.specs.Subsets.{IsSetOf}
use Rattle.mr_set.specs.Matroid.{Presentation, IsMatroid}
use Rattle.mr_linear.specs.Matrix.{Grid, IsGrid, height, IsColumnRank}
use Rattle.mr_linear.specs.Representation.{FitsMatroid, Represents}
use Rattle.mr_file.specs.declared.fault.FileFault.{FileFault}
use Rattle.mr_file.specs.declared.fault.FileFault.TheVariants as file_fault
use Rattle.mr_matrix.specs.Block.{IsBlockOf}
use Rattle.mr_matrix.specs.Difference.{DiffersAt}
use Rattle.mr_matrix.specs.Confirmation.{IsConfirmation}
use Rattle.mr_matrix.specs.Plane.{IsPlane}
use Rattle.mr_matrix.specs.Represented.{IsMatroidOf}
use Rattle.mr_matrix.specs.Reading.{IsMatrixRefusal}
use Rattle.mr_matrix.specs.Pairs.{IsPairOf, IsPairRefusal}
use Rattle.mr_matrix.specs.declared.answer.Confirm.{Confirm}
use Rattle.mr_matrix.specs.declared.pair.Pair.{Pair}
use Rattle.mr_matrix.specs.declared.fault.MatrixFault.{MatrixFault}
use Rattle.mr_matrix.specs.declared.fault.MatrixFault.TheVariants.{Memory}

-- a matrix that differs from a matroid at no set of the rank's size represents it
abbrev pub NoDifferenceIsEnough : Type 0
NoDifferenceIsEnough = (m : Presentation) (a : Grid) → IsMatroid m → FitsMatroid m a → ((x : List ℕ) → IsSetOf m.elements m.rank x → ¬ (DiffersAt m a x)) → Represents a m

-- a matrix that represents a matroid differs from it at no such set
abbrev pub RepresentationsDoNotDiffer : Type 0
RepresentationsDoNotDiffer = (m : Presentation) (a : Grid) (x : List ℕ) → Represents a m → IsSetOf m.elements m.rank x → ¬ (DiffersAt m a x)

-- a matrix represents its matroid
abbrev pub MatricesRepresentTheirMatroids : Type 0
MatricesRepresentTheirMatroids = (a : Grid) (m : Presentation) → IsGrid a → IsMatroidOf a m → Represents a m

-- a matrix whose rank is its number of rows has a matroid
abbrev pub MatricesHaveMatroids : Type 0
MatricesHaveMatroids = (a : Grid) → IsGrid a → IsColumnRank a (height a) → (m : Presentation) × IsMatroidOf a m

-- and one alone
abbrev pub OneMatroid : Type 0
OneMatroid = (a : Grid) (m k : Presentation) → IsMatroidOf a m → IsMatroidOf a k → m ≡ k

-- a matrix represents a matroid or differs from it first at one set
abbrev pub OneConfirmation : Type 0
OneConfirmation = (m : Presentation) (a : Grid) (c e : Confirm) → IsConfirmation m a c → IsConfirmation m a e → c ≡ e

-- a field has one plane
abbrev pub OnePlane : Type 0
OnePlane = (f : Gf) (a b : Grid) → IsPlane f a → IsPlane f b → a ≡ b

-- the rank of a plane's matrix is its number of rows
abbrev pub PlanesHaveFullRank : Type 0
PlanesHaveFullRank = (f : Gf) (a : Grid) → IsPlane f a → IsColumnRank a (height a)

-- a text is the block of one matrix
abbrev pub OneBlock : Type 0
OneBlock = (f : Gf) (bytes : List ℕ) (a b : Grid) → IsBlockOf f bytes a → IsBlockOf f bytes b → a ≡ b

-- a text is refused for one cause
abbrev pub OneMatrixRefusal : Type 0
OneMatrixRefusal = (f : Gf) (bytes : List ℕ) (e g : MatrixFault) → e ≢ Memory → g ≢ Memory → IsMatrixRefusal f bytes e → IsMatrixRefusal f bytes g → e ≡ g

-- a block has no fault
abbrev pub BlocksAreNotRefused : Type 0
BlocksAreNotRefused = (f : Gf) (bytes : List ℕ) (a : Grid) (e : MatrixFault) → IsBlockOf f bytes a → IsMatrixRefusal f bytes e → e ≡ Memory

-- a text is that of one pair
abbrev pub OnePair : Type 0
OnePair = (f : Gf) (bytes : List ℕ) (p q : Pair) → IsPairOf f bytes p → IsPairOf f bytes q → p ≡ q

-- the text of a pair has no fault
abbrev pub PairsAreNotRefused : Type 0
PairsAreNotRefused = (f : Gf) (bytes : List ℕ) (p : Pair) (e : FileFault) → IsPairOf f bytes p → IsPairRefusal f bytes e → e ≡ file_fault.Memory
