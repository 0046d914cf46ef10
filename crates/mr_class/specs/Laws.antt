-- What holds of every class of representations.
use Rattle.std.specs.Prelude.{◌≡◌, ◌↔◌, ℕ, List, [], Contains}
use Rattle.mr_field.specs.Gf.{Gf}
use Rattle.mr_set.specs.Subsets.{list_cmp}
use Rattle.mr_set.specs.Matroid.{Presentation, IsMatroid}
use Rattle.mr_matroid.specs.Exchange.{IsWithinLimits}
use Rattle.mr_linear.specs.Matrix.{Grid, grid_cmp}
use Rattle.mr_linear.specs.Operations.{AreEquivalent}
use Rattle.mr_linear.specs.Representation.{Represents, IsStandard, IsChosen, IsMember, IsAnswer, HasNoRepresentation}
use Rattle.mr_frame.specs.Frame.{Framed, IsFrame, IsFrameOf}
use Rattle.mr_frame.specs.Test.{IsFilledBy}
use Rattle.mr_class.specs.Forms.{HasOnes, IsForm, IsFormOf}

-- one form of a, and no other
pub record HasOneForm (f : Framed) (a : Grid) : Type 0 where
  pub form : List ℕ
  pub is : IsFormOf f form a
  pub only : (c : List ℕ) → IsFormOf f c a → c ≡ form

-- every representation has one form (Oxley, Theorem 6.4.7)
abbrev pub EachRepresentationHasOneForm : Type 0
EachRepresentationHasOneForm = (f : Framed) (a : Grid) → IsFrame f → a.field ≡ f.field → Represents a f.matroid → HasOneForm f a

-- the matrix of a form is a member of the answer, the least standard matrix of its class
abbrev pub FormsAreMembers : Type 0
FormsAreMembers = (f : Framed) (c : List ℕ) (g : Grid) → IsFrame f → IsForm f c → IsFilledBy f c g → IsMember f.matroid f.field g

-- a form whose matrix is g, and no other
pub record HasOneSource (f : Framed) (g : Grid) : Type 0 where
  pub form : List ℕ
  pub is : IsForm f form
  pub filled : IsFilledBy f form g
  pub only : (c : List ℕ) → IsForm f c → IsFilledBy f c g → c ≡ form

-- each member of the answer is the matrix of just one form
abbrev pub MembersComeFromOneForm : Type 0
MembersComeFromOneForm = (f : Framed) (g : Grid) → IsFrame f → IsMember f.matroid f.field g → HasOneSource f g

-- forms are in the order of their matrices
abbrev pub FormsAreInOrder : Type 0
FormsAreInOrder = (f : Framed) (c d : List ℕ) (g h : Grid) → IsFrame f → IsForm f c → IsForm f d → IsFilledBy f c g → IsFilledBy f d h → list_cmp c d ≡ grid_cmp g h

-- one chosen matrix is equivalent to a, and no other
pub record HasOneChosen (m : Presentation) (a : Grid) : Type 0 where
  pub chosen : Grid
  pub equivalent : AreEquivalent a chosen
  pub is : IsChosen m chosen
  pub represents : Represents chosen m
  pub only : (b : Grid) → AreEquivalent a b → IsChosen m b → b ≡ chosen

-- every representation is equivalent to exactly one chosen matrix
abbrev pub EachClassHasOneChosen : Type 0
EachClassHasOneChosen = (m : Presentation) (a : Grid) → IsMatroid m → Represents a m → HasOneChosen m a

-- a standard representation is the chosen one of its class exactly where it has ones on the first forest
abbrev pub ChosenMatricesHaveOnes : Type 0
ChosenMatricesHaveOnes = (f : Framed) (a : Grid) → IsFrame f → Represents a f.matroid → IsStandard f.matroid a → IsChosen f.matroid a ↔ HasOnes f.forest a

-- one matrix of the answer is equivalent to a, and no other
pub record HasOneInAnswer (answer : List Grid) (a : Grid) : Type 0 where
  pub member : Grid
  pub among : Contains answer member
  pub equivalent : AreEquivalent a member
  pub only : (b : Grid) → Contains answer b → AreEquivalent a b → b ≡ member

-- each representation over the field is equivalent to exactly one matrix of the answer
abbrev pub AnswersHaveOneOfEachClass : Type 0
AnswersHaveOneOfEachClass = (m : Presentation) (field : Gf) (answer : List Grid) (a : Grid) → IsMatroid m → IsAnswer m field answer → a.field ≡ field → Represents a m → HasOneInAnswer answer a

-- the answer is empty exactly where no matrix represents the matroid
abbrev pub EmptyAnswersMeanNoRepresentation : Type 0
EmptyAnswersMeanNoRepresentation = (m : Presentation) (field : Gf) → IsMatroid m → IsAnswer m field [] ↔ HasNoRepresentation m field

-- a matroid has an answer over each field
abbrev pub MatroidsHaveAnswers : Type 0
MatroidsHaveAnswers = (m : Presentation) (field : Gf) → IsMatroid m → (answer : List Grid) × IsAnswer m field answer

-- a matroid within the limits has a frame over each field
abbrev pub MatroidsHaveFrames : Type 0
MatroidsHaveFrames = (m : Presentation) (field : Gf) → IsMatroid m → IsWithinLimits m → (f : Framed) × IsFrameOf m field f
