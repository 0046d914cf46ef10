-- Matrices with ones on the first forest, and the form of a representation.
use Rattle.std.specs.Prelude.{◌≡◌, ℕ, List}
use Rattle.mr_linear.specs.Matrix.{Grid, entry}
use Rattle.mr_linear.specs.Operations.{AreEquivalent}
use Rattle.mr_graph.specs.declared.edge.Edge.{Edge}
use Rattle.mr_graph.specs.Forest.{HasEdge}
use Rattle.mr_assign.specs.Assign.{no_values}
use Rattle.mr_frame.specs.Frame.{Framed}
use Rattle.mr_frame.specs.Test.{IsFilledBy}
use Rattle.mr_frame.specs.Completion.{IsCompletion}

-- the entries on the forest are 1
abbrev pub HasOnes : List Edge → Grid → Type 0
HasOnes forest a = (i e : ℕ) → HasEdge forest i e → entry a i e ≡ 1

-- a full assignment under which no set fails
abbrev pub IsForm : Framed → List ℕ → Type 0
IsForm f c = IsCompletion f no_values c

-- the assignment c is a form whose matrix is equivalent to a
pub record IsFormOf (f : Framed) (c : List ℕ) (a : Grid) : Type 0 where
  pub is_form : IsForm f c
  pub matrix : Grid
  pub filled : IsFilledBy f c matrix
  pub equivalent : AreEquivalent a matrix
