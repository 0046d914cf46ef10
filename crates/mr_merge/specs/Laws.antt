-- What the list of all forms shows of the matroid.
use Rattle.std.specs.Prelude.{ℕ, List}
use Rattle.std.specs.List.{AllZip}
use Rattle.mr_linear.specs.Matrix.{Grid}
use Rattle.mr_linear.specs.Representation.{IsAnswer, HasNoRepresentation}
use Rattle.mr_assign.specs.Assign.{no_values}
use Rattle.mr_frame.specs.Frame.{Framed, IsFrame}
use Rattle.mr_frame.specs.Test.{IsFilledBy}
use Rattle.mr_class.specs.Forms.{IsForm}
use Rattle.mr_exchange.specs.Right.{AreCompletions}

-- the matrices of all forms, in order, are the answer
abbrev pub FormsGiveTheAnswer : Type 0
FormsGiveTheAnswer = (f : Framed) (forms : List (List ℕ)) (answer : List Grid) → IsFrame f → AreCompletions f no_values forms → AllZip (IsFilledBy f) forms answer → IsAnswer f.matroid f.field answer

-- each list of forms has its matrices
abbrev pub FormsHaveMatrices : Type 0
FormsHaveMatrices = (f : Framed) (forms : List (List ℕ)) → IsFrame f → AreCompletions f no_values forms → (answer : List Grid) × AllZip (IsFilledBy f) forms answer

-- where there is no form, no matrix represents the matroid
abbrev pub NoFormNoRepresentation : Type 0
NoFormNoRepresentation = (f : Framed) → IsFrame f → ((c : List ℕ) → ¬ (IsForm f c)) → HasNoRepresentation f.matroid f.field
