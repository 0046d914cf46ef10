-- What a frame keeps beside its value: words of private contracts and of the proofs.
use Rattle.std.specs.Prelude.{◌≡◌, ℕ, ◌+◌, ◌*◌, ◌<◌, ◌≤◌, List, [], Some, length, slice_get, slice_index, slice_index_or}
use Rattle.mr_set.specs.declared.TheConstants.{ELEMENTS}
use Rattle.mr_assign.specs.declared.TheConstants.{POSITIONS}
use Rattle.mr_graph.specs.declared.edge.Edge.{Edge}
use Rattle.mr_frame.specs.Frame.{Framed, IsFrame}
use Rattle.mr_frame.specs.Test.{IsCell}
use Rattle.mr_frame.specs.Private.Building.{AreSets, HasAndNot, AreLast}
use Rattle.mr_frame.specs.Private.Parts.{ArePartLists}
use Rattle.mr_frame.specs.declared.cell.Cell.{Cell}
use Rattle.mr_frame.specs.declared.cell.Cell.TheVariants.{Zero}
use Rattle.mr_frame.specs.declared.part.Part.{Part}

-- the cells of each row, and for each free position the sets that need it
pub record IsKept (f : Framed) (cells : List Cell) (tests : List (List (List ℕ))) : Type 0 where
  pub frame : IsFrame f
  pub few : length f.places ≤ POSITIONS
  pub cell_count : length cells ≡ f.matroid.rank * ELEMENTS
  pub cells_are : (i e : ℕ) → i < f.matroid.rank → e < ELEMENTS → IsCell f i e (slice_index_or cells (i * ELEMENTS + e) Zero)
  pub test_count : length tests ≡ length f.places
  pub tests_are : (p : ℕ) (x : Edge) → slice_get f.places p ≡ Some x → AreSets f.matroid.elements f.matroid.rank (HasAndNot x.col (slice_index f.basis x.row)) (slice_index_or tests p [])

-- for each free position those sets whose part has no later one
pub record AreDue (f : Framed) (tests due : List (List (List ℕ))) : Type 0 where
  pub count : length due ≡ length tests
  pub are : (p : ℕ) → p < length tests → AreLast f.places f.basis p (slice_index_or tests p []) (slice_index_or due p [])

-- and for each of those what its test needs
pub record AreDueParts (f : Framed) (tests : List (List (List ℕ))) (parts : List (List Part)) : Type 0 where
  pub due : List (List (List ℕ))
  pub are : AreDue f tests due
  pub kept : ArePartLists f.matroid f.basis due parts
