-- What the steps leave by which a representation is brought to its form.
use Rattle.std.specs.Prelude.{◌≡◌, ◌⊎◌, ℕ, ◌<◌, ◌≤◌, List, Some, length, slice_get, slice_index}
use Rattle.mr_set.specs.Matroid.{Presentation}
use Rattle.mr_assign.specs.declared.TheConstants.{POSITIONS}
use Rattle.mr_graph.specs.declared.edge.Edge.{Edge}
use Rattle.mr_graph.specs.Graph.{row, col}
use Rattle.mr_graph.specs.Forest.{HasEdge}
use Rattle.mr_graph.specs.Order.{Touches}
use Rattle.mr_linear.specs.Matrix.{Grid, entry}
use Rattle.mr_linear.specs.Representation.{Represents, HasIdentity}
use Rattle.mr_frame.specs.Frame.{IsExchange}
use Rattle.mr_class.specs.Forms.{HasOnes}

-- a representation that is the identity at the basis and has ones on these edges
pub record IsScaledOn (m : Presentation) (b : List ℕ) (edges : List Edge) (c : Grid) : Type 0 where
  pub represents : Represents c m
  pub identity : HasIdentity b c
  pub ones : HasOnes edges c

-- the edges are exchanges, and of the edge x one end is touched by none of those that are taken
pub record IsNextEdge (m : Presentation) (b : List ℕ) (taken : List Edge) (x : Edge) : Type 0 where
  pub exchanges : (i e : ℕ) → HasEdge taken i e → IsExchange m b i e
  pub edge : IsExchange m b x.row x.col
  pub free : (¬ (Touches taken (row x.row))) ⊎ (¬ (Touches taken (col x.col)))

-- the map has the entries at the first n free positions, and no other value
pub record IsReadTo (places : List Edge) (g : Grid) (n : ℕ) (c : List ℕ) : Type 0 where
  pub size : length c ≡ POSITIONS
  pub here : (p : ℕ) (x : Edge) → p < n → slice_get places p ≡ Some x → slice_index c p ≡ entry g x.row x.col
  pub past : (p : ℕ) → n ≤ p → slice_index c p ≡ 0
