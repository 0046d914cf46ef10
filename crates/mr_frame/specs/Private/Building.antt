-- What the steps leave by which a frame is built.
use Rattle.std.specs.Prelude.{◌≡◌, ◌⊎◌, ◌↔◌, ℕ, ◌<◌, List, AllPairs, Contains, Some, slice_get, slice_index}
use Rattle.std.specs.List.Sorted.{IsStrictlySortedBy}
use Rattle.mr_set.specs.declared.TheConstants.{ELEMENTS}
use Rattle.mr_set.specs.Subsets.{IsSetOf, list_cmp}
use Rattle.mr_set.specs.Subsets.{IsBefore as IsSetBefore}
use Rattle.mr_set.specs.Matroid.{Presentation}
use Rattle.mr_graph.specs.declared.edge.Edge.{Edge}
use Rattle.mr_graph.specs.Graph.{Graph, IsEdge}
use Rattle.mr_graph.specs.Forest.{HasEdge, IsEarlierPlace}
use Rattle.mr_frame.specs.Frame.{IsExchange}
use Rattle.mr_frame.specs.declared.cell.Cell.{Cell}
use Rattle.mr_frame.specs.declared.cell.Cell.TheVariants.{Zero, One, Free}

-- a graph with a row for each of the rank's size and a column for each number, whose edges are the exchanges
pub record IsFundamental (m : Presentation) (b : List ℕ) (g : Graph) : Type 0 where
  pub rows : g.rows ≡ m.rank
  pub cols : g.cols ≡ ELEMENTS
  pub edges : (i e : ℕ) → IsEdge g i e ↔ IsExchange m b i e

-- the same, as far as the place (row, col)
pub record IsJoinedTo (m : Presentation) (b : List ℕ) (g : Graph) (row col : ℕ) : Type 0 where
  pub rows : g.rows ≡ m.rank
  pub cols : g.cols ≡ ELEMENTS
  pub edges : (i e : ℕ) → IsEdge g i e ↔ (IsExchange m b i e × IsEarlierPlace i e row col)

-- an edge of the graph that is none of the forest
abbrev pub EdgeOutside : Graph → List Edge → ℕ → ℕ → Type 0
EdgeOutside g forest i e = IsEdge g i e × ¬ (HasEdge forest i e)

-- just the edges of G before the place (row, col), in order
pub record IsListedTo (G : ℕ → ℕ → Type 0) (xs : List Edge) (row col : ℕ) : Type 0 where
  pub rising : AllPairs (λ x y. IsEarlierPlace x.row x.col y.row y.col) xs
  pub exactly : (i e : ℕ) → HasEdge xs i e ↔ (G i e × IsEarlierPlace i e row col)

-- what stands in row i and column e of a graph with free places
abbrev pub IsCellOf : (ℕ → ℕ → Type 0) → List Edge → ℕ → ℕ → Cell → Type 0
IsCellOf G places i e Zero = ¬ (G i e)
IsCellOf G places i e One = G i e × ¬ (HasEdge places i e)
IsCellOf G places i e (Free p) = slice_get places p ≡ Some (record { row = i; col = e })

-- the set has the one element and not the other
abbrev pub HasAndNot : ℕ → ℕ → List ℕ → Type 0
HasAndNot with without x = Contains x with × ¬ (Contains x without)

-- just the sets of r of the first n elements that are as P says, in order
pub record AreSets (n r : ℕ) (P : List ℕ → Type 0) (sets : List (List ℕ)) : Type 0 where
  pub increasing : IsStrictlySortedBy list_cmp sets
  pub exactly : (x : List ℕ) → Contains sets x ↔ (IsSetOf n r x × P x)

-- just those before s
abbrev pub IsListedBefore : ℕ → ℕ → (List ℕ → Type 0) → List ℕ → List (List ℕ) → Type 0
IsListedBefore n r P s sets = AreSets n r (λ x. P x × IsSetBefore x s) sets

-- just those before s, and s
abbrev pub IsListedThrough : ℕ → ℕ → (List ℕ → Type 0) → List ℕ → List (List ℕ) → Type 0
IsListedThrough n r P s sets = AreSets n r (λ x. P x × (IsSetBefore x s ⊎ (x ≡ s))) sets

-- a later position than p is in the part of the set
abbrev pub HasLater : List Edge → List ℕ → ℕ → List ℕ → Type 0
HasLater places b p x = (q : ℕ) × (e : Edge) × (p < q) × (slice_get places q ≡ Some e) × HasAndNot e.col (slice_index b e.row) x

-- those of the sets that are as P says, in order
pub record AreChosen (P : List ℕ → Type 0) (sets chosen : List (List ℕ)) : Type 0 where
  pub increasing : IsStrictlySortedBy list_cmp chosen
  pub exactly : (x : List ℕ) → Contains chosen x ↔ (Contains sets x × P x)

-- those of the sets without such a position, in order
abbrev pub AreLast : List Edge → List ℕ → ℕ → List (List ℕ) → List (List ℕ) → Type 0
AreLast places b p sets chosen = AreChosen (λ x. ¬ (HasLater places b p x)) sets chosen
