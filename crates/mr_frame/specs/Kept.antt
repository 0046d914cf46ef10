-- The value of a frame's fields.
use Rattle.std.specs.Prelude.{ℕ, List}
use Rattle.mr_field.specs.Gf.{Gf}
use Rattle.mr_set.specs.Matroid.{Presentation}
use Rattle.mr_graph.specs.declared.edge.Edge.{Edge}
use Rattle.mr_frame.specs.Frame.{Framed}

-- the value of the fields
abbrev pub framed : Presentation → Gf → List ℕ → List Edge → List Edge → Framed
framed m f b forest places = record { matroid = m; field = f; basis = b; forest = forest; places = places }
