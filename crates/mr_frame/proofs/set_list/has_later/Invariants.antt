-- no place from the next one up to this is in the part
use Rattle.std.proofs.Common.{ℕ, ◌<◌, ◌≡◌}
use Rattle.std.specs.Prelude.{Some, slice_get, slice_index}
use Rattle.mr_graph.specs.declared.edge.Edge.{Edge}
use Rattle.mr_frame.specs.Private.Building.{HasAndNot}
use Rattle.mr_frame.proofs.set_list.has_later.Given as goal

abbrev pub invariant-loop-q : goal.invariant-loop-q
invariant-loop-q l = (r : ℕ) (e : Edge) → l.p < r → r < l.q → slice_get l.places r ≡ Some e → ¬ (HasAndNot e.col (slice_index l.members e.row) l.fn.x)
