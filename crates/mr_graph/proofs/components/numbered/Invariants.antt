-- the labels so far are numbered
use Rattle.std.proofs.Common.{◌≡◌, length}
use Rattle.mr_graph.specs.Private.Components.{IsNumbered}
use Rattle.mr_graph.proofs.components.numbered.Given as goal

abbrev pub invariant-loop-place : goal.invariant-loop-place
invariant-loop-place l = record { size : length l.numbers.items ≡ l._place; numbered : IsNumbered l.labels l.numbers.items l.count (length l.numbers.items) }
