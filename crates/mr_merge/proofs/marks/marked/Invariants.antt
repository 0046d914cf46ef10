-- the marked slots before this place
use Rattle.std.proofs.Common.{◌≡◌, take}
use Rattle.mr_merge.specs.Private.Marks.{marked_slots}
use Rattle.mr_merge.proofs.marks.marked.Given as goal

abbrev pub invariant-loop-place : goal.invariant-loop-place
invariant-loop-place l = l.kept.items ≡ marked_slots l.marks (take l.place-index l.slots)
