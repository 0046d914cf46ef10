use Rattle.std.proofs.Common.{◌≡◌, replicate, None, vec_capacity}
use Rattle.mr_pool.proofs.answered.empty_row.Given as goal

-- so many places are there, and there is room for all
abbrev pub invariant-loop-place : goal.invariant-loop-place
invariant-loop-place l = record {
  items : l.row.items ≡ replicate l._place None;
  room : vec_capacity l.row ≡ l.places;
}
