-- the cells before this one are copied
use Rattle.std.proofs.Common.{ℕ, ◌≡◌, ◌<◌, get_or, length}
use Rattle.mr_field.specs.Gf.{Gf}
use Rattle.mr_linear.specs.Stored.{InField}
use Rattle.mr_linear.proofs.small.copy_rows.Given as goal

abbrev pub invariant-loop-k : goal.invariant-loop-k
invariant-loop-k l = record {
  len : length l.copy ≡ 1024;
  same : (x : ℕ) → x < l.k → get_or l.copy x 0 ≡ get_or l.full x 0;
  elements : (f : Gf) → InField f l.full → InField f l.initial.copy → InField f l.copy;
}
