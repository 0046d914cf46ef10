-- its fields
use Rattle.std.proofs.Common.{List, ℕ, refl, subst}
use Rattle.mr_frame.specs.Private.Filling.{AreRows}
use Rattle.mr_frame.proofs.part_list.part_of.Goals as goal

pub returns : goal.returns
returns c = record {
  set = refl;
  rows = subst (λ (ys : List ℕ). AreRows ys c.args.x c.rows_of.result) c.requires.members c.rows_of.ensures;
  columns = c.minus.ensures;
  basis = c.is_basis.ensures;
}
