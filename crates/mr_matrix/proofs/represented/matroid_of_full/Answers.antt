-- The sets of independent columns are the bases of a matroid.
use Rattle.std.proofs.Common.{sym, subst}
use Rattle.mr_set.specs.Matroid.{Presentation, IsMatroid}
use Rattle.mr_matroid.specs.Exchange.{IsWithinLimits}
use Rattle.mr_linear.specs.Matrix.{height, AreIndependent}
use Rattle.mr_minor.specs.Private.Collected.{AreNonbases}
use Rattle.mr_matrix.proofs.ColumnBases.{columns_make, matroid_within, as_matroid, matroid_made}
use Rattle.mr_matrix.proofs.represented.matroid_of_full.Goals as goal

pub matroid_with-requires-clause-matroid : goal.matroid_with-requires-clause-matroid
matroid_with-requires-clause-matroid c =
    let are = subst (AreNonbases c.args.a.now.cols (height c.args.a.now) (AreIndependent c.args.a.now)) (sym c.as_slice.ensures.value) c.in_ok-nonbases.ensures in
    let same = as_matroid c.args.a.now c.cols-n.result c.rows-r.result c.as_slice.result.now c.cols-n.ensures.value c.rows-r.ensures.value in
    subst (λ (p : Presentation). IsMatroid p) (sym same) (columns_make c.args.a.now c.as_slice.result.now c.rows-r.ensures.grid c.requires.full are).matroid

pub matroid_with-requires-clause-limits : goal.matroid_with-requires-clause-limits
matroid_with-requires-clause-limits c =
    let same = as_matroid c.args.a.now c.cols-n.result c.rows-r.result c.as_slice.result.now c.cols-n.ensures.value c.rows-r.ensures.value in
    subst (λ (p : Presentation). IsWithinLimits p) (sym same) (matroid_within c.args.a.now c.as_slice.result.now c.rows-r.ensures.columns c.requires.limit)

pub returns : goal.returns
returns c =
    let are = subst (AreNonbases c.args.a.now.cols (height c.args.a.now) (AreIndependent c.args.a.now)) (sym c.as_slice.ensures.value) c.in_ok-nonbases.ensures in
    matroid_made c.matroid_with.result c.args.a.now c.cols-n.result c.rows-r.result c.as_slice.result.now c.cols-n.ensures.value c.rows-r.ensures.value
    (columns_make c.args.a.now c.as_slice.result.now c.rows-r.ensures.grid c.requires.full are) c.matroid_with.ensures
