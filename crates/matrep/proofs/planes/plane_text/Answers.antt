-- what is told of the matroid of the plane's matrix
use Rattle.std.proofs.Common.{ap, Err}
use Rattle.mr_field.specs.Gf.{Gf}
use Rattle.mr_matrix.proofs.PlaneRank.{plane_not_short}
use Rattle.matrep.specs.Answering.{CountsClasses}
use Rattle.matrep.proofs.Inputs.{over_field}
use Rattle.matrep.proofs.Counted.{few_triples}
use Rattle.matrep.proofs.planes.plane_text.Goals as goal

pub matroid_of-requires : goal.matroid_of-requires
matroid_of-requires c = few_triples _ _ c.rows-rows.ensures.columns c.in_ok-a.ensures.rows

pub returns-in-Ok : goal.returns-in-Ok
returns-in-Ok c =
    over_field (λ (g : Gf) o. CountsClasses g o.exit o.text) c.field_with-field.result c.args.q c.count.result c.field_with-field.ensures c.count.ensures

pub count-requires : goal.count-requires
count-requires c = record { matrix = c.in_ok-a.a; plane = c.in_ok-a.ensures; of_matrix = c.in-Ok.ensures.ok }

-- the rank of a plane isn't short
pub unreachable-requires : goal.unreachable-requires
unreachable-requires c = plane_not_short _ _ c.in_ok-a.ensures c.in-RankShort.rank ((c.in-Err.ensures.rank c.in-RankShort.rank).0 (ap Err c.in-RankShort.is))
