-- a plane's rank is full
use Rattle.mr_matrix.proofs.PlaneRank.{plane_rank}
use Rattle.mr_matrix.proofs.laws.planes_have_full_rank.Goals as goal

pub returns : goal.returns
returns c = plane_rank
