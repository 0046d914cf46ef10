-- The law as it is proved in SomeFrame.
use Rattle.mr_class.proofs.SomeFrame.{matroids_have_frames}
use Rattle.mr_class.proofs.laws.matroids_have_frames.Goals as goal

pub returns : goal.returns
returns c = matroids_have_frames
