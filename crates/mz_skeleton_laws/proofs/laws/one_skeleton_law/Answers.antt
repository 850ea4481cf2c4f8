use Rattle.mz_skeleton_laws.proofs.OneSkeleton.{one_skeleton}
use Rattle.mz_skeleton_laws.proofs.laws.one_skeleton_law.Goals as goal

pub returns : goal.returns
returns c = one_skeleton
