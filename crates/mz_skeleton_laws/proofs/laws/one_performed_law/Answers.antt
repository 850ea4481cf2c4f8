use Rattle.mz_skeleton_laws.proofs.OnePerformed.{one_performed}
use Rattle.mz_skeleton_laws.proofs.laws.one_performed_law.Goals as goal

pub returns : goal.returns
returns c = one_performed
