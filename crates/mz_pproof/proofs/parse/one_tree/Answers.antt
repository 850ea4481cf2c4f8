use Rattle.mz_pproof.proofs.OneProof.{one_proof}
use Rattle.mz_pproof.proofs.parse.one_tree.Goals as goal

pub returns : goal.returns
returns c = one_proof
