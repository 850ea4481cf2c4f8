use Rattle.mz_types.proofs.OneChain.{one_chain_law}
use Rattle.mz_types.proofs.laws.one_chain_law.Goals as goal

pub returns : goal.returns
returns c = one_chain_law
