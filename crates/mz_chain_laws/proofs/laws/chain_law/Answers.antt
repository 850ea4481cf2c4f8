use Rattle.mz_chain_laws.proofs.ChainHolds.{chain_law}
use Rattle.mz_chain_laws.proofs.laws.chain_law.Goals as goal

pub returns : goal.returns
returns c = chain_law
