use Rattle.mz_choice_laws.proofs.KnownChain.{known_chain_law}
use Rattle.mz_choice_laws.proofs.KnownChoice.{known_meaning_law, suited_law}
use Rattle.mz_choice_laws.proofs.laws.known_law.Goals as goal

pub returns-clause-chain : goal.returns-clause-chain
returns-clause-chain z = known_chain_law

pub returns-clause-meaning : goal.returns-clause-meaning
returns-clause-meaning z = known_meaning_law

pub returns-clause-suited : goal.returns-clause-suited
returns-clause-suited z = suited_law
