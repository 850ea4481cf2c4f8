use Rattle.mz_standing_laws.proofs.HeadingProofs.{loci_law, condition_law}
use Rattle.mz_standing_laws.proofs.laws.condition_law.Goals as goal

pub returns-clause-loci : goal.returns-clause-loci
returns-clause-loci c = loci_law

pub returns-clause-condition : goal.returns-clause-condition
returns-clause-condition c = condition_law
