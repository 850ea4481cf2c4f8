use Rattle.mz_loci_laws.proofs.BlockProofs.{types_law, formula_law}
use Rattle.mz_loci_laws.proofs.laws.loci_law.Goals as goal

pub returns-clause-types : goal.returns-clause-types
returns-clause-types c = types_law

pub returns-clause-formula : goal.returns-clause-formula
returns-clause-formula c = formula_law
