use Rattle.mz_choice_laws.proofs.LociHolds.{loci_law}
use Rattle.mz_choice_laws.proofs.laws.loci_law.Goals as goal

pub returns : goal.returns
returns z = loci_law
