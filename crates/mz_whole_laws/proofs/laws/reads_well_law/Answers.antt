use Rattle.mz_whole_laws.proofs.WholeProofs.{reads_well_law}
use Rattle.mz_whole_laws.proofs.laws.reads_well_law.Goals as goal

pub returns : goal.returns
returns c = reads_well_law
