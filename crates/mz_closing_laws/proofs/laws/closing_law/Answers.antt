use Rattle.mz_closing_laws.proofs.ClosingProofs.{closing_law}
use Rattle.mz_closing_laws.proofs.laws.closing_law.Goals as goal

pub returns : goal.returns
returns c = closing_law
