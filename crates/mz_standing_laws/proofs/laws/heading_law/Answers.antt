use Rattle.mz_standing_laws.proofs.HeadingProofs.{heading_law, scheme_law}
use Rattle.mz_standing_laws.proofs.laws.heading_law.Goals as goal

pub returns-clause-heading : goal.returns-clause-heading
returns-clause-heading c = heading_law

pub returns-clause-scheme : goal.returns-clause-scheme
returns-clause-scheme c = scheme_law
