use Rattle.mz_accepted_laws.proofs.AcceptedProofs.{accepted_law, name_law}
use Rattle.mz_accepted_laws.proofs.laws.accepted_law.Goals as goal

pub returns-clause-keeps_sound : goal.returns-clause-keeps_sound
returns-clause-keeps_sound c = accepted_law

pub returns-clause-answers_name : goal.returns-clause-answers_name
returns-clause-answers_name c = name_law
