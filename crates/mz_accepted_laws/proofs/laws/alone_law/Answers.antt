use Rattle.mz_accepted_laws.proofs.AloneProofs.{axioms_law, theorems_law, alone_law}
use Rattle.mz_accepted_laws.proofs.laws.alone_law.Goals as goal

pub returns-clause-axioms : goal.returns-clause-axioms
returns-clause-axioms c = axioms_law

pub returns-clause-sound : goal.returns-clause-sound
returns-clause-sound c = alone_law

pub returns-clause-theorems : goal.returns-clause-theorems
returns-clause-theorems c = theorems_law
