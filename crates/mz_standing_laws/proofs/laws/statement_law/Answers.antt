use Rattle.mz_standing_laws.proofs.ItemProofs.{reservation_law, theorem_law, statement_law}
use Rattle.mz_standing_laws.proofs.laws.statement_law.Goals as goal

pub returns-clause-reservation : goal.returns-clause-reservation
returns-clause-reservation c = reservation_law

pub returns-clause-theorem : goal.returns-clause-theorem
returns-clause-theorem c = theorem_law

pub returns-clause-statement : goal.returns-clause-statement
returns-clause-statement c = statement_law
