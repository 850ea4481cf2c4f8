use Rattle.mz_reading_laws.proofs.StepProofs.{context_after_law, start_law, facts_in_force_law, facts_closed_law, declared_in_force_law}
use Rattle.mz_reading_laws.proofs.laws.step_law.Goals as goal

pub returns-clause-after : goal.returns-clause-after
returns-clause-after z = context_after_law

pub returns-clause-start : goal.returns-clause-start
returns-clause-start z = start_law

pub returns-clause-facts : goal.returns-clause-facts
returns-clause-facts z = facts_in_force_law

pub returns-clause-declared : goal.returns-clause-declared
returns-clause-declared z = declared_in_force_law

pub returns-clause-closed : goal.returns-clause-closed
returns-clause-closed z = facts_closed_law
