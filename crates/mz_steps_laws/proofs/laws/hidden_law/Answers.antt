use Rattle.mz_steps_laws.proofs.HiddenProofs.{step_said_law, more_said_law, hidden_law, lacking_law}
use Rattle.mz_steps_laws.proofs.laws.hidden_law.Goals as goal

pub returns-clause-step : goal.returns-clause-step
returns-clause-step c = step_said_law

pub returns-clause-more : goal.returns-clause-more
returns-clause-more c = more_said_law

pub returns-clause-hidden : goal.returns-clause-hidden
returns-clause-hidden c = hidden_law

pub returns-clause-lacking : goal.returns-clause-lacking
returns-clause-lacking c = lacking_law
