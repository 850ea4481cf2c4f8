use Rattle.mz_block_laws.proofs.PassProofs.{no_step_law, more_steps_law, stated_passes_law, held_passes_law}
use Rattle.mz_block_laws.proofs.laws.more_steps_law.Goals as goal

pub returns-clause-none : goal.returns-clause-none
returns-clause-none c = no_step_law

pub returns-clause-more : goal.returns-clause-more
returns-clause-more c = more_steps_law

pub returns-clause-stated : goal.returns-clause-stated
returns-clause-stated c = stated_passes_law

pub returns-clause-held : goal.returns-clause-held
returns-clause-held c = held_passes_law
