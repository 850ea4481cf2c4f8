use Rattle.mz_standing_laws.proofs.ItemProofs.{item_law, label_law, context_law, left_law}
use Rattle.mz_standing_laws.proofs.laws.item_law.Goals as goal

pub returns-clause-item : goal.returns-clause-item
returns-clause-item c = item_law

pub returns-clause-label : goal.returns-clause-label
returns-clause-label c = label_law

pub returns-clause-context : goal.returns-clause-context
returns-clause-context c = context_law

pub returns-clause-left : goal.returns-clause-left
returns-clause-left c = left_law
