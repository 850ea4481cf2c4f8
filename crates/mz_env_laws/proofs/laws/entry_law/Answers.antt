use Rattle.mz_env_laws.proofs.EntryProofs.{entry_law, own_part_law, own_item_law}
use Rattle.mz_env_laws.proofs.laws.entry_law.Goals as goal

pub returns-clause-let_in : goal.returns-clause-let_in
returns-clause-let_in c = entry_law

pub returns-clause-own_part : goal.returns-clause-own_part
returns-clause-own_part c = own_part_law

pub returns-clause-own_item : goal.returns-clause-own_item
returns-clause-own_item c = own_item_law
