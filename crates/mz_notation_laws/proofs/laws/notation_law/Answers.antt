use Rattle.mz_notation_laws.proofs.KeepProofs.{notes_grow, notes_keep}
use Rattle.mz_notation_laws.proofs.OneProofs.{one_block}
use Rattle.mz_notation_laws.proofs.laws.notation_law.Goals as goal

pub returns-clause-grows : goal.returns-clause-grows
returns-clause-grows c = notes_grow

pub returns-clause-keeps : goal.returns-clause-keeps
returns-clause-keeps c = notes_keep

pub returns-clause-one : goal.returns-clause-one
returns-clause-one c = one_block
