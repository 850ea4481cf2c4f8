use Rattle.mz_define_laws.proofs.KindProofs.{definitions_grows, definitions_keeps, definitions_one, notations_grows, notations_keeps, notations_one}
use Rattle.mz_define_laws.proofs.laws.define_law.Goals as goal

pub returns-clause-grows_of_definitions : goal.returns-clause-grows_of_definitions
returns-clause-grows_of_definitions c = definitions_grows

pub returns-clause-keeps_of_definitions : goal.returns-clause-keeps_of_definitions
returns-clause-keeps_of_definitions c = definitions_keeps

pub returns-clause-one_of_definitions : goal.returns-clause-one_of_definitions
returns-clause-one_of_definitions c = definitions_one

pub returns-clause-grows_of_notations : goal.returns-clause-grows_of_notations
returns-clause-grows_of_notations c = notations_grows

pub returns-clause-keeps_of_notations : goal.returns-clause-keeps_of_notations
returns-clause-keeps_of_notations c = notations_keeps

pub returns-clause-one_of_notations : goal.returns-clause-one_of_notations
returns-clause-one_of_notations c = notations_one
