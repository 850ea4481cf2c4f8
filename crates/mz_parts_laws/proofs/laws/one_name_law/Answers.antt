use Rattle.mz_parts_laws.proofs.OneName.{one_definition, one_named, one_terms, one_retyped, one_sides}
use Rattle.mz_parts_laws.proofs.laws.one_name_law.Goals as goal

pub returns-clause-definition : goal.returns-clause-definition
returns-clause-definition c = one_definition

pub returns-clause-named : goal.returns-clause-named
returns-clause-named c = one_named

pub returns-clause-terms : goal.returns-clause-terms
returns-clause-terms c = one_terms

pub returns-clause-retyped : goal.returns-clause-retyped
returns-clause-retyped c = one_retyped

pub returns-clause-sides : goal.returns-clause-sides
returns-clause-sides c = one_sides
