use Rattle.mz_tree.proofs.Views.{adjective_of-plain, adjective_of-with_identifier, adjective_of-with_terms}
use Rattle.mz_ptype.proofs.adjectives.with_argument.Goals as goal

pub returns-in-None : goal.returns-in-None
returns-in-None c = rw c.in-None.is (adjective_of-plain _ _)

pub returns-in-Identifier : goal.returns-in-Identifier
returns-in-Identifier c = rw c.in-Identifier.is (adjective_of-with_identifier _ _ _)

pub returns-in-Terms : goal.returns-in-Terms
returns-in-Terms c = rw c.in-Terms.is (adjective_of-with_terms _ _ _ _ _)
