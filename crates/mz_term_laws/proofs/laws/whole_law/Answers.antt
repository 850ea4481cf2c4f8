use Rattle.mz_term_laws.proofs.ChangeProofs.{empty_law, whole_from_law, constant_law, variables_law, statement_law, thesis_law, previous_law, reserved_law, functor_law, predicate_law, letter_law}
use Rattle.mz_term_laws.proofs.laws.whole_law.Goals as goal

pub returns-clause-constant : goal.returns-clause-constant
returns-clause-constant z = constant_law

pub returns-clause-variables : goal.returns-clause-variables
returns-clause-variables z = variables_law

pub returns-clause-statement : goal.returns-clause-statement
returns-clause-statement z = statement_law

pub returns-clause-thesis : goal.returns-clause-thesis
returns-clause-thesis z = thesis_law

pub returns-clause-previous : goal.returns-clause-previous
returns-clause-previous z = previous_law

pub returns-clause-reserved : goal.returns-clause-reserved
returns-clause-reserved z = reserved_law

pub returns-clause-functor : goal.returns-clause-functor
returns-clause-functor z = functor_law

pub returns-clause-predicate : goal.returns-clause-predicate
returns-clause-predicate z = predicate_law

pub returns-clause-letter : goal.returns-clause-letter
returns-clause-letter z = letter_law

pub returns-clause-empty : goal.returns-clause-empty
returns-clause-empty z = empty_law

pub returns-clause-later : goal.returns-clause-later
returns-clause-later z = whole_from_law
