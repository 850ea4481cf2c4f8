use Rattle.mz_reading_laws.proofs.CallProofs.{term_call_law, type_call_law, formula_call_law, sentence_call_law}
use Rattle.mz_reading_laws.proofs.laws.call_law.Goals as goal

pub returns-clause-term : goal.returns-clause-term
returns-clause-term z = term_call_law

pub returns-clause-ty : goal.returns-clause-ty
returns-clause-ty z = type_call_law

pub returns-clause-formula : goal.returns-clause-formula
returns-clause-formula z = formula_call_law

pub returns-clause-sentence : goal.returns-clause-sentence
returns-clause-sentence z = sentence_call_law
