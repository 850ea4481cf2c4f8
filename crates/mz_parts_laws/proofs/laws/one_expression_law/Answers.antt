use Rattle.mz_parts_laws.proofs.OneExpression.{one_term_read, one_type_read, one_formula_read, one_sentence_read}
use Rattle.mz_parts_laws.proofs.laws.one_expression_law.Goals as goal

pub returns-clause-term : goal.returns-clause-term
returns-clause-term c = one_term_read

pub returns-clause-ty : goal.returns-clause-ty
returns-clause-ty c = one_type_read

pub returns-clause-formula : goal.returns-clause-formula
returns-clause-formula c = one_formula_read

pub returns-clause-sentence : goal.returns-clause-sentence
returns-clause-sentence c = one_sentence_read
