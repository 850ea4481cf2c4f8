use Rattle.mz_reading_laws.proofs.FormulaProofs.{formula_law, declared_law, sentence_law}
use Rattle.mz_reading_laws.proofs.laws.reading_law.Goals as goal

pub returns-clause-formula : goal.returns-clause-formula
returns-clause-formula z = formula_law

pub returns-clause-declared : goal.returns-clause-declared
returns-clause-declared z = declared_law

pub returns-clause-sentence : goal.returns-clause-sentence
returns-clause-sentence z = sentence_law
