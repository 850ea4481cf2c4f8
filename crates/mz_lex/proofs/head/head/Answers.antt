use Rattle.mz_lex.proofs.OneCutLemmas.{only_cut}
use Rattle.mz_lex.proofs.head.head.Goals as goal

pub returns-in_err-built_in_lexemes-clause-one : goal.returns-in_err-built_in_lexemes-clause-one
returns-in_err-built_in_lexemes-clause-one c = only_cut _ _ _

pub returns-in_err-table-clause-one : goal.returns-in_err-table-clause-one
returns-in_err-table-clause-one c = only_cut _ _ _

pub returns-in_err-tokens-clause-one : goal.returns-in_err-tokens-clause-one
returns-in_err-tokens-clause-one c = only_cut _ _ _

pub returns-clause-one : goal.returns-clause-one
returns-clause-one c = only_cut _ _ _
