use Rattle.mz_lex.proofs.OneCutLemmas.{only_cut, only_head_first}
use Rattle.mz_lex.proofs.tokens.tokens.Goals as goal

pub returns-in_err-built_in_lexemes-clause-one : goal.returns-in_err-built_in_lexemes-clause-one
returns-in_err-built_in_lexemes-clause-one c = only_cut _ _ _

pub returns-in_err-built_in_lexemes-clause-head : goal.returns-in_err-built_in_lexemes-clause-head
returns-in_err-built_in_lexemes-clause-head c = only_head_first _ _ _

pub returns-in_err-built_in-clause-one : goal.returns-in_err-built_in-clause-one
returns-in_err-built_in-clause-one c = only_cut _ _ _

pub returns-in_err-built_in-clause-head : goal.returns-in_err-built_in-clause-head
returns-in_err-built_in-clause-head c = only_head_first _ _ _

pub returns-clause-one : goal.returns-clause-one
returns-clause-one c = only_cut _ _ _

pub returns-clause-head : goal.returns-clause-head
returns-clause-head c = only_head_first _ _ _
