use Rattle.mz_ptype.proofs.Unique.{one_type, one_adjectives, one_declarations}
use Rattle.mz_ptype.proofs.parse.one_tree.Goals as goal

pub returns-clause-types : goal.returns-clause-types
returns-clause-types c = one_type

pub returns-clause-adjectives : goal.returns-clause-adjectives
returns-clause-adjectives c = one_adjectives

pub returns-clause-declarations : goal.returns-clause-declarations
returns-clause-declarations c = one_declarations
