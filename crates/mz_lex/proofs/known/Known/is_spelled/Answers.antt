use Rattle.mz_lex.proofs.KnownLemmas.{spelled_by}
use Rattle.mz_lex.proofs.known.Known.is_spelled.Goals as goal

pub returns : goal.returns
returns c = spelled_by _ _ c.self.inside.kinds _ _ _ c.self.view_is c.self.invariant c.kind_of.ensures c.is_some.ensures
