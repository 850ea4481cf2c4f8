use Rattle.mz_lex.proofs.KnownLemmas.{has_kinds_more}
use Rattle.mz_lex.proofs.known.Known.with.Goals as goal

pub invariant_of-result : goal.invariant_of-result
invariant_of-result c = has_kinds_more _ _ _ _ c.self.inside.kinds c.insert.new.self _ c.self.view_is c.requires c.self.invariant c.as_slice.ensures c.in_ok-insert.ensures c.in_ok-push.ensures.items
