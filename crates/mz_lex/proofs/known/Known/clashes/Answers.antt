use Rattle.mz_lex.proofs.KnownLemmas.{clashes_by}
use Rattle.mz_lex.proofs.known.Known.clashes.Goals as goal

pub returns : goal.returns
returns c = clashes_by _ _ c.self.inside.kinds c.args.entry.now _ _ _ c.self.view_is c.self.invariant c.as_slice.ensures c.kind_of.ensures c.differs.ensures
