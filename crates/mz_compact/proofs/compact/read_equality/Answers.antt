use Rattle.mz_compact.proofs.CompactLemmas.{told_unread, told_unmade, told_made}
use Rattle.mz_compact.proofs.compact.read_equality.Goals as goal

pub returns-in-Ok-clause-reads : goal.returns-in-Ok-clause-reads
returns-in-Ok-clause-reads c = told_unmade _ _ _ _ _ _ _ _ _ _ _ _ _ c.read_sides.ensures.reads c.in-Ok.is c.read_sides.ensures.same c.in_ok-n-in-Ok.ensures c.in_ok-said-in-Ok.ensures c.in-Err-2.is

pub returns-in-Ok-2-clause-reads : goal.returns-in-Ok-2-clause-reads
returns-in-Ok-2-clause-reads c = told_made _ _ _ _ _ _ _ _ _ _ _ _ _ c.read_sides.ensures.reads c.in-Ok.is c.read_sides.ensures.same c.in_ok-n-in-Ok.ensures c.in_ok-said-in-Ok.ensures c.in-Ok-2.is

pub returns-clause-reads : goal.returns-clause-reads
returns-clause-reads c = told_unread _ _ _ _ _ _ _ _ _ _ c.read_sides.ensures.reads c.in-Err.is c.resolved.ensures
