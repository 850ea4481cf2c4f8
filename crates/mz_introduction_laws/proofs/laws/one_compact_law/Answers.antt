use Rattle.mz_introduction_laws.proofs.OneAhead.{one_ahead}
use Rattle.mz_introduction_laws.proofs.OneCompact.{one_compact, one_sides_justified}
use Rattle.mz_introduction_laws.proofs.laws.one_compact_law.Goals as goal

pub returns-clause-compact : goal.returns-clause-compact
returns-clause-compact c = one_compact

pub returns-clause-ahead : goal.returns-clause-ahead
returns-clause-ahead c = one_ahead

pub returns-clause-sides : goal.returns-clause-sides
returns-clause-sides c = one_sides_justified
