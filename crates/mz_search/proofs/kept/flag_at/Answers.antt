use Rattle.mz_search.proofs.KeptLemmas.{flag_or, flag_past}
use Rattle.mz_search.proofs.kept.flag_at.Goals as goal

pub returns-then-i-flags : goal.returns-then-i-flags
returns-then-i-flags c = flag_or c.args.flags.now c.args.i c.if-i-flags.true

pub returns-else-i-flags : goal.returns-else-i-flags
returns-else-i-flags c = flag_past c.args.flags.now c.args.i c.if-i-flags.false
