use Rattle.std.proofs.Common.{◌≡◌}
use Rattle.mz_rows.proofs.StandingLemmas.{freed_to}
use Rattle.mz_rows.proofs.table.free_all.Given as goal

abbrev pub invariant-loop-i : goal.invariant-loop-i
invariant-loop-i l = l.standings.items ≡ freed_to l.i l.initial.standings.items
