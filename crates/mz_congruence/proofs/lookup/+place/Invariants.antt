use Rattle.std.proofs.Common.{take, Some}
use Rattle.mz_congruence.specs.Lookup.{FindsHash}
use Rattle.mz_congruence.proofs.lookup.+place.Given as goal

abbrev pub invariant-args_hash-loop-i : goal.invariant-args_hash-loop-i
invariant-args_hash-loop-i l = FindsHash l.g l.args (take l.i l.us-inside.items.items) l.start (Some l.hash)
