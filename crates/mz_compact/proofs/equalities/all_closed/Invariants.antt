use Rattle.std.proofs.Common.{◌≡◌, length, map}
use Rattle.mz_names.specs.Closing.{for_all}
use Rattle.mz_walk.specs.Within.{all_kept}
use Rattle.mz_performing.proofs.KeptLemmas.{kept_behind}
use Rattle.mz_compact.proofs.equalities.all_closed.Given as goal

abbrev pub invariant-loop-s : goal.invariant-loop-s
invariant-loop-s l = kept_behind l.out (all_kept (map (for_all l.n l.vs) l.rest)) ≡ all_kept (map (for_all l.n l.vs) l.ss)

abbrev pub decreases-loop-s : goal.decreases-loop-s
decreases-loop-s l = length l.rest
