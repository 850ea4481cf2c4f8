use Rattle.std.proofs.Common.{◌≡◌, length, map}
use Rattle.mz_walk.specs.Within.{all_kept}
use Rattle.mz_walk.specs.Introductions.{type_owed}
use Rattle.mz_performing.proofs.KeptLemmas.{kept_behind}
use Rattle.mz_performing.proofs.introductions.types_owed.Given as goal

abbrev pub invariant-loop-d : goal.invariant-loop-d
invariant-loop-d l = kept_behind l.out (all_kept (map type_owed l.rest)) ≡ all_kept (map type_owed l.ds)

abbrev pub decreases-loop-d : goal.decreases-loop-d
decreases-loop-d l = length l.rest
