use Rattle.std.proofs.Common.{◌≡◌, length, map}
use Rattle.std.specs.Prelude.{find}
use Rattle.std.specs.Arc.{arc_value}
use Rattle.mz_given.specs.Schemes.{is_numbered}
use Rattle.mz_given.proofs.schemes.numbered.Given as goal

abbrev pub invariant-loop-x : goal.invariant-loop-x
invariant-loop-x l = find (is_numbered l.number) (map arc_value l.rest) ≡ find (is_numbered l.number) (map arc_value l.ss)

abbrev pub decreases-loop-x : goal.decreases-loop-x
decreases-loop-x l = length l.rest
