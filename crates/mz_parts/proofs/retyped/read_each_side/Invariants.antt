use Rattle.std.proofs.Common.{length}
use Rattle.mz_parts.specs.Named.{side_of}
use Rattle.mz_parts.proofs.TermLemmas.{Gives}
use Rattle.mz_parts.proofs.retyped.read_each_side.Given as goal

abbrev pub invariant-loop-l : goal.invariant-loop-l
invariant-loop-l l = Gives side_of l.env l.ctx l.least l.left l.rest l.out l.initial.left l.ls l.initial.out

abbrev pub decreases-loop-l : goal.decreases-loop-l
decreases-loop-l l = length l.rest
