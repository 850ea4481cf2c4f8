use Rattle.std.proofs.Common.{◌≡◌, ◌++◌, length, map}
use Rattle.mz_cited.specs.Cited.{tree_of}
use Rattle.mz_parts.specs.Named.{retyped}
use Rattle.mz_parts.proofs.retyped.retype_each.Given as goal

abbrev pub invariant-loop-t : goal.invariant-loop-t
invariant-loop-t l = l.out ++ retyped l.ty (map tree_of l.names) l.terms ≡ l.initial.out ++ retyped l.ty (map tree_of l.xs) l.ts

abbrev pub decreases-loop-t : goal.decreases-loop-t
decreases-loop-t l = length l.terms
