use Rattle.std.proofs.Common.{◌≡◌, ◌∷◌, map, take}
use Rattle.mz_tree.specs.Views.{declared_of, next_declared_of}
use Rattle.mz_free.specs.Occurring.{declared_name}
use Rattle.mz_free.proofs.OccurringLemmas.{next_name}
use Rattle.mz_free.proofs.occurrences.names_of.Given as goal

abbrev pub invariant-loop-next : goal.invariant-loop-next
invariant-loop-next l = l.out ≡ declared_name (declared_of l.node.first) ∷ map next_name (map next_declared_of (take l.next-index l.next-items))
