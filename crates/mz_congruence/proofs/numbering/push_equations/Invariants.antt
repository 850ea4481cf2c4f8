use Rattle.std.proofs.Common.{◌≡◌, ◌++◌, take, map}
use Rattle.mz_congruence.specs.Nodes.{disequal_node}
use Rattle.mz_congruence.proofs.numbering.push_equations.Given as goal

abbrev pub invariant-loop-e : goal.invariant-loop-e
invariant-loop-e l = l.out ≡ l.fn.out ++ map disequal_node (take l.e-index l.e-items)
