use Rattle.std.proofs.Common.{◌≡◌, ◌++◌, take, map}
use Rattle.mz_congruence.specs.Nodes.{atom_node}
use Rattle.mz_congruence.proofs.numbering.push_atoms.Given as goal

abbrev pub invariant-loop-a : goal.invariant-loop-a
invariant-loop-a l = l.out ≡ l.fn.out ++ map (atom_node l.positive) (take l.a-index l.a-items)
