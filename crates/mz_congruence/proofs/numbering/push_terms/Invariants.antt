use Rattle.std.proofs.Common.{◌≡◌, ◌++◌, take, map}
use Rattle.mz_congruence.specs.Nodes.{term_node}
use Rattle.mz_congruence.proofs.numbering.push_terms.Given as goal

abbrev pub invariant-loop-t : goal.invariant-loop-t
invariant-loop-t l = l.out ≡ l.fn.out ++ map term_node (take l.t-index l.t-items)
