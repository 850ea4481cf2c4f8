use Rattle.std.proofs.Common.{◌≡◌, drop}
use Rattle.mz_logic.specs.Term.{terms_of}
use Rattle.mz_logic.specs.TermStorage.{size_of, sizes_of}
use Rattle.mz_ground.specs.Instance.{args_nodes}
use Rattle.mz_types.specs.Chain.{left_of}
use Rattle.mz_types.proofs.chain.+nodes.Given as goal

abbrev pub invariant-all_nodes_left-loop-t : goal.invariant-all_nodes_left-loop-t
invariant-all_nodes_left-loop-t l = left_of (args_nodes (terms_of l.t-items)) l.left ≡ left_of (args_nodes (terms_of (drop l.t-index l.t-items))) l.rest
