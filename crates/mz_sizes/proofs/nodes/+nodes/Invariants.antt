use Rattle.std.proofs.Common.{take, Some}
use Rattle.mz_logic.specs.Term.{terms_of}
use Rattle.mz_ground.specs.Instance.{args_nodes}
use Rattle.mz_ground.specs.Nodes.{IsSpent}
use Rattle.mz_sizes.proofs.nodes.+nodes.Given as goal

abbrev pub invariant-after_terms-loop-t : goal.invariant-after_terms-loop-t
invariant-after_terms-loop-t l = IsSpent l.left (args_nodes (terms_of (take l.t-index l.t-items))) (Some l.rest)
