use Rattle.std.proofs.Common.{take, Some}
use Rattle.mz_ground.specs.Nodes.{IsSpent}
use Rattle.mz_sizes.specs.Sizes.{adjectives_nodes}
use Rattle.mz_sizes.proofs.nodes.after_adjectives.Given as goal

abbrev pub invariant-loop-a : goal.invariant-loop-a
invariant-loop-a l = IsSpent l.left (adjectives_nodes (take l.a-index l.a-items)) (Some l.rest)
