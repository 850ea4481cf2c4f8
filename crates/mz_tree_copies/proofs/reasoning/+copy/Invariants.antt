use Rattle.std.proofs.Common.{◌≡◌, take}
use Rattle.mz_tree_copies.proofs.reasoning.+copy.Given as goal

abbrev pub invariant-copy_steps-loop-t : goal.invariant-copy_steps-loop-t
invariant-copy_steps-loop-t l = l.out.items ≡ take l.t-index l.t-items

abbrev pub invariant-copy_supposes-loop-t : goal.invariant-copy_supposes-loop-t
invariant-copy_supposes-loop-t l = l.out.items ≡ take l.t-index l.t-items
