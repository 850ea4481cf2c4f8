use Rattle.std.proofs.Common.{◌≡◌, take}
use Rattle.mz_tree_copies.proofs.lists.TreesCopied.copy.Given as goal

abbrev pub invariant-loop-tree : goal.invariant-loop-tree
invariant-loop-tree g l = l.items.items ≡ take l.tree-index l.tree-items
