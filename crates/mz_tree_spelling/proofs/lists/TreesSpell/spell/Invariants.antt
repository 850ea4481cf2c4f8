use Rattle.std.proofs.Common.{◌≡◌, ◌++◌, take}
use Rattle.std.specs.List.{flat_map}
use Rattle.mz_tree_spelling.proofs.lists.TreesSpell.spell.Given as goal

abbrev pub invariant-loop-tree : goal.invariant-loop-tree
invariant-loop-tree g l = l.out.items ≡ l.initial.out.items ++ flat_map g.T.Spell.spelled (take l.tree-index l.tree-items)
