use Rattle.std.proofs.Common.{◌≡◌, map, take}
use Rattle.mz_tree_item.specs.Ends.{token_of}
use Rattle.mz_tree_spelling.proofs.spell.without_marks.Given as goal

abbrev pub invariant-loop-m : goal.invariant-loop-m
invariant-loop-m l = l.tokens.items ≡ map token_of (take l.m-index l.marked)
