use Rattle.std.proofs.Common.{◌≡◌, ◌∷◌, ◌++◌, length, map}
use Rattle.mz_tree.specs.Views.{piece_of}
use Rattle.mz_terms.specs.Parts.{parts_behind, parts_of}
use Rattle.mz_terms.proofs.parts.parts_of.Given as goal

abbrev pub invariant-loop-piece : goal.invariant-loop-piece
invariant-loop-piece l = l.out.items ++ parts_behind l.env l.before (map piece_of l.rest) ≡ parts_of l.env (piece_of l.node.first ∷ map piece_of l.node.more.items)

abbrev pub decreases-loop-piece : goal.decreases-loop-piece
decreases-loop-piece l = length l.rest
