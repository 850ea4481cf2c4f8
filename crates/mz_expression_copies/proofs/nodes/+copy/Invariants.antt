use Rattle.std.proofs.Common.{◌≡◌, map, take}
use Rattle.mz_tree.specs.Views.{piece_of, prefix_of, before_of, next_term_of, adjective_of, next_declared_of, next_conjunction_of, next_unit_of}
use Rattle.mz_expression_copies.proofs.nodes.+copy.Given as goal

abbrev pub invariant-copy_term-loop-piece : goal.invariant-copy_term-loop-piece
invariant-copy_term-loop-piece l = map piece_of l.more.items ≡ map piece_of (take l.piece-index l.piece-items)

abbrev pub invariant-copy_operand-loop-prefix : goal.invariant-copy_operand-loop-prefix
invariant-copy_operand-loop-prefix l = map prefix_of l.prefixes.items ≡ map prefix_of (take l.prefix-index l.prefix-items)

abbrev pub invariant-copy_befores-loop-before : goal.invariant-copy_befores-loop-before
invariant-copy_befores-loop-before l = map before_of l.out.items ≡ map before_of (take l.before-index l.befores)

abbrev pub invariant-copy_terms-loop-next : goal.invariant-copy_terms-loop-next
invariant-copy_terms-loop-next l = map next_term_of l.more.items ≡ map next_term_of (take l.next-index l.next-items)

abbrev pub invariant-copy_adjectives-loop-adjective : goal.invariant-copy_adjectives-loop-adjective
invariant-copy_adjectives-loop-adjective l = map adjective_of l.out.items ≡ map adjective_of (take l.adjective-index l.adjectives)

abbrev pub invariant-copy_declarations-loop-next : goal.invariant-copy_declarations-loop-next
invariant-copy_declarations-loop-next l = map next_declared_of l.more.items ≡ map next_declared_of (take l.next-index l.next-items)

abbrev pub invariant-copy_disjunction-loop-next : goal.invariant-copy_disjunction-loop-next
invariant-copy_disjunction-loop-next l = map next_conjunction_of l.more.items ≡ map next_conjunction_of (take l.next-index l.next-items)

abbrev pub invariant-copy_conjunction-loop-next : goal.invariant-copy_conjunction-loop-next
invariant-copy_conjunction-loop-next l = map next_unit_of l.more.items ≡ map next_unit_of (take l.next-index l.next-items)
