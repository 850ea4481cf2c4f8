use Rattle.std.proofs.Common.{◌≡◌, ◌++◌, map, take}
use Rattle.std.specs.List.{flat_map}
use Rattle.mz_tree.specs.Spell.{spell_piece, spell_prefix, spell_before, spell_next_term, spell_adjective, spell_next_declared, spell_next_conjunction, spell_next_unit}
use Rattle.mz_tree.specs.Views.{piece_of, prefix_of, before_of, next_term_of, adjective_of, next_declared_of, next_conjunction_of, next_unit_of}
use Rattle.mz_expression_spelling.proofs.nodes.+spell.Given as goal

abbrev pub invariant-spell_term_node-loop-piece : goal.invariant-spell_term_node-loop-piece
invariant-spell_term_node-loop-piece l = l.out.items ≡ l.initial.out.items ++ flat_map spell_piece (map piece_of (take l.piece-index l.piece-items))

abbrev pub invariant-spell_operand_node-loop-prefix : goal.invariant-spell_operand_node-loop-prefix
invariant-spell_operand_node-loop-prefix l = l.out.items ≡ l.initial.out.items ++ flat_map spell_prefix (map prefix_of (take l.prefix-index l.prefix-items))

abbrev pub invariant-spell_befores-loop-before : goal.invariant-spell_befores-loop-before
invariant-spell_befores-loop-before l = l.out.items ≡ l.initial.out.items ++ flat_map spell_before (map before_of (take l.before-index l.befores))

abbrev pub invariant-spell_terms_node-loop-next : goal.invariant-spell_terms_node-loop-next
invariant-spell_terms_node-loop-next l = l.out.items ≡ l.initial.out.items ++ flat_map spell_next_term (map next_term_of (take l.next-index l.next-items))

abbrev pub invariant-spell_adjective_nodes-loop-adjective : goal.invariant-spell_adjective_nodes-loop-adjective
invariant-spell_adjective_nodes-loop-adjective l = l.out.items ≡ l.initial.out.items ++ flat_map spell_adjective (map adjective_of (take l.adjective-index l.adjectives))

abbrev pub invariant-spell_declarations_node-loop-next : goal.invariant-spell_declarations_node-loop-next
invariant-spell_declarations_node-loop-next l = l.out.items ≡ l.initial.out.items ++ flat_map spell_next_declared (map next_declared_of (take l.next-index l.next-items))

abbrev pub invariant-spell_disjunction_node-loop-next : goal.invariant-spell_disjunction_node-loop-next
invariant-spell_disjunction_node-loop-next l = l.out.items ≡ l.initial.out.items ++ flat_map spell_next_conjunction (map next_conjunction_of (take l.next-index l.next-items))

abbrev pub invariant-spell_conjunction_node-loop-next : goal.invariant-spell_conjunction_node-loop-next
invariant-spell_conjunction_node-loop-next l = l.out.items ≡ l.initial.out.items ++ flat_map spell_next_unit (map next_unit_of (take l.next-index l.next-items))
