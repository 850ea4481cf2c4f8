use Rattle.std.proofs.Common.{◌≡◌, ◌++◌, [], map, take, drop}
use Rattle.std.specs.List.{flat_map}
use Rattle.mz_tree.specs.Trees.{next_declareds_of}
use Rattle.mz_tree.specs.Views.{piece_of, prefix_of, before_of, next_term_of, adjective_of, declared_of, next_declared_of, next_conjunction_of, next_unit_of}
use Rattle.mz_free.specs.Occurring.{in_piece, in_prefix, in_before, in_next_term, in_adjective, in_declared, in_next_declared, in_next_conjunction, in_next_unit}
use Rattle.mz_free.proofs.occurrences.+occurring.Given as goal

abbrev pub invariant-put_term-loop-piece : goal.invariant-put_term-loop-piece
invariant-put_term-loop-piece l = l.out ≡ l.initial.out ++ flat_map in_piece (map piece_of (take l.piece-index l.piece-items))

abbrev pub invariant-put_operand-loop-prefix : goal.invariant-put_operand-loop-prefix
invariant-put_operand-loop-prefix l = l.out ≡ l.initial.out ++ flat_map in_prefix (map prefix_of (take l.prefix-index l.prefix-items))

abbrev pub invariant-put_terms-loop-next : goal.invariant-put_terms-loop-next
invariant-put_terms-loop-next l = l.out ≡ l.initial.out ++ flat_map in_next_term (map next_term_of (take l.next-index l.next-items))

abbrev pub invariant-put_adjectives-loop-adjective : goal.invariant-put_adjectives-loop-adjective
invariant-put_adjectives-loop-adjective l = l.out ≡ l.initial.out ++ flat_map in_adjective (map adjective_of (take l.adjective-index l.nodes))

abbrev pub invariant-put_disjunction-loop-next : goal.invariant-put_disjunction-loop-next
invariant-put_disjunction-loop-next l = l.out ≡ l.initial.out ++ flat_map in_next_conjunction (map next_conjunction_of (take l.next-index l.next-items))

abbrev pub invariant-put_conjunction-loop-next : goal.invariant-put_conjunction-loop-next
invariant-put_conjunction-loop-next l = l.out ≡ l.initial.out ++ flat_map in_next_unit (map next_unit_of (take l.next-index l.next-items))

abbrev pub invariant-put_befores-loop-before : goal.invariant-put_befores-loop-before
invariant-put_befores-loop-before l = l.out ≡ l.initial.out ++ flat_map in_before (map before_of (take l.before-index l.nodes))

abbrev pub invariant-put_declarations-loop-next : goal.invariant-put_declarations-loop-next
invariant-put_declarations-loop-next l = l.fn.out ++ in_declared [] [] (declared_of l.node.first) (next_declareds_of (map next_declared_of l.node.more.items)) ≡ l.out ++ in_next_declared l.bound l.waiting (next_declareds_of (map next_declared_of (drop l.next-index l.next-items)))
