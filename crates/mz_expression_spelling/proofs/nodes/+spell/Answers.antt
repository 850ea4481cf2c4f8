use Rattle.std.proofs.Common.{◌≡◌, take, rules, arith}
use Rattle.mz_expression_spelling.proofs.SpellLemmas.{spell_rules}
use Rattle.mz_tree.proofs.Views.{taken, quantified_rules, base_rules, unit_rules}
use Rattle.mz_expression_spelling.proofs.nodes.+spell.Goals as goal

pub spell_term_node-returns : goal.spell_term_node-returns
spell_term_node-returns t c =
    let all : take c.loop-piece.piece-index c.deref-piece-items.result.now ≡ c.args.term.now.more.items = taken _ _ _ c.deref-piece-items.ensures.value (omega (arith, c.loop-piece-test.false)) in
    rw (c.loop-piece.invariant, c.in_ok-spell_piece_node.ensures, all) (search (rules, spell_rules))

pub spell_conjunction_node-returns : goal.spell_conjunction_node-returns
spell_conjunction_node-returns t c =
    let all : take c.loop-next.next-index c.deref-next-items.result.now ≡ c.args.conjunction.now.more.items = taken _ _ _ c.deref-next-items.ensures.value (omega (arith, c.loop-next-test.false)) in
    rw (c.loop-next.invariant, c.in_ok-spell_unit_node.ensures, all) (search (rules, spell_rules))

pub spell_terms_node-returns : goal.spell_terms_node-returns
spell_terms_node-returns t c =
    let all : take c.loop-next.next-index c.deref-next-items.result.now ≡ c.args.terms.now.more.items = taken _ _ _ c.deref-next-items.ensures.value (omega (arith, c.loop-next-test.false)) in
    rw (c.loop-next.invariant, c.in_ok-spell_term_node.ensures, all) (search (rules, spell_rules))

pub spell_disjunction_node-returns : goal.spell_disjunction_node-returns
spell_disjunction_node-returns t c =
    let all : take c.loop-next.next-index c.deref-next-items.result.now ≡ c.args.disjunction.now.more.items = taken _ _ _ c.deref-next-items.ensures.value (omega (arith, c.loop-next-test.false)) in
    rw (c.loop-next.invariant, c.in_ok-spell_conjunction_node.ensures, all) (search (rules, spell_rules))

pub spell_declarations_node-returns : goal.spell_declarations_node-returns
spell_declarations_node-returns t c =
    let all : take c.loop-next.next-index c.deref-next-items.result.now ≡ c.args.declarations.now.more.items = taken _ _ _ c.deref-next-items.ensures.value (omega (arith, c.loop-next-test.false)) in
    rw (c.loop-next.invariant, c.in_ok-spell_declared_node.ensures, all) (search (rules, spell_rules))

pub spell_operand_node-returns : goal.spell_operand_node-returns
spell_operand_node-returns t c =
    let all : take c.loop-prefix.prefix-index c.deref-prefix-items.result.now ≡ c.args.operand.now.prefixes.items = taken _ _ _ c.deref-prefix-items.ensures.value (omega (arith, c.loop-prefix-test.false)) in
    search (rules, spell_rules, all)

pub spell_base_node-returns-in_ok-spell_type_node-in-SetOf :
    goal.spell_base_node-returns-in_ok-spell_type_node-in-SetOf
spell_base_node-returns-in_ok-spell_type_node-in-SetOf t c = rw (c.in-SetOf.is) (search (rules, base_rules, spell_rules))

pub spell_quantified_node-returns-in_ok-emit_reserved-in-For-2 :
    goal.spell_quantified_node-returns-in_ok-emit_reserved-in-For-2
spell_quantified_node-returns-in_ok-emit_reserved-in-For-2 t c = rw (c.in-For.is) (search (rules, quantified_rules, spell_rules))

pub spell_quantified_node-returns-in_ok-emit_reserved-in-ForSuch-3 :
    goal.spell_quantified_node-returns-in_ok-emit_reserved-in-ForSuch-3
spell_quantified_node-returns-in_ok-emit_reserved-in-ForSuch-3 t c = rw (c.in-ForSuch.is) (search (rules, quantified_rules, spell_rules))

pub spell_quantified_node-returns-in_ok-spell_declarations_node-in-ForFurther :
    goal.spell_quantified_node-returns-in_ok-spell_declarations_node-in-ForFurther
spell_quantified_node-returns-in_ok-spell_declarations_node-in-ForFurther t c = rw (c.in-ForFurther.is) (search (rules, quantified_rules, spell_rules))

pub spell_quantified_node-returns-in_ok-spell_formula_node-in-ForSuchFurther :
    goal.spell_quantified_node-returns-in_ok-spell_formula_node-in-ForSuchFurther
spell_quantified_node-returns-in_ok-spell_formula_node-in-ForSuchFurther t c = rw (c.in-ForSuchFurther.is) (search (rules, quantified_rules, spell_rules))

pub spell_quantified_node-returns-in_ok-emit_reserved-in-Exists-2 :
    goal.spell_quantified_node-returns-in_ok-emit_reserved-in-Exists-2
spell_quantified_node-returns-in_ok-emit_reserved-in-Exists-2 t c = rw (c.in-Exists.is) (search (rules, quantified_rules, spell_rules))

pub spell_unit_node-returns-in-Contradiction :
    goal.spell_unit_node-returns-in-Contradiction
spell_unit_node-returns-in-Contradiction t c = rw (c.in-Contradiction.is) (search (rules, unit_rules, spell_rules))
