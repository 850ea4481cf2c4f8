use Rattle.std.proofs.Common.{map, ap, ◌∙◌, arith, rules}
use Rattle.mz_tree.specs.Views.{base_of, unit_of, piece_of, prefix_of, next_term_of, next_declared_of, next_conjunction_of, next_unit_of}
use Rattle.mz_tree.proofs.Views.{ap2, taken, term_same, operand_same, conjunction_same, quantified_rules, base_rules}
use Rattle.mz_tree.specs.Trees.{ListTerms, ChainDisjunction, next_terms_of, next_conjunctions_of}
use Rattle.mz_expression_copies.proofs.nodes.+copy.Goals as goal

pub copy_term-returns : goal.copy_term-returns
copy_term-returns t c = term_same _ c.args.term.now c.in_ok-first.ensures (c.loop-piece.invariant ∙ ap (map piece_of) (taken _ _ _ c.deref-piece-items.ensures.value (omega (arith, c.loop-piece-test.false))))

pub copy_operand-returns : goal.copy_operand-returns
copy_operand-returns t c = operand_same _ c.args.operand.now (c.loop-prefix.invariant ∙ ap (map prefix_of) (taken _ _ _ c.deref-prefix-items.ensures.value (omega (arith, c.loop-prefix-test.false)))) (c.in_ok-base.ensures ∙ ap base_of c.deref.ensures)

pub copy_conjunction-returns : goal.copy_conjunction-returns
copy_conjunction-returns t c = conjunction_same _ c.args.conjunction.now (c.in_ok-first.ensures ∙ ap unit_of c.deref-2.ensures) (c.loop-next.invariant ∙ ap (map next_unit_of) (taken _ _ c.loop-next.next-index c.deref-next-items.ensures.value (omega (arith, c.loop-next-test.false))))

pub copy_terms-returns : goal.copy_terms-returns
copy_terms-returns t c = ap2 (λ u ts. ListTerms u (next_terms_of ts)) c.in_ok-first.ensures (c.loop-next.invariant ∙ ap (map next_term_of) (taken _ _ _ c.deref-next-items.ensures.value (omega (arith, c.loop-next-test.false))))

pub copy_disjunction-returns : goal.copy_disjunction-returns
copy_disjunction-returns t c = ap2 (λ u ts. ChainDisjunction u (next_conjunctions_of ts)) c.in_ok-first.ensures (c.loop-next.invariant ∙ ap (map next_conjunction_of) (taken _ _ _ c.deref-next-items.ensures.value (omega (arith, c.loop-next-test.false))))

pub copy_declarations-returns : goal.copy_declarations-returns
copy_declarations-returns t c = (c.in_ok-first.ensures, c.loop-next.invariant ∙ ap (map next_declared_of) (taken _ _ _ c.deref-next-items.ensures.value (omega (arith, c.loop-next-test.false))))

pub copy_base-returns-in_ok-h-in-SetOf :
    goal.copy_base-returns-in_ok-h-in-SetOf
copy_base-returns-in_ok-h-in-SetOf t c = rw (c.in-SetOf.is) (search (rules, base_rules))

pub copy_quantified-returns-in_ok-d-in-For :
    goal.copy_quantified-returns-in_ok-d-in-For
copy_quantified-returns-in_ok-d-in-For t c = rw (c.in-For.is) (search (rules, quantified_rules))

pub copy_quantified-returns-in_ok-f-in-ForSuch :
    goal.copy_quantified-returns-in_ok-f-in-ForSuch
copy_quantified-returns-in_ok-f-in-ForSuch t c = rw (c.in-ForSuch.is) (search (rules, quantified_rules))

pub copy_quantified-returns-in_ok-c-in-ForFurther :
    goal.copy_quantified-returns-in_ok-c-in-ForFurther
copy_quantified-returns-in_ok-c-in-ForFurther t c = rw (c.in-ForFurther.is) (search (rules, quantified_rules))

pub copy_quantified-returns-in_ok-e-in-ForSuchFurther :
    goal.copy_quantified-returns-in_ok-e-in-ForSuchFurther
copy_quantified-returns-in_ok-e-in-ForSuchFurther t c = rw (c.in-ForSuchFurther.is) (search (rules, quantified_rules))

pub copy_quantified-returns-in_ok-d-in-Exists :
    goal.copy_quantified-returns-in_ok-d-in-Exists
copy_quantified-returns-in_ok-d-in-Exists t c = rw (c.in-Exists.is) (search (rules, quantified_rules))
