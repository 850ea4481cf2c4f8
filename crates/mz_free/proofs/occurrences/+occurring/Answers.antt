use Rattle.std.proofs.Common.{◌≡◌, take, rules, arith}
use Rattle.mz_free.proofs.OccurringLemmas.{list_rules}
use Rattle.mz_tree.proofs.Views.{taken, base_rules, quantified_rules}
use Rattle.mz_free.proofs.occurrences.+occurring.Goals as goal

pub put_term-returns : goal.put_term-returns
put_term-returns t c =
    let all : take c.loop-piece.piece-index c.deref-piece-items.result.now ≡ c.args.node.now.more.items = taken _ _ _ c.deref-piece-items.ensures.value (omega (arith, c.loop-piece-test.false)) in
    rw (c.loop-piece.invariant, c.in_ok-put_piece.ensures, all) (search (rules, list_rules))

pub put_conjunction-returns : goal.put_conjunction-returns
put_conjunction-returns t c =
    let all : take c.loop-next.next-index c.deref-next-items.result.now ≡ c.args.node.now.more.items = taken _ _ _ c.deref-next-items.ensures.value (omega (arith, c.loop-next-test.false)) in
    rw (c.loop-next.invariant, c.in_ok-put_unit.ensures, all) (search (rules, list_rules))

pub put_terms-returns : goal.put_terms-returns
put_terms-returns t c =
    let all : take c.loop-next.next-index c.deref-next-items.result.now ≡ c.args.node.now.more.items = taken _ _ _ c.deref-next-items.ensures.value (omega (arith, c.loop-next-test.false)) in
    rw (c.loop-next.invariant, c.in_ok-put_term.ensures, all) (search (rules, list_rules))

pub put_disjunction-returns : goal.put_disjunction-returns
put_disjunction-returns t c =
    let all : take c.loop-next.next-index c.deref-next-items.result.now ≡ c.args.node.now.more.items = taken _ _ _ c.deref-next-items.ensures.value (omega (arith, c.loop-next-test.false)) in
    rw (c.loop-next.invariant, c.in_ok-put_conjunction.ensures, all) (search (rules, list_rules))

pub put_operand-returns : goal.put_operand-returns
put_operand-returns t c =
    let all : take c.loop-prefix.prefix-index c.deref-prefix-items.result.now ≡ c.args.node.now.prefixes.items = taken _ _ _ c.deref-prefix-items.ensures.value (omega (arith, c.loop-prefix-test.false)) in
    search (rules, list_rules, all)

pub put_base-returns-in_ok-put_formula-in-SetOf : goal.put_base-returns-in_ok-put_formula-in-SetOf
put_base-returns-in_ok-put_formula-in-SetOf t c = rw (c.in-SetOf.is) (search (rules, base_rules, list_rules))

pub put_quantified-returns-in_ok-put_formula-in-ForSuch-2 :
    goal.put_quantified-returns-in_ok-put_formula-in-ForSuch-2
put_quantified-returns-in_ok-put_formula-in-ForSuch-2 t c = rw (c.in-ForSuch.is) (search (rules, quantified_rules, list_rules))

pub put_quantified-returns-in_ok-put_quantified-in-ForSuchFurther :
    goal.put_quantified-returns-in_ok-put_quantified-in-ForSuchFurther
put_quantified-returns-in_ok-put_quantified-in-ForSuchFurther t c = rw (c.in-ForSuchFurther.is) (search (rules, quantified_rules, list_rules))
