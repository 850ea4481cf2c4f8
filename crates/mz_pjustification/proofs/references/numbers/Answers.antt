use Rattle.std.proofs.Common.{rules, arith, ◌≡◌, refl, sym, ◌∙◌, true, false}
use Rattle.std.proofs.lemmas.Result.{err_from_is_err_and}
use Rattle.mz_pjustification.proofs.ReferenceSteps.{numbers_none, numbers_step, numbers_refused, numbers_to_references, numbers_end, shorter_number, within_number, within_comma}
use Rattle.mz_pjustification.proofs.references.numbers.Goals as goal

pub more-init : goal.more-init
more-init c = (λ room. numbers_none room _ _ c.new-more.ensures.items, refl, omega arith)

pub more-preserved : goal.more-preserved
more-preserved c =
    let taken = rw c.in-Some.is at c.takes_comma.ensures in
    let r : c.number_comes.result ≡ true = search rules in
    let on = sym c.number_comes.ensures ∙ r in
    (λ room. numbers_step room _ _ _ _ _ _ _ _ (c.more.invariant.0 room) taken on (c.in_ok-tree.ensures room) c.in_ok-push.ensures.items, c.more.invariant.1, within_number _ _ _ _ _ _ c.more.invariant.2 taken (c.in_ok-tree.ensures 0))

pub more-smaller : goal.more-smaller
more-smaller c =
    let taken = rw c.in-Some.is at c.takes_comma.ensures in
    shorter_number _ _ _ _ _ taken (c.in_ok-tree.ensures 0)

pub returns-then-not-number_comes-clause-reads : goal.returns-then-not-number_comes-clause-reads
returns-then-not-number_comes-clause-reads c = λ room.
    let taken = rw c.in-Some.is at c.takes_comma.ensures in
    let r : c.number_comes.result ≡ false = search rules in
    let off = sym c.number_comes.ensures ∙ r in
    (c.more.invariant.1, numbers_to_references room _ _ _ _ _ (c.more.invariant.0 room) taken off)

pub returns-then-not-number_comes-clause-shorter : goal.returns-then-not-number_comes-clause-shorter
returns-then-not-number_comes-clause-shorter c = within_comma _ _ _ _ c.more.invariant.2 c.takes_comma.ensures

pub returns-in_err-tree-clause-reads : goal.returns-in_err-tree-clause-reads
returns-in_err-tree-clause-reads c = λ room.
    let p = err_from_is_err_and c.from_residual.result c.from_residual.ensures.1 in
    let taken = rw c.in-Some.is at c.takes_comma.ensures in
    let r : c.number_comes.result ≡ true = search rules in
    let on = sym c.number_comes.ensures ∙ r in
    rw (p.1, p.2) (numbers_refused room _ _ _ _ _ _ _ (c.more.invariant.0 room) taken on (c.in_err-tree.ensures room))

pub returns-clause-reads : goal.returns-clause-reads
returns-clause-reads c = λ room.
    let none = rw c.in_default.is at c.takes_comma.ensures in
    (c.more.invariant.1, numbers_end room _ _ _ _ (c.more.invariant.0 room) none)

pub returns-clause-shorter : goal.returns-clause-shorter
returns-clause-shorter c = within_comma _ _ _ _ c.more.invariant.2 c.takes_comma.ensures
