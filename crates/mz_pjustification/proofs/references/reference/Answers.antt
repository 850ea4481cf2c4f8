use Rattle.std.proofs.lemmas.Result.{err_from_is_err_and}
use Rattle.mz_pjustification.proofs.ReferenceSteps.{unbegun, label_read, numbered_refused, numbered_read, shorter_label, shorter_numbers}
use Rattle.mz_pjustification.proofs.references.reference.Goals as goal

pub returns-in_err-article-clause-reads : goal.returns-in_err-article-clause-reads
returns-in_err-article-clause-reads c = λ room.
    let p = err_from_is_err_and c.from_residual.result c.from_residual.ensures.1 in
    rw (p.1, p.2) (unbegun room _ _ _ (c.in_err-article.ensures room))

pub returns-in_default-clause-reads : goal.returns-in_default-clause-reads
returns-in_default-clause-reads c = λ room.
    let h = rw c.in_default.is at c.in_ok-article.ensures in
    label_read room _ _ _ _ _ (h room) c.takes_comma-comma.ensures

pub returns-in_default-clause-shorter : goal.returns-in_default-clause-shorter
returns-in_default-clause-shorter c = shorter_label _ _ _ _ _ (c.in_ok-article.ensures 0) c.takes_comma-comma.ensures

pub returns-in_err-numbers-clause-reads : goal.returns-in_err-numbers-clause-reads
returns-in_err-numbers-clause-reads c = λ room.
    let p = err_from_is_err_and c.from_residual-in_err-numbers.result c.from_residual-in_err-numbers.ensures.1 in
    let h = rw c.in-Some.is at c.in_ok-article.ensures in
    rw (p.1, p.2) (numbered_refused room _ _ _ _ _ _ _ (h room) (c.in_err-numbers.ensures.reads room))

pub returns-clause-reads : goal.returns-clause-reads
returns-clause-reads c = λ room.
    let h = rw c.in-Some.is at c.in_ok-article.ensures in
    let read = c.in_ok-numbers.ensures.reads room in
    numbered_read room _ _ _ _ _ _ _ _ (h room) read.0 read.1

pub returns-clause-shorter : goal.returns-clause-shorter
returns-clause-shorter c = shorter_numbers _ _ _ _ (c.in_ok-article.ensures 0) c.in_ok-numbers.ensures.shorter
