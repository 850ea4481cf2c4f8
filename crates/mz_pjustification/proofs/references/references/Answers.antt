use Rattle.std.proofs.lemmas.Result.{err_from_is_err_and}
use Rattle.mz_pjustification.proofs.ReferenceSteps.{references_step, references_refused}
use Rattle.mz_pjustification.proofs.references.references.Goals as goal

pub returns-in_err-tree : goal.returns-in_err-tree
returns-in_err-tree c = λ room.
    let p = err_from_is_err_and c.from_residual-in_err-tree.result c.from_residual-in_err-tree.ensures.1 in
    let so_far = rw c.in-Some.is at c.more.invariant in
    rw (p.1, p.2) (references_refused room _ _ _ _ _ _ _ (so_far room) (c.in_err-tree.ensures.reads room))

pub more-preserved : goal.more-preserved
more-preserved c = λ room.
    let so_far = rw c.in-Some.is at c.more.invariant in
    references_step room _ _ _ _ _ _ _ _ _ (so_far room) (c.in_ok-tree.ensures.reads room) c.in_ok-push.ensures.items

pub returns : goal.returns
returns c = λ room. let so_far = rw c.in_default.is at c.more.invariant in so_far room
