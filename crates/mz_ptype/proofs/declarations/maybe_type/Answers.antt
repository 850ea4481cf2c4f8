use Rattle.std.proofs.lemmas.Result.{err_from_is_err_and}
use Rattle.mz_ptype.proofs.DeclarationSteps.{typed_refused, typed_found, type_lacks}
use Rattle.mz_ptype.proofs.declarations.maybe_type.Goals as goal

pub returns-in_default : goal.returns-in_default
returns-in_default c =
    let none = rw c.in_default.is at c.takes_being.ensures in
    type_lacks c.args.field c.args.room _ _ none

pub returns-in_err-tree : goal.returns-in_err-tree
returns-in_err-tree c =
    let p = err_from_is_err_and c.from_residual.result c.from_residual.ensures.1 in
    let taken = rw c.in-Some.is at c.takes_being.ensures in
    rw (p.1, p.2) (typed_refused c.args.field c.args.room _ _ _ _ _ taken c.in_err-tree.ensures)

pub returns : goal.returns
returns c =
    let taken = rw c.in-Some.is at c.takes_being.ensures in
    typed_found c.args.field c.args.room _ _ _ _ _ taken c.in_ok-tree.ensures
