use Rattle.std.proofs.Common.{false, ap, map}
use Rattle.std.proofs.lemmas.Result.{err_from_is_err_and}
use Rattle.mz_tree.specs.Views.{adjective_of}
use Rattle.mz_ptype.specs.Forms.{radix_form}
use Rattle.mz_pcluster.specs.Forms.{bare_type_form}
use Rattle.mz_pcluster.proofs.Joined.{shaped_refused}
use Rattle.mz_pcluster.proofs.PartSteps.{make_bare, as_bare, bare_given}
use Rattle.mz_pcluster.proofs.parts.bare_type.Goals as goal

pub returns-in_err-node : goal.returns-in_err-node
returns-in_err-node c =
    let p = err_from_is_err_and c.from_residual.result c.from_residual.ensures.1 in
    rw (p.1, p.2) (shaped_refused bare_type_form (radix_form false) make_bare c.args.room _ (as_bare _) _ _ c.in_err-node.ensures)

pub returns : goal.returns
returns c =
    let none = ap (λ z. map adjective_of z) c.new-adjectives.ensures.items in
    rw c.from_node.ensures (bare_given c.args.room _ _ _ _ none c.in_ok-node.ensures)
