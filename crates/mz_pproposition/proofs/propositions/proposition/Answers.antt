use Rattle.std.proofs.Common.{rules, ◌≡◌, true, false}
use Rattle.std.proofs.lemmas.Result.{err_from_is_err_and}
use Rattle.mz_pproposition.specs.Forms.{label_next}
use Rattle.mz_pproposition.proofs.PropositionSteps.{labelled_unread, labelled_refused, labelled_found, plain_refused, plain_found}
use Rattle.mz_pproposition.proofs.propositions.proposition.Goals as goal

pub returns-in_err-label : goal.returns-in_err-label
returns-in_err-label c =
    let p = err_from_is_err_and c.from_residual.result c.from_residual.ensures.1 in
    let on : label_next c.args.reader.now.rest.now ≡ true = search rules in
    rw (p.1, p.2) (labelled_unread c.args.room _ _ _ on (c.in_err-label.ensures _))

pub returns-in_err-node : goal.returns-in_err-node
returns-in_err-node c =
    let p = err_from_is_err_and c.from_residual-in_err-node.result c.from_residual-in_err-node.ensures.1 in
    let on : label_next c.args.reader.now.rest.now ≡ true = search rules in
    rw (p.1, p.2) (labelled_refused c.args.room _ _ _ _ _ on (c.in_ok-label.ensures _) c.in_err-node.ensures)

pub returns-then-label_comes : goal.returns-then-label_comes
returns-then-label_comes c =
    let on : label_next c.args.reader.now.rest.now ≡ true = search rules in
    rw c.from_node.ensures (labelled_found c.args.room _ _ _ _ _ on (c.in_ok-label.ensures _) c.in_ok-node.ensures.0)

pub returns-in_err-node-2 : goal.returns-in_err-node-2
returns-in_err-node-2 c =
    let p = err_from_is_err_and c.from_residual-in_err-node-2.result c.from_residual-in_err-node-2.ensures.1 in
    let off : label_next c.args.reader.now.rest.now ≡ false = search rules in
    rw (p.1, p.2) (plain_refused c.args.room _ _ _ off c.in_err-node-2.ensures)

pub returns : goal.returns
returns c =
    let off : label_next c.args.reader.now.rest.now ≡ false = search rules in
    rw c.from_node-2.ensures (plain_found c.args.room _ _ _ off c.in_ok-node-2.ensures.0)
