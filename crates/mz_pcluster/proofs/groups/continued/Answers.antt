use Rattle.std.proofs.Common.{ap, ◌∙◌}
use Rattle.std.proofs.lemmas.Result.{err_from_is_err_and}
use Rattle.mz_tree.specs.Trees.{OperandPiece}
use Rattle.mz_tree.specs.Rules.{last_of, start}
use Rattle.mz_tree.proofs.Views.{piece_of-operand}
use Rattle.mz_patom.proofs.Groups.{group_operand}
use Rattle.mz_pterm.specs.Forms.{bracketed_of}
use Rattle.mz_pcluster.proofs.GroupSteps.{continued_refused, assigned_refused, continued_given}
use Rattle.mz_pcluster.proofs.groups.continued.Goals as goal

pub returns-in_err-node : goal.returns-in_err-node
returns-in_err-node c =
    let p = err_from_is_err_and c.from_residual-in_err-node.result c.from_residual-in_err-node.ensures.1 in
    let seen = group_operand _ c.args.inside.open c.args.inside.terms c.args.inside.close c.in_ok-base.ensures.ok c.new-prefixes.ensures.items in
    let last = c.after-last.ensures ∙ ap (λ z. last_of start z.base) seen in
    rw (p.1, p.2) (continued_refused (bracketed_of c.args.inside) c.args.room _ _ _ _ last c.in_err-node.ensures)

pub returns-in_err-assigned : goal.returns-in_err-assigned
returns-in_err-assigned c =
    let p = err_from_is_err_and c.from_residual-in_err-assigned.result c.from_residual-in_err-assigned.ensures.1 in
    let seen = group_operand _ c.args.inside.open c.args.inside.terms c.args.inside.close c.in_ok-base.ensures.ok c.new-prefixes.ensures.items in
    let last = c.after-last.ensures ∙ ap (λ z. last_of start z.base) seen in
    let piece = piece_of-operand _ ∙ ap (λ z. OperandPiece z.prefixes z.base) seen in
    rw (p.1, p.2) (assigned_refused (bracketed_of c.args.inside) c.args.room _ _ _ _ _ _ _ last piece c.in_ok-node.ensures c.in_err-assigned.ensures)

pub returns : goal.returns
returns c =
    let seen = group_operand _ c.args.inside.open c.args.inside.terms c.args.inside.close c.in_ok-base.ensures.ok c.new-prefixes.ensures.items in
    let last = c.after-last.ensures ∙ ap (λ z. last_of start z.base) seen in
    let piece = piece_of-operand _ ∙ ap (λ z. OperandPiece z.prefixes z.base) seen in
    rw c.from_node.ensures (continued_given (bracketed_of c.args.inside) c.args.room _ _ _ _ _ _ _ last piece c.in_ok-node.ensures c.in_ok-assigned.ensures)
