use Rattle.std.proofs.Common.{◌≡◌, ap, ◌∙◌}
use Rattle.std.proofs.lemmas.Result.{err_from_is_err_and}
use Rattle.mz_tree.specs.Trees.{GroupBase, OperandPiece, no_prefixs}
use Rattle.mz_tree.specs.Rules.{start, last_of}
use Rattle.mz_tree.specs.Views.{operand_of, piece_of, terms_of}
use Rattle.mz_tree.proofs.Views.{piece_of-operand}
use Rattle.mz_pterm.specs.Forms.{last_seen}
use Rattle.mz_patom.proofs.Groups.{group_operand, term_refuses, terms_refuse, group_from}
use Rattle.mz_patom.proofs.atoms.behind_group.Goals as goal

pub returns-in_err-term : goal.returns-in_err-term
returns-in_err-term c =
    let p = err_from_is_err_and c.from_residual-in_err-term.result c.from_residual-in_err-term.ensures.1 in
    let seen = group_operand _ c.args.opens c.args.group c.args.closes c.in_ok-base.ensures.ok c.new-prefixes.ensures.items in
    let last = c.after-last.ensures ∙ ap (λ z. last_of start z.base) seen in
    rw (p.1, p.2) (term_refuses c.args.field c.args.opens (terms_of c.args.group) c.args.closes c.args.room _ _ _ _ last c.in_err-term.ensures)

pub returns-in_err-terms : goal.returns-in_err-terms
returns-in_err-terms c =
    let p = err_from_is_err_and c.from_residual-in_err-terms.result c.from_residual-in_err-terms.ensures.1 in
    let seen = group_operand _ c.args.opens c.args.group c.args.closes c.in_ok-base.ensures.ok c.new-prefixes.ensures.items in
    let last = c.after-last.ensures ∙ ap (λ z. last_of start z.base) seen in
    let piece = piece_of-operand _ ∙ ap (λ z. OperandPiece z.prefixes z.base) seen in
    rw (p.1, p.2) (terms_refuse c.args.field c.args.opens (terms_of c.args.group) c.args.closes c.args.room _ _ last _ piece _ _ c.in_ok-term.ensures _ _ c.in_err-terms.ensures)

pub returns : goal.returns
returns c =
    let seen = group_operand _ c.args.opens c.args.group c.args.closes c.in_ok-base.ensures.ok c.new-prefixes.ensures.items in
    let last = c.after-last.ensures ∙ ap (λ z. last_of start z.base) seen in
    let piece = piece_of-operand _ ∙ ap (λ z. OperandPiece z.prefixes z.base) seen in
    group_from c.args.field c.args.opens (terms_of c.args.group) c.args.closes c.args.room _ _ last _ piece _ _ c.in_ok-term.ensures _ _ c.in_ok-terms.ensures _ _ c.tail.ensures
