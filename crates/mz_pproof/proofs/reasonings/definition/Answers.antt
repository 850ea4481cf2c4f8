use Rattle.std.proofs.Common.{rules}
use Rattle.std.proofs.lemmas.Result.{err_from_is_err_and}
use Rattle.mz_forms.proofs.Leads.{passes}
use Rattle.mz_pjustification.specs.declared.keyword.Keyword.TheVariants as keywords
use Rattle.mz_pstep.specs.Forms.{deffunc_form, defpred_form, set_statement_form}
use Rattle.mz_pproof.specs.Classes.{KeyComes}
use Rattle.mz_pproof.specs.Forms.{statement_form}
use Rattle.mz_pproof.proofs.Statements.{begin_deffunc, begin_defpred, begin_set, set_left}
use Rattle.mz_pproof.proofs.reasonings.definition.Goals as goal

pub returns-in_err-tree : goal.returns-in_err-tree
returns-in_err-tree c =
    let p = err_from_is_err_and c.from_residual.result c.from_residual.ensures.1 in
    let on : KeyComes keywords.Deffunc c.args.reader.now.rest.now = search rules in
    rw (p.1, p.2) (passes statement_form deffunc_form c.args.room _ _ _ _ _ (begin_deffunc c.args.room _ on) c.in_err-tree.ensures)

pub returns-then-key_comes : goal.returns-then-key_comes
returns-then-key_comes c =
    let on : KeyComes keywords.Deffunc c.args.reader.now.rest.now = search rules in
    (begin_deffunc c.args.room _ on).finds _ _ c.in_ok-tree.ensures

pub returns-in_err-tree-2 : goal.returns-in_err-tree-2
returns-in_err-tree-2 c =
    let p = err_from_is_err_and c.from_residual-in_err-tree-2.result c.from_residual-in_err-tree-2.ensures.1 in
    let on : KeyComes keywords.Defpred c.args.reader.now.rest.now = search rules in
    rw (p.1, p.2) (passes statement_form defpred_form c.args.room _ _ _ _ _ (begin_defpred c.args.room _ on) c.in_err-tree-2.ensures)

pub returns-then-key_comes-2 : goal.returns-then-key_comes-2
returns-then-key_comes-2 c =
    let on : KeyComes keywords.Defpred c.args.reader.now.rest.now = search rules in
    (begin_defpred c.args.room _ on).finds _ _ c.in_ok-tree-2.ensures

pub returns-in_err-tree-3 : goal.returns-in_err-tree-3
returns-in_err-tree-3 c =
    let p = err_from_is_err_and c.from_residual-in_err-tree-3.result c.from_residual-in_err-tree-3.ensures.1 in
    let off_1 : KeyComes keywords.Deffunc c.args.reader.now.rest.now → ⊥ = search rules in
    let off_2 : KeyComes keywords.Defpred c.args.reader.now.rest.now → ⊥ = search rules in
    let on = set_left _ c.requires off_1 off_2 in
    rw (p.1, p.2) (passes statement_form set_statement_form c.args.room _ _ _ _ _ (begin_set c.args.room _ on) c.in_err-tree-3.ensures)

pub returns : goal.returns
returns c =
    let off_1 : KeyComes keywords.Deffunc c.args.reader.now.rest.now → ⊥ = search rules in
    let off_2 : KeyComes keywords.Defpred c.args.reader.now.rest.now → ⊥ = search rules in
    let on = set_left _ c.requires off_1 off_2 in
    (begin_set c.args.room _ on).finds _ _ c.in_ok-tree-3.ensures
