use Rattle.std.proofs.Common.{rules}
use Rattle.std.proofs.lemmas.Result.{err_from_is_err_and}
use Rattle.mz_pjustification.specs.declared.keyword.Keyword.TheVariants as keywords
use Rattle.mz_pproof.specs.Classes.{KeyComes}
use Rattle.mz_pproof.proofs.Stated.{equalities_none, equalities_step, equality_refused, equalities_end, shorter_equality}
use Rattle.mz_pproof.proofs.reasonings.equality_steps.Goals as goal

pub list-init : goal.list-init
list-init c = equalities_none c.args.room _ _ c.new-items.ensures.items

pub list-preserved : goal.list-preserved
list-preserved c =
    let on : KeyComes keywords.Link c.list.reader.rest.now = search rules in
    equalities_step c.args.room _ _ _ _ _ _ c.list.invariant on c.in_ok-tree.ensures c.in_ok-push.ensures.items

pub list-smaller : goal.list-smaller
list-smaller c = shorter_equality c.args.room _ _ _ c.in_ok-tree.ensures

pub returns-in_err-tree : goal.returns-in_err-tree
returns-in_err-tree c =
    let p = err_from_is_err_and c.from_residual.result c.from_residual.ensures.1 in
    let on : KeyComes keywords.Link c.list.reader.rest.now = search rules in
    rw (p.1, p.2) (equality_refused c.args.room _ _ _ _ _ c.list.invariant on c.in_err-tree.ensures)

pub returns : goal.returns
returns c =
    let off : KeyComes keywords.Link c.list.reader.rest.now → ⊥ = search rules in
    equalities_end c.args.room _ _ _ c.list.invariant off
