use Rattle.std.proofs.lemmas.Result.{err_from_is_err_and}
use Rattle.mz_ppart.proofs.PartSequences.{synonym_refused_1, synonym_refused_2, synonym_refused_3, synonym_found}
use Rattle.mz_ppart.proofs.notations.synonym.Goals as goal

pub returns-in_err-word : goal.returns-in_err-word
returns-in_err-word c =
    let p = err_from_is_err_and c.from_residual.result c.from_residual.ensures.1 in
    rw (p.1, p.2) (synonym_refused_1 c.args.room _ _ _ (c.in_err-word.ensures c.args.room))

pub returns-in_err-first : goal.returns-in_err-first
returns-in_err-first c =
    let p = err_from_is_err_and c.from_residual-in_err-first.result c.from_residual-in_err-first.ensures.1 in
    rw (p.1, p.2) (synonym_refused_2 c.args.room _ _ _ (c.in_ok-word.ensures c.args.room) _ _ c.in_err-first.ensures)

pub returns-in_err-for_ : goal.returns-in_err-for_
returns-in_err-for_ c =
    let p = err_from_is_err_and c.from_residual-in_err-for_.result c.from_residual-in_err-for_.ensures.1 in
    rw (p.1, p.2) (synonym_refused_3 c.args.room _ _ _ (c.in_ok-word.ensures c.args.room) _ _ c.in_ok-first.ensures _ _ c.in_err-for_.ensures)

pub returns : goal.returns
returns c = synonym_found c.args.room _ _ _ (c.in_ok-word.ensures c.args.room) _ _ c.in_ok-first.ensures _ _ c.in_ok-for_.ensures
