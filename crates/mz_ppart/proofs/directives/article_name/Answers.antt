use Rattle.std.proofs.Common.{rules, ◌≡◌, true, false}
use Rattle.std.proofs.lemmas.Result.{err_from_is_err_and}
use Rattle.mz_ppattern.specs.Optional.{next_has}
use Rattle.mz_ppart.specs.Classes.{spells_name}
use Rattle.mz_ppart.proofs.DirectiveSteps.{article_missed, article_unnamed, article_read}
use Rattle.mz_ppart.proofs.directives.article_name.Goals as goal

pub returns-then-not-name_comes : goal.returns-then-not-name_comes
returns-then-not-name_comes c = λ room.
    let off : next_has spells_name c.args.reader.now.rest.now ≡ false = search rules in
    article_missed room _ off

pub returns-in_err-name : goal.returns-in_err-name
returns-in_err-name c = λ room.
    let p = err_from_is_err_and c.from_residual.result c.from_residual.ensures.1 in
    rw (p.1, p.2) (article_unnamed room _ _ _ c.in_err-name.ensures)

pub returns : goal.returns
returns c = λ room.
    let on : next_has spells_name c.args.reader.now.rest.now ≡ true = search rules in
    article_read room _ _ _ on c.in_ok-name.ensures
