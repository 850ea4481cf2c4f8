use Rattle.std.proofs.Common.{rules, ◌≡◌, true, false}
use Rattle.std.proofs.lemmas.Result.{err_from_is_err_and}
use Rattle.mz_ppattern.specs.Optional.{next_has}
use Rattle.mz_ppattern.proofs.OptionalSteps.{optional_none, optional_refused, optional_found}
use Rattle.std.specs.Prelude.{codes}
use Rattle.mz_ppattern.specs.Words.{is_word}
use Rattle.mz_pmeaning.specs.CaseForms.{term_body, otherwise_form}
use Rattle.mz_pmeaning.proofs.Bodies.{term_is_body}
use Rattle.mz_pmeaning.proofs.CaseSteps.{starts_otherwise, begun_otherwise}
use Rattle.mz_pmeaning.proofs.cases.maybe_term_otherwise.Goals as goal

pub returns-then-not-word_comes : goal.returns-then-not-word_comes
returns-then-not-word_comes c =
    let off : next_has (is_word (codes "otherwise")) c.args.reader.now.rest.now ≡ false = search rules in
    optional_none (otherwise_form term_body) (is_word (codes "otherwise")) (starts_otherwise term_body term_is_body) c.args.room _ off

pub returns-in_err-otherwise : goal.returns-in_err-otherwise
returns-in_err-otherwise c =
    let p = err_from_is_err_and c.from_residual.result c.from_residual.ensures.1 in
    let on : next_has (is_word (codes "otherwise")) c.args.reader.now.rest.now ≡ true = search rules in
    rw (p.1, p.2) (optional_refused (otherwise_form term_body) (is_word (codes "otherwise")) (starts_otherwise term_body term_is_body) (begun_otherwise term_body term_is_body) c.args.room _ _ _ on c.in_err-otherwise.ensures)

pub returns : goal.returns
returns c =
    let on : next_has (is_word (codes "otherwise")) c.args.reader.now.rest.now ≡ true = search rules in
    optional_found (otherwise_form term_body) (is_word (codes "otherwise")) (starts_otherwise term_body term_is_body) (begun_otherwise term_body term_is_body) c.args.room _ _ _ on c.in_ok-otherwise.ensures
