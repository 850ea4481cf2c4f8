use Rattle.std.proofs.Common.{rules, ◌≡◌, true, false, Some}
use Rattle.std.proofs.lemmas.Result.{err_from_is_err_and}
use Rattle.mz_forms.proofs.Leads.{passes}
use Rattle.mz_pterm.specs.Forms.{terms_form}
use Rattle.mz_ptype.specs.Classes.{next_is}
use Rattle.mz_patom.specs.Classes.{begins_term}
use Rattle.mz_patom.specs.Forms.{maybe_terms_form}
use Rattle.mz_patom.proofs.Parts.{begin_terms, no_terms}
use Rattle.mz_patom.proofs.atoms.maybe_terms.Goals as goal

pub returns-then-not-term_comes : goal.returns-then-not-term_comes
returns-then-not-term_comes c =
    let off : next_is begins_term c.args.reader.now.rest.now ≡ false = search rules in
    no_terms c.args.field c.args.room _ off

pub returns-in_err-terms : goal.returns-in_err-terms
returns-in_err-terms c =
    let p = err_from_is_err_and c.from_residual.result c.from_residual.ensures.1 in
    let on : next_is begins_term c.args.reader.now.rest.now ≡ true = search rules in
    rw (p.1, p.2) (passes (maybe_terms_form c.args.field) (terms_form c.args.field) _ Some _ _ _ _ (begin_terms _ _ _ on) c.in_err-terms.ensures)

pub returns : goal.returns
returns c =
    let on : next_is begins_term c.args.reader.now.rest.now ≡ true = search rules in
    (begin_terms c.args.field c.args.room _ on).finds _ _ c.in_ok-terms.ensures
