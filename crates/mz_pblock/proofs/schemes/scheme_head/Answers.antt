use Rattle.std.specs.Prelude.{codes}
use Rattle.std.proofs.Common.{◌-◌, arith}
use Rattle.std.proofs.lemmas.Result.{err_from_is_err_and}
use Rattle.mz_base.specs.declared.place.Place.{Place}
use Rattle.mz_forms.specs.Form.{nested}
use Rattle.mz_forms.proofs.Nested.{found_under, refuses_under}
use Rattle.mz_forms.proofs.Words.{word_in_any, word_refuses}
use Rattle.mz_tree.specs.declared.word.Word.{Word}
use Rattle.mz_pterm.specs.declared.sign.Sign.TheVariants as signs
use Rattle.mz_pterm.specs.Words.{fixed, named, word, name}
use Rattle.mz_ppattern.specs.Words.{word_form, word_token}
use Rattle.mz_pcluster.proofs.Joined.{first_refused, second_refused, both_found, shaped_refused, shaped_found}
use Rattle.mz_ppart.specs.Forms.{parameters_form}
use Rattle.mz_pblock.specs.Forms.{scheme_head_form}
use Rattle.mz_pblock.proofs.SchemeSteps.{as_scheme_head, joined_scheme_head_1, joined_scheme_head_2, joined_scheme_head_3, joined_scheme_head_4, make_scheme_head, scheme_head_1, scheme_head_2, scheme_head_3, scheme_head_4, scheme_head_5}
use Rattle.mz_pblock.proofs.schemes.scheme_head.Goals as goal

pub returns-in_err-scheme : goal.returns-in_err-scheme
returns-in_err-scheme c =
    let p = err_from_is_err_and c.from_residual.result c.from_residual.ensures.1 in
    rw (p.1, p.2) (shaped_refused scheme_head_form scheme_head_1 make_scheme_head c.args.room _ (as_scheme_head _) _ _ (first_refused (word_form (codes "scheme")) (λ _. scheme_head_2) joined_scheme_head_1 c.args.room _ _ _ (word_refuses Place (word_token (codes "scheme")) c.args.room _ _ _ c.in_err-scheme.ensures)))

pub returns-in_err-name : goal.returns-in_err-name
returns-in_err-name c =
    let p = err_from_is_err_and c.from_residual-in_err-name.result c.from_residual-in_err-name.ensures.1 in
    rw (p.1, p.2) (shaped_refused scheme_head_form scheme_head_1 make_scheme_head c.args.room _ (as_scheme_head _) _ _ (second_refused (word_form (codes "scheme")) (λ _. scheme_head_2) joined_scheme_head_1 c.args.room _ _ _ (word_in_any Place (word_token (codes "scheme")) c.args.room _ _ _ c.in_ok-scheme.ensures) _ _ (first_refused (name signs.Identifier) (λ _. scheme_head_3) joined_scheme_head_2 c.args.room _ _ _ (word_refuses Word (named signs.Identifier) c.args.room _ _ _ c.in_err-name.ensures))))

pub returns-in_err-left : goal.returns-in_err-left
returns-in_err-left c =
    let p = err_from_is_err_and c.from_residual-in_err-left.result c.from_residual-in_err-left.ensures.1 in
    rw (p.1, p.2) (shaped_refused scheme_head_form scheme_head_1 make_scheme_head c.args.room _ (as_scheme_head _) _ _ (second_refused (word_form (codes "scheme")) (λ _. scheme_head_2) joined_scheme_head_1 c.args.room _ _ _ (word_in_any Place (word_token (codes "scheme")) c.args.room _ _ _ c.in_ok-scheme.ensures) _ _ (second_refused (name signs.Identifier) (λ _. scheme_head_3) joined_scheme_head_2 c.args.room _ _ _ (word_in_any Word (named signs.Identifier) c.args.room _ _ _ c.in_ok-name.ensures) _ _ (first_refused (nested (word signs.OpenBrace)) (λ _. scheme_head_4) joined_scheme_head_3 c.args.room _ _ _ c.in_err-left.ensures.reads))))

pub returns-in_err-parameters : goal.returns-in_err-parameters
returns-in_err-parameters c =
    let p = err_from_is_err_and c.from_residual-in_err-parameters.result c.from_residual-in_err-parameters.ensures.1 in
    rw (p.1, p.2) (shaped_refused scheme_head_form scheme_head_1 make_scheme_head c.args.room _ (as_scheme_head _) _ _ (second_refused (word_form (codes "scheme")) (λ _. scheme_head_2) joined_scheme_head_1 c.args.room _ _ _ (word_in_any Place (word_token (codes "scheme")) c.args.room _ _ _ c.in_ok-scheme.ensures) _ _ (second_refused (name signs.Identifier) (λ _. scheme_head_3) joined_scheme_head_2 c.args.room _ _ _ (word_in_any Word (named signs.Identifier) c.args.room _ _ _ c.in_ok-name.ensures) _ _ (second_refused (nested (word signs.OpenBrace)) (λ _. scheme_head_4) joined_scheme_head_3 c.args.room _ _ _ c.in_ok-left.ensures.reads _ _ (first_refused (nested parameters_form) (λ _. scheme_head_5) joined_scheme_head_4 c.args.room _ _ _ (refuses_under parameters_form c.args.room (c.args.room - 1) (omega (arith, c.in_ok-left.ensures.room)) _ _ _ c.in_err-parameters.ensures))))))

pub returns-in_err-right : goal.returns-in_err-right
returns-in_err-right c =
    let p = err_from_is_err_and c.from_residual-in_err-right.result c.from_residual-in_err-right.ensures.1 in
    rw (p.1, p.2) (shaped_refused scheme_head_form scheme_head_1 make_scheme_head c.args.room _ (as_scheme_head _) _ _ (second_refused (word_form (codes "scheme")) (λ _. scheme_head_2) joined_scheme_head_1 c.args.room _ _ _ (word_in_any Place (word_token (codes "scheme")) c.args.room _ _ _ c.in_ok-scheme.ensures) _ _ (second_refused (name signs.Identifier) (λ _. scheme_head_3) joined_scheme_head_2 c.args.room _ _ _ (word_in_any Word (named signs.Identifier) c.args.room _ _ _ c.in_ok-name.ensures) _ _ (second_refused (nested (word signs.OpenBrace)) (λ _. scheme_head_4) joined_scheme_head_3 c.args.room _ _ _ c.in_ok-left.ensures.reads _ _ (second_refused (nested parameters_form) (λ _. scheme_head_5) joined_scheme_head_4 c.args.room _ _ _ (found_under parameters_form c.args.room (c.args.room - 1) (omega (arith, c.in_ok-left.ensures.room)) _ _ _ c.in_ok-parameters.ensures) _ _ (word_refuses Place (fixed signs.CloseBrace) c.args.room _ _ _ c.in_err-right.ensures))))))

pub returns : goal.returns
returns c = shaped_found scheme_head_form scheme_head_1 make_scheme_head c.args.room _ (as_scheme_head _) _ _ (both_found (word_form (codes "scheme")) (λ _. scheme_head_2) joined_scheme_head_1 c.args.room _ _ _ (word_in_any Place (word_token (codes "scheme")) c.args.room _ _ _ c.in_ok-scheme.ensures) _ _ (both_found (name signs.Identifier) (λ _. scheme_head_3) joined_scheme_head_2 c.args.room _ _ _ (word_in_any Word (named signs.Identifier) c.args.room _ _ _ c.in_ok-name.ensures) _ _ (both_found (nested (word signs.OpenBrace)) (λ _. scheme_head_4) joined_scheme_head_3 c.args.room _ _ _ c.in_ok-left.ensures.reads _ _ (both_found (nested parameters_form) (λ _. scheme_head_5) joined_scheme_head_4 c.args.room _ _ _ (found_under parameters_form c.args.room (c.args.room - 1) (omega (arith, c.in_ok-left.ensures.room)) _ _ _ c.in_ok-parameters.ensures) _ _ (word_in_any Place (fixed signs.CloseBrace) c.args.room _ _ _ c.in_ok-right.ensures)))))
