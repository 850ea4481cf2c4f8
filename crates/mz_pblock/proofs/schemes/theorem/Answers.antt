use Rattle.std.specs.Prelude.{codes}
use Rattle.std.proofs.lemmas.Result.{err_from_is_err_and}
use Rattle.mz_base.specs.declared.place.Place.{Place}
use Rattle.mz_forms.proofs.Words.{word_in_any, word_refuses}
use Rattle.mz_pjustification.specs.declared.keyword.Keyword.TheVariants as keywords
use Rattle.mz_pjustification.specs.Words.{key, keyword}
use Rattle.mz_ppattern.specs.Words.{word_form, word_token}
use Rattle.mz_pcluster.proofs.Joined.{first_refused, second_refused, both_found, shaped_refused, shaped_found}
use Rattle.mz_pproof.specs.Forms.{just_form}
use Rattle.mz_pproposition.specs.Forms.{proposition_form}
use Rattle.mz_pblock.specs.Forms.{theorem_form}
use Rattle.mz_pblock.proofs.ConditionSteps.{joined_just, just_1}
use Rattle.mz_pblock.proofs.SchemeSteps.{as_theorem, joined_theorem_1, joined_theorem_2, make_theorem, theorem_1, theorem_2}
use Rattle.mz_pblock.proofs.schemes.theorem.Goals as goal

pub returns-in_err-theorem : goal.returns-in_err-theorem
returns-in_err-theorem c =
    let p = err_from_is_err_and c.from_residual.result c.from_residual.ensures.1 in
    rw (p.1, p.2) (shaped_refused theorem_form theorem_1 make_theorem c.args.room _ (as_theorem _) _ _ (first_refused (word_form (codes "theorem")) (λ _. theorem_2) joined_theorem_1 c.args.room _ _ _ (word_refuses Place (word_token (codes "theorem")) c.args.room _ _ _ c.in_err-theorem.ensures)))

pub returns-in_err-proposition : goal.returns-in_err-proposition
returns-in_err-proposition c =
    let p = err_from_is_err_and c.from_residual-in_err-proposition.result c.from_residual-in_err-proposition.ensures.1 in
    rw (p.1, p.2) (shaped_refused theorem_form theorem_1 make_theorem c.args.room _ (as_theorem _) _ _ (second_refused (word_form (codes "theorem")) (λ _. theorem_2) joined_theorem_1 c.args.room _ _ _ (word_in_any Place (word_token (codes "theorem")) c.args.room _ _ _ c.in_ok-theorem.ensures) _ _ (first_refused proposition_form (λ _. just_1) joined_theorem_2 c.args.room _ _ _ c.in_err-proposition.ensures)))

pub returns-in_err-just : goal.returns-in_err-just
returns-in_err-just c =
    let p = err_from_is_err_and c.from_residual-in_err-just.result c.from_residual-in_err-just.ensures.1 in
    rw (p.1, p.2) (shaped_refused theorem_form theorem_1 make_theorem c.args.room _ (as_theorem _) _ _ (second_refused (word_form (codes "theorem")) (λ _. theorem_2) joined_theorem_1 c.args.room _ _ _ (word_in_any Place (word_token (codes "theorem")) c.args.room _ _ _ c.in_ok-theorem.ensures) _ _ (second_refused proposition_form (λ _. just_1) joined_theorem_2 c.args.room _ _ _ c.in_ok-proposition.ensures _ _ (first_refused just_form (λ _. keyword keywords.Semicolon) joined_just c.args.room _ _ _ c.in_err-just.ensures))))

pub returns-in_err-semicolon : goal.returns-in_err-semicolon
returns-in_err-semicolon c =
    let p = err_from_is_err_and c.from_residual-in_err-semicolon.result c.from_residual-in_err-semicolon.ensures.1 in
    rw (p.1, p.2) (shaped_refused theorem_form theorem_1 make_theorem c.args.room _ (as_theorem _) _ _ (second_refused (word_form (codes "theorem")) (λ _. theorem_2) joined_theorem_1 c.args.room _ _ _ (word_in_any Place (word_token (codes "theorem")) c.args.room _ _ _ c.in_ok-theorem.ensures) _ _ (second_refused proposition_form (λ _. just_1) joined_theorem_2 c.args.room _ _ _ c.in_ok-proposition.ensures _ _ (second_refused just_form (λ _. keyword keywords.Semicolon) joined_just c.args.room _ _ _ c.in_ok-just.ensures _ _ (word_refuses Place (key keywords.Semicolon) c.args.room _ _ _ c.in_err-semicolon.ensures)))))

pub returns : goal.returns
returns c = shaped_found theorem_form theorem_1 make_theorem c.args.room _ (as_theorem _) _ _ (both_found (word_form (codes "theorem")) (λ _. theorem_2) joined_theorem_1 c.args.room _ _ _ (word_in_any Place (word_token (codes "theorem")) c.args.room _ _ _ c.in_ok-theorem.ensures) _ _ (both_found proposition_form (λ _. just_1) joined_theorem_2 c.args.room _ _ _ c.in_ok-proposition.ensures _ _ (both_found just_form (λ _. keyword keywords.Semicolon) joined_just c.args.room _ _ _ c.in_ok-just.ensures _ _ (word_in_any Place (key keywords.Semicolon) c.args.room _ _ _ c.in_ok-semicolon.ensures))))
