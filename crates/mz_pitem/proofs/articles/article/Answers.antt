use Rattle.std.specs.Prelude.{codes}
use Rattle.std.proofs.lemmas.Result.{err_from_is_err_and}
use Rattle.mz_base.specs.declared.place.Place.{Place}
use Rattle.mz_forms.proofs.Words.{word_in_any, word_refuses}
use Rattle.mz_ppattern.specs.Words.{word_form, word_token}
use Rattle.mz_pcluster.proofs.Joined.{first_refused, second_refused, both_found, shaped_refused, shaped_found}
use Rattle.mz_pitem.specs.Forms.{article_form, article_parts_form, directives_form}
use Rattle.mz_pitem.proofs.ArticleSteps.{article_1, article_2, article_3, as_article, joined_article_1, joined_article_2, joined_article_3, make_article}
use Rattle.mz_pitem.proofs.articles.article.Goals as goal

pub returns-in_err-environ : goal.returns-in_err-environ
returns-in_err-environ c =
    let p = err_from_is_err_and c.from_residual.result c.from_residual.ensures.1 in
    rw (p.1, p.2) (shaped_refused article_form article_1 make_article c.args.room _ (as_article _) _ _ (first_refused (word_form (codes "environ")) (λ _. article_2) joined_article_1 c.args.room _ _ _ (word_refuses Place (word_token (codes "environ")) c.args.room _ _ _ c.in_err-environ.ensures)))

pub returns-in_err-directives : goal.returns-in_err-directives
returns-in_err-directives c =
    let p = err_from_is_err_and c.from_residual-in_err-directives.result c.from_residual-in_err-directives.ensures.1 in
    rw (p.1, p.2) (shaped_refused article_form article_1 make_article c.args.room _ (as_article _) _ _ (second_refused (word_form (codes "environ")) (λ _. article_2) joined_article_1 c.args.room _ _ _ (word_in_any Place (word_token (codes "environ")) c.args.room _ _ _ c.in_ok-environ.ensures) _ _ (first_refused directives_form (λ _. article_3) joined_article_2 c.args.room _ _ _ (c.in_err-directives.ensures c.args.room))))

pub returns-in_err-begin : goal.returns-in_err-begin
returns-in_err-begin c =
    let p = err_from_is_err_and c.from_residual-in_err-begin.result c.from_residual-in_err-begin.ensures.1 in
    rw (p.1, p.2) (shaped_refused article_form article_1 make_article c.args.room _ (as_article _) _ _ (second_refused (word_form (codes "environ")) (λ _. article_2) joined_article_1 c.args.room _ _ _ (word_in_any Place (word_token (codes "environ")) c.args.room _ _ _ c.in_ok-environ.ensures) _ _ (second_refused directives_form (λ _. article_3) joined_article_2 c.args.room _ _ _ (c.in_ok-directives.ensures c.args.room) _ _ (first_refused (word_form (codes "begin")) (λ _. article_parts_form) joined_article_3 c.args.room _ _ _ (word_refuses Place (word_token (codes "begin")) c.args.room _ _ _ c.in_err-begin.ensures)))))

pub returns-in_err-parts : goal.returns-in_err-parts
returns-in_err-parts c =
    let p = err_from_is_err_and c.from_residual-in_err-parts.result c.from_residual-in_err-parts.ensures.1 in
    rw (p.1, p.2) (shaped_refused article_form article_1 make_article c.args.room _ (as_article _) _ _ (second_refused (word_form (codes "environ")) (λ _. article_2) joined_article_1 c.args.room _ _ _ (word_in_any Place (word_token (codes "environ")) c.args.room _ _ _ c.in_ok-environ.ensures) _ _ (second_refused directives_form (λ _. article_3) joined_article_2 c.args.room _ _ _ (c.in_ok-directives.ensures c.args.room) _ _ (second_refused (word_form (codes "begin")) (λ _. article_parts_form) joined_article_3 c.args.room _ _ _ (word_in_any Place (word_token (codes "begin")) c.args.room _ _ _ c.in_ok-begin.ensures) _ _ c.in_err-parts.ensures))))

pub returns : goal.returns
returns c = shaped_found article_form article_1 make_article c.args.room _ (as_article _) _ _ (both_found (word_form (codes "environ")) (λ _. article_2) joined_article_1 c.args.room _ _ _ (word_in_any Place (word_token (codes "environ")) c.args.room _ _ _ c.in_ok-environ.ensures) _ _ (both_found directives_form (λ _. article_3) joined_article_2 c.args.room _ _ _ (c.in_ok-directives.ensures c.args.room) _ _ (both_found (word_form (codes "begin")) (λ _. article_parts_form) joined_article_3 c.args.room _ _ _ (word_in_any Place (word_token (codes "begin")) c.args.room _ _ _ c.in_ok-begin.ensures) _ _ c.in_ok-parts.ensures)))
