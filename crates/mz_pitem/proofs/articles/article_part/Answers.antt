use Rattle.std.specs.Prelude.{codes}
use Rattle.std.proofs.Common.{rules, ◌≡◌, true, false}
use Rattle.std.proofs.lemmas.Result.{err_from_is_err_and}
use Rattle.mz_base.specs.declared.place.Place.{Place}
use Rattle.mz_forms.proofs.Words.{word_in_any, word_refuses}
use Rattle.mz_ppattern.specs.Words.{word_form, word_token}
use Rattle.mz_ppattern.specs.Optional.{next_has}
use Rattle.mz_pcluster.proofs.Joined.{shaped_refused, shaped_found}
use Rattle.mz_pitem.specs.Classes.{begins_begin}
use Rattle.mz_pitem.specs.Forms.{article_part_form, item_form}
use Rattle.mz_pitem.proofs.ArticleSteps.{as_begin, as_item, put_begin, put_item}
use Rattle.mz_pitem.proofs.articles.article_part.Goals as goal

pub returns-in_err-begin : goal.returns-in_err-begin
returns-in_err-begin c =
    let p = err_from_is_err_and c.from_residual.result c.from_residual.ensures.1 in
    let on : next_has begins_begin c.args.reader.now.rest.now ≡ true = search rules in
    rw (p.1, p.2) (shaped_refused article_part_form (word_form (codes "begin")) put_begin c.args.room _ (as_begin _ on) _ _ (word_refuses Place (word_token (codes "begin")) c.args.room _ _ _ c.in_err-begin.ensures))

pub returns-then-word_comes : goal.returns-then-word_comes
returns-then-word_comes c =
    let on : next_has begins_begin c.args.reader.now.rest.now ≡ true = search rules in
    shaped_found article_part_form (word_form (codes "begin")) put_begin c.args.room _ (as_begin _ on) _ _ (word_in_any Place (word_token (codes "begin")) c.args.room _ _ _ c.in_ok-begin.ensures)

pub returns-in_err-tree : goal.returns-in_err-tree
returns-in_err-tree c =
    let p = err_from_is_err_and c.from_residual-in_err-tree.result c.from_residual-in_err-tree.ensures.1 in
    let off : next_has begins_begin c.args.reader.now.rest.now ≡ false = search rules in
    rw (p.1, p.2) (shaped_refused article_part_form item_form put_item c.args.room _ (as_item _ off) _ _ c.in_err-tree.ensures)

pub returns : goal.returns
returns c =
    let off : next_has begins_begin c.args.reader.now.rest.now ≡ false = search rules in
    shaped_found article_part_form item_form put_item c.args.room _ (as_item _ off) _ _ c.in_ok-tree.ensures
