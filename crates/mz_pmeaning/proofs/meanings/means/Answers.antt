use Rattle.std.proofs.lemmas.Result.{err_from_is_err_and}
use Rattle.mz_forms.proofs.Words.{word_in_any, word_refuses}
use Rattle.mz_base.specs.declared.place.Place.{Place}
use Rattle.mz_pjustification.specs.declared.keyword.Keyword.TheVariants as keywords
use Rattle.mz_pjustification.specs.Words.{key}
use Rattle.mz_pmeaning.proofs.MeaningSequences.{stated_means_refused_1, stated_means_refused_2, stated_means_refused_3, stated_means_found}
use Rattle.mz_pmeaning.proofs.meanings.means.Goals as goal

pub returns-in_err-means : goal.returns-in_err-means
returns-in_err-means c =
    let p = err_from_is_err_and c.from_residual.result c.from_residual.ensures.1 in
    rw (p.1, p.2) (stated_means_refused_1 c.args.room _ _ _ (word_refuses Place (key keywords.Means) c.args.room _ _ _ c.in_err-means.ensures))

pub returns-in_err-label : goal.returns-in_err-label
returns-in_err-label c =
    let p = err_from_is_err_and c.from_residual-in_err-label.result c.from_residual-in_err-label.ensures.1 in
    rw (p.1, p.2) (stated_means_refused_2 c.args.room _ _ _ (word_in_any Place (key keywords.Means) c.args.room _ _ _ c.in_ok-means.ensures) _ _ (c.in_err-label.ensures c.args.room))

pub returns-in_err-cases : goal.returns-in_err-cases
returns-in_err-cases c =
    let p = err_from_is_err_and c.from_residual-in_err-cases.result c.from_residual-in_err-cases.ensures.1 in
    rw (p.1, p.2) (stated_means_refused_3 c.args.room _ _ _ (word_in_any Place (key keywords.Means) c.args.room _ _ _ c.in_ok-means.ensures) _ _ (c.in_ok-label.ensures c.args.room) _ _ c.in_err-cases.ensures)

pub returns : goal.returns
returns c = stated_means_found c.args.room _ _ _ (word_in_any Place (key keywords.Means) c.args.room _ _ _ c.in_ok-means.ensures) _ _ (c.in_ok-label.ensures c.args.room) _ _ c.in_ok-cases.ensures
