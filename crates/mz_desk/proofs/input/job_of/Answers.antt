use Rattle.std.proofs.Common.{◌∙◌, ap, sym, subst}
use Rattle.std.specs.Prelude.{Some, slice_get}
use Rattle.std.specs.Arc.{arc_value}
use Rattle.std.specs.List.{filter}
use Rattle.std.specs.Option.{option_map}
use Rattle.mz_corpus.specs.Corpus.{IsCorpus}
use Rattle.mz_turns.specs.Library.{is_used_by}
use Rattle.mz_desk.specs.Difference.{AreRising, number_of_export}
use Rattle.mz_desk.specs.Desk.{IsJobOf}
use Rattle.mz_desk.proofs.DifferenceLemmas.{article_texts, article_reach, environment_rising}
use Rattle.mz_desk.proofs.InputLemmas.{both_ok}
use Rattle.mz_desk.proofs.input.job_of.Goals as goal

pub job_from-requires-clause-vocabularies : goal.job_from-requires-clause-vocabularies
job_from-requires-clause-vocabularies c =
    let k = c.args.table.now.corpus in
    let rows = c.args.table.now.rows in
    let law = subst IsCorpus (c.deref.ensures ∙ c.corpus.ensures) c.law.ensures in
    let a = c.get-article.result.now in
    let at = ap (λ z. slice_get z.articles c.args.row) (sym (c.deref-2.ensures ∙ c.corpus-2.ensures)) ∙ c.get-article.ensures in
    article_texts k law c.args.row a at

pub job_from-requires-clause-reach : goal.job_from-requires-clause-reach
job_from-requires-clause-reach c =
    let k = c.args.table.now.corpus in
    let rows = c.args.table.now.rows in
    let law = subst IsCorpus (c.deref.ensures ∙ c.corpus.ensures) c.law.ensures in
    let a = c.get-article.result.now in
    let at = ap (λ z. slice_get z.articles c.args.row) (sym (c.deref-2.ensures ∙ c.corpus-2.ensures)) ∙ c.get-article.ensures in
    article_reach k law c.args.row a at

pub job_from-requires-clause-library : goal.job_from-requires-clause-library
job_from-requires-clause-library c =
    let a = c.get-article.result.now in
    subst (λ xs. AreRising number_of_export (filter (is_used_by a) xs)) (sym (c.as_slice-library.ensures ∙ c.library.ensures)) (environment_rising c.args.table.now.rows a c.requires.order)

pub returns : goal.returns
returns c =
    let k = c.args.table.now.corpus in
    let rows = c.args.table.now.rows in
    let law = subst IsCorpus (c.deref.ensures ∙ c.corpus.ensures) c.law.ensures in
    let a = c.get-article.result.now in
    let at = ap (λ z. slice_get z.articles c.args.row) (sym (c.deref-2.ensures ∙ c.corpus-2.ensures)) ∙ c.get-article.ensures in
    let text = sym (ap (λ z. z.text) c.article.view_is) ∙ (ap (option_map arc_value) c.in-Some.is ∙ ap (λ x. Some x) (sym c.in_ok-text-in-Some.ensures)) in
    both_ok c.job_from.result _ _ (λ j. IsJobOf k.articles rows c.args.row c.args.worker j) (λ j p q. record {
      row = p.0;
      worker = p.1;
      article = a;
      is_at = at;
      named = sym p.2;
      input = record {
        text = text ∙ ap (λ x. Some x) (sym q.0);
        vocabularies = sym q.1;
        exports = sym (q.2 ∙ ap (filter (is_used_by a)) (c.as_slice-library.ensures ∙ c.library.ensures));
      };
    }) c.job_from.ensures.row c.job_from.ensures.input
