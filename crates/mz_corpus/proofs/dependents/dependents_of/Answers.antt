use Rattle.std.proofs.Common.{length, arith}
use Rattle.std.proofs.lemmas.List.{length-take-le}
use Rattle.mz_corpus.specs.Dependents.{rows_at}
use Rattle.mz_corpus.proofs.DependentsLemmas.{AreDependents-none, AreDependents-turn}
use Rattle.mz_corpus.proofs.dependents.dependents_of.Goals as goal

pub loop-row-init : goal.loop-row-init
loop-row-init c = AreDependents-none (rows_at c.new-dependents.result.rows) c.new-dependents.ensures

pub loop-row-preserved : goal.loop-row-preserved
loop-row-preserved c =
    AreDependents-turn c.args.articles.now c.loop-row.row c.index-articles-row.result (rows_at c.loop-row.dependents.rows) (rows_at c.add_article.new.self.rows) c.loop-row-test.true c.index-articles-row.is
    (length-take-le c.loop-row.row c.args.articles.now (omega arith)) c.loop-row.invariant c.in_ok-add_article.ensures
