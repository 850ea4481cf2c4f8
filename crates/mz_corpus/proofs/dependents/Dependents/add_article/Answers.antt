use Rattle.mz_corpus.specs.Dependents.{rows_at}
use Rattle.mz_corpus.proofs.DependentsLemmas.{HasAdded-none, HasAdded-turn}
use Rattle.mz_corpus.proofs.dependents.Dependents.add_article.Goals as goal

pub loop-name-init : goal.loop-name-init
loop-name-init c = HasAdded-none _ _

pub loop-name-preserved : goal.loop-name-preserved
loop-name-preserved c = HasAdded-turn (rows_at c.args.self.now.rows) (rows_at c.loop-name.self.rows) (rows_at c.add.new.self.rows) c.deref-name-items.result.now c.loop-name.name-index c.name-item.result c.args.row c.loop-name-test.true c.name-item.is c.loop-name.invariant c.in_ok-add.ensures
