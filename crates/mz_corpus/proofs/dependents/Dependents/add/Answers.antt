use Rattle.std.proofs.Common.{◌++◌, ◌∷◌, [], ap, ◌∙◌}
use Rattle.mz_corpus.specs.Dependents.{rows_at}
use Rattle.mz_corpus.proofs.DependentsLemmas.{HasAdded-one}
use Rattle.mz_corpus.proofs.dependents.Dependents.add.Goals as goal

pub returns : goal.returns
returns c =
    HasAdded-one (rows_at c.args.self.now.rows) (rows_at c.remove-rows.new.self.rows) (rows_at c.insert.new.self.rows) c.args.name.now c.args.row c.number.result c.number-2.result c.remove-rows.result _ c.number.ensures.kept c.number-2.ensures.kept c.remove-rows.ensures.rows c.remove-rows.ensures.others
    (c.in_ok-push.ensures.items ∙ ap (λ rs. rs ++ c.args.row ∷ []) c.rows.view_is) c.in_ok-insert.ensures.rows c.in_ok-insert.ensures.others
