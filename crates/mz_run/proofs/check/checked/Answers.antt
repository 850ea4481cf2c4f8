use Rattle.std.proofs.Common.{◌++◌}
use Rattle.mz_words.specs.Words.{asked_by}
use Rattle.mz_run.specs.declared.check.Finished.{Finished}
use Rattle.mz_run.proofs.CheckLemmas.{found}
use Rattle.mz_run.proofs.check.checked.Goals as goal

pub returns : goal.returns
returns g c =
    found (λ (f : Finished). f.output.report ++ f.output.listing) (λ (f : Finished). f.accepted) g.C.Semantics.is_outcome (asked_by c.args.order.now) c.args.corpus _ _ _ _ c.in_ok-shared.ensures c.in_ok-desk.ensures.corpus c.law.ensures c.in_ok-ordering.ensures c.in_ok-desk.ensures.verdicts c.in_ok-desk.ensures.sound c.finished_desk.result c.finished_desk.ensures.output c.finished_desk.ensures.accepted
