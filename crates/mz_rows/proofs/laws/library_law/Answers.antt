use Rattle.mz_rows.proofs.VerdictLemmas.{verdicts_sound}
use Rattle.mz_rows.proofs.laws.library_law.Goals as goal

pub returns : goal.returns
returns g c =
    let met = g.C.Semantics in λ k rows corpus verdicts. verdicts_sound g.C.Semantics.is_outcome met.one_outcome met.answers_name met.keeps_sound k corpus rows verdicts
