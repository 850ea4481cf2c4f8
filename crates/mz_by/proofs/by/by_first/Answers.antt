use Rattle.std.proofs.Common.{subst}
use Rattle.mz_by.specs.Verdict.{IsVerdict}
use Rattle.mz_by.proofs.ClosedSound.{closed_derived}
use Rattle.mz_by.proofs.by.by_first.Goals as goal

pub returns-clause-derived : goal.returns-clause-derived
returns-clause-derived c = λ e h. closed_derived c.args.p.now _ c.in_ok-verdict.verdict (subst (λ cs. IsVerdict c.args.p.now cs c.in_ok-verdict.verdict) c.first.ensures c.in_ok-verdict.ensures) e h
