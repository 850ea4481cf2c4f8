use Rattle.std.proofs.Common.{subst}
use Rattle.mz_desk.specs.Job.{IsOutcomeOf}
use Rattle.mz_desk.proofs.job.Done.law.Goals as goal

pub returns : goal.returns
returns g c = subst (λ d. IsOutcomeOf g.C.Semantics.is_outcome d.job d.outcome) c.self.view_is c.self.invariant.0
