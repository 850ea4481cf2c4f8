use Rattle.std.proofs.Common.{◌∙◌}
use Rattle.mz_proof.proofs.ProvingLemmas.{told_not_proved, told_proved, told_back}
use Rattle.mz_proof.proofs.proving.skeleton.Goals as goal

pub returns-in-Ok-clause-proves : goal.returns-in-Ok-clause-proves
returns-in-Ok-clause-proves c = told_proved _ _ c.args.ctx.now _ _ _ _ _ _ _ _ _ _ _ c.in_ok-thesis.ensures c.begin_proof-aside.ensures.context c.prove.ensures.proves c.in-Ok.is

pub returns-in-Ok-clause-same : goal.returns-in-Ok-clause-same
returns-in-Ok-clause-same c = told_back _ _ _ _ _ _ _ _ c.begin_proof-aside.ensures.context (c.into_inner.ensures ∙ c.in_ok-outside.ensures.ok ∙ c.begin_proof-aside.ensures.outside) c.prove.ensures.grows c.in-Ok.is c.leave.ensures

pub returns-in-Err-clause-proves : goal.returns-in-Err-clause-proves
returns-in-Err-clause-proves c = told_not_proved _ _ _ c.args.ctx.now _ _ _ _ _ _ _ _ _ _ _ _ _ _ c.in_ok-thesis.ensures c.begin_proof-aside.ensures.context c.prove.ensures.proves c.in-Err.is
