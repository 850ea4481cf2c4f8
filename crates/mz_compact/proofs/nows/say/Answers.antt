use Rattle.std.proofs.Common.{◌∙◌}
use Rattle.mz_compact.proofs.NowLemmas.{told_said}
use Rattle.mz_compact.proofs.nows.say.Goals as goal

pub returns : goal.returns
returns c = told_said _ _ _ _ _ _ _ _ _ _ _ (c.deref.ensures ∙ (c.in_ok-step-2.ensures.ok ∙ c.in_ok-step.ensures)) c.in_ok-stated.ensures c.perform.ensures
