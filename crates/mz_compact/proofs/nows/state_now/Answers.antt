use Rattle.mz_compact.proofs.NowLemmas.{told_too_large, told_stated}
use Rattle.mz_compact.proofs.nows.state_now.Goals as goal

pub returns-in-None : goal.returns-in-None
returns-in-None c = told_too_large _ _ _ _ _ _ _ _ c.in_ok-stated_in.ensures c.in-None.is

pub returns-in-Some : goal.returns-in-Some
returns-in-Some c = told_stated _ _ _ _ _ _ _ _ _ _ _ _ c.in_ok-stated_in.ensures c.in-Some.is c.say.ensures
