use Rattle.mz_congruence.proofs.RootLemmas.{step_less}
use Rattle.mz_congruence.proofs.classes.root_of.Goals as goal

pub up-smaller : goal.up-smaller
up-smaller c = step_less _ _ _ _ c.requires c.parent.ensures c.up-test.true c.parent-k.ensures
