use Rattle.mz_ground.proofs.InstanceLemmas.{told_instance}
use Rattle.mz_ground.proofs.ground_part.Ground.add_instance.Goals as goal

pub returns : goal.returns
returns c = told_instance _ _ _ _ c.args.c.now c.in_ok-add_literals.ensures c.in_ok-add_literal.ensures
