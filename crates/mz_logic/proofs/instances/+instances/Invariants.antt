use Rattle.std.proofs.Common.{◌≡◌, take, map}
use Rattle.mz_logic.specs.Instance.{term_instance}
use Rattle.mz_logic.proofs.instances.+instances.Given as goal

abbrev pub invariant-instance_terms-loop-t : goal.invariant-instance_terms-loop-t
invariant-instance_terms-loop-t l = l.out.items ≡ map (term_instance l.letters) (take l.t-index l.t-items)
