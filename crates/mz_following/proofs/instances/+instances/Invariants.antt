use Rattle.std.proofs.Common.{◌≡◌, take, map}
use Rattle.mz_logic.specs.Instance.{term_instance}
use Rattle.mz_following.proofs.instances.+instances.Given as goal

abbrev pub invariant-terms_instance-loop-t : goal.invariant-terms_instance-loop-t
invariant-terms_instance-loop-t l = l.out.items ≡ map (term_instance l.letters) (take l.t-index l.t-items)
