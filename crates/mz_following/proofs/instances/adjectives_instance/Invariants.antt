use Rattle.std.proofs.Common.{◌≡◌, take, map}
use Rattle.mz_following.specs.TypeInstance.{adjective_instance}
use Rattle.mz_following.proofs.instances.adjectives_instance.Given as goal

abbrev pub invariant-loop-a : goal.invariant-loop-a
invariant-loop-a l = l.out.items ≡ map (adjective_instance l.letters) (take l.a-index l.a-items)
