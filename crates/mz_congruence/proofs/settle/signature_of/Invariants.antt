use Rattle.std.proofs.Common.{◌≡◌, ◌++◌, take, map}
use Rattle.mz_congruence.specs.Classes.{root}
use Rattle.mz_congruence.specs.Signature.{head_code}
use Rattle.mz_congruence.proofs.settle.signature_of.Given as goal

abbrev pub invariant-loop-arg : goal.invariant-loop-arg
invariant-loop-arg l = l.out.items ≡ head_code l.node.head ++ map (root l.c) (take l.arg-index l.node.args)
