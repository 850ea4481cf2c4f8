use Rattle.std.proofs.Common.{arith}
use Rattle.std.proofs.lemmas.Option.{slice_get_within}
use Rattle.mz_ground.specs.declared.ground_atom.GroundAtom.{GroundAtom}
use Rattle.mz_congruence.specs.InstanceAt.{is_atom_instance}
use Rattle.mz_congruence.proofs.InstanceAtLemmas.{none_so_far}
use Rattle.mz_congruence.proofs.lookup.first_atom.Goals as goal

pub loop-k-preserved : goal.loop-k-preserved
loop-k-preserved c = none_so_far (λ (a : GroundAtom). is_atom_instance c.args.g.now.terms c.args.args.now c.args.sym c.args.us.now a) _ _ _ _ c.loop-k.invariant c.get.ensures c.is_atom.ensures c.if-is_atom.false

pub returns : goal.returns
returns c = λ k a at. c.loop-k.invariant k a (omega (arith, slice_get_within c.args.g.now.atoms k a at)) at
