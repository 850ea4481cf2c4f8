use Rattle.std.proofs.Common.{◌≡◌, ◌<◌, ℕ, false}
use Rattle.std.specs.Prelude.{slice_get, Some}
use Rattle.mz_ground.specs.declared.ground_atom.GroundAtom.{GroundAtom}
use Rattle.mz_congruence.specs.InstanceAt.{is_atom_instance}
use Rattle.mz_congruence.proofs.lookup.first_atom.Given as goal

abbrev pub invariant-loop-k : goal.invariant-loop-k
invariant-loop-k l = (k : ℕ) (a : GroundAtom) → k < l.k → slice_get l.g.atoms k ≡ Some a → is_atom_instance l.g.terms l.args l.sym l.us a ≡ false
