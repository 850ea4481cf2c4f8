use Rattle.std.proofs.Common.{◌≡◌, ◌+◌, drop, map}
use Rattle.mz_numbering.specs.Numbering.{layer_of, atoms_end, atom_layer}
use Rattle.mz_numbering.proofs.numbering.atom_layer.Given as goal

abbrev pub invariant-loop-n : goal.invariant-loop-n
invariant-loop-n l = atom_layer l.g l.place ≡ l.n + layer_of (map atoms_end (drop l.n l.g.ends)) l.place
