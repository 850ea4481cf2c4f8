use Rattle.std.proofs.Common.{◌≡◌, map, take}
use Rattle.mz_structure.specs.Fields.{name_of}
use Rattle.mz_structs.proofs.fields.names_of.Given as goal

abbrev pub invariant-loop-f : goal.invariant-loop-f
invariant-loop-f l = l.out.items ≡ map name_of (take l.f-index l.fs)
