use Rattle.std.proofs.Common.{◌≡◌, map, take}
use Rattle.mz_field_items.specs.Fields.{field_of}
use Rattle.mz_field_items.proofs.fields.fields_of.Given as goal

abbrev pub invariant-loop-f : goal.invariant-loop-f
invariant-loop-f l = l.out ≡ map (field_of l.least l.count l.selectors.items) (take l.f-index l.fs)
