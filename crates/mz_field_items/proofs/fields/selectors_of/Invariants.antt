use Rattle.std.proofs.Common.{◌≡◌, map, take}
use Rattle.mz_field_items.specs.Fields.{selector_of}
use Rattle.mz_field_items.proofs.fields.selectors_of.Given as goal

abbrev pub invariant-loop-f : goal.invariant-loop-f
invariant-loop-f l = l.out.items ≡ map selector_of (take l.f-index l.fs)
