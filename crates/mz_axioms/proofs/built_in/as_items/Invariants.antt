use Rattle.std.proofs.Common.{◌≡◌, map}
use Rattle.mz_core.specs.declared.item.Item.TheVariants as item
use Rattle.mz_axioms.proofs.built_in.as_items.Given as goal

abbrev pub invariant-loop-n : goal.invariant-loop-n
invariant-loop-n l = l.out ≡ map item.Primitive l.yielded
