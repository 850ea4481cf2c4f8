use Rattle.std.proofs.Common.{map}
use Rattle.std.specs.Arc.{arc_value}
use Rattle.mz_structure_items.proofs.SelectorLemmas.{told_own}
use Rattle.mz_structure_items.proofs.selectors.selectors_of_type.Goals as goal

pub returns : goal.returns
returns c =
    told_own c.args.ty.now.radix.sym (map arc_value c.of.result.now) c.args.all.now c.push_of_first.new.out c.new-out.result c.of.ensures c.in_ok-push_of_first.ensures c.new-out.ensures
