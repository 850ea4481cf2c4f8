use Rattle.std.proofs.Common.{◌∙◌}
use Rattle.mz_match.proofs.ByClassLemmas.{by_class_more}
use Rattle.mz_match.proofs.ValueLemmas.{known_more}
use Rattle.mz_match.proofs.rows.Rows.extended.Goals as goal

pub invariant_of-result : goal.invariant_of-result
invariant_of-result c = record {
  known = known_more c.args.self.items.items c.push.new.self.items c.args.self.values c.insert.new.self c.args.row c.in_ok-args.args.items c.args.known c.with_value.result
      c.args.self.known c.requires c.with_value.ensures (c.in_ok-args.ensures.items ∙ c.as_slice.ensures.value) c.in_ok-insert.ensures c.in_ok-push.ensures.items;
  classed = by_class_more c.args.self.items.items c.push.new.self.items c.args.self.by_class c.add.new.self c.args.row c.in_ok-again.again.items
      c.args.self.classed (c.in_ok-again.ensures.items ∙ c.as_slice-2.ensures.value) c.in_ok-add.ensures c.in_ok-push.ensures.items;
}
