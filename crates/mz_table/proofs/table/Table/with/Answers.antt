use Rattle.std.proofs.Common.{ap, sym, ◌∙◌}
use Rattle.mz_table.proofs.GroupLemmas.{grouped_pushed}
use Rattle.mz_table.proofs.table.Table.with.Goals as goal

pub invariant_of-result : goal.invariant_of-result
invariant_of-result g c =
    grouped_pushed g.K.Ord.cmp g.B.KeyOf.has g.met.B.KeyOf.respects c.self.inside.items.items c.push.new.self.items c.args.x c.in_ok-shared.shared c.in_ok-key.key c.self.inside.groups c.taken-before.new.groups c.insert.new.self c.taken-before.result c.in_ok-group.group
    c.self.invariant c.in_ok-push.ensures.items (λ q. ap (g.B.KeyOf.has q) (sym c.deref.ensures) ∙ c.in_ok-key.ensures q) c.taken-before.ensures.group c.taken-before.ensures.others c.in_ok-group.ensures c.in_ok-shared.ensures c.in_ok-insert.ensures.updates.0
