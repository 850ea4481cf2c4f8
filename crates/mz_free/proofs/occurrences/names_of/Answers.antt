use Rattle.std.proofs.Common.{◌≤◌, arith, length}
use Rattle.mz_free.proofs.NameLemmas.{told_names}
use Rattle.mz_free.proofs.occurrences.names_of.Goals as goal

pub returns : goal.returns
returns c =
    let le : length c.deref-next-items.result.now ≤ c.loop-next.next-index = omega arith in
    told_names _ _ c.args.node.now.more.items c.deref-next-items.result.now c.loop-next.next-index c.deref-next-items.ensures.value le c.loop-next.invariant
