use Rattle.std.proofs.Common.{map}
use Rattle.mz_search.specs.Goals.{goal_of}
use Rattle.mz_search.proofs.PartLemmas.{split_more}
use Rattle.mz_search.proofs.parted.split.Goals as goal

pub loop-g-preserved : goal.loop-g-preserved
loop-g-preserved c =
    split_more c.in_ok-within.within c.args.e.now c.args.marks.now (map goal_of c.args.goals.items) c.loop-g.near.items c.loop-g.left.items c.loop-g.far.items
    c.put.new.near.items c.put.new.far.items c.pop.new.self.items c.in-Some.g c.loop-g.invariant c.in-Some.ensures.items c.in_ok-within.ensures c.in_ok-put.ensures.near c.in_ok-put.ensures.far
