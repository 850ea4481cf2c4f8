use Rattle.std.proofs.Common.{◌∷◌, sym, ◌∙◌}
use Rattle.mz_search.proofs.PickLemmas.{compared, all_compared, none_compared}
use Rattle.mz_search.proofs.pick.pick.Goals as goal

pub loop-fewest-preserved : goal.loop-fewest-preserved
loop-fewest-preserved c =
    compared (c.args.goal ∷ c.args.others.items) c.loop-fewest.left.items c.pop.new.self.items c.loop-fewest.rest.items c.push.new.self.items
    c.loop-fewest.best c.in-Some.g c.ordered-pair.result.first c.ordered-pair.result.second
    c.loop-fewest.invariant c.in-Some.ensures.items c.ordered-pair.ensures c.in_ok-push-in-Some.ensures.items

pub returns-in-None : goal.returns-in-None
returns-in-None c =
    none_compared (c.args.goal ∷ c.args.others.items) c.loop-fewest.left.items c.loop-fewest.rest.items c.loop-fewest.best
    c.loop-fewest.invariant (sym c.loop-fewest.left.ok.0 ∙ c.in-None.ensures.cases.0)

pub returns : goal.returns
returns c =
    all_compared (c.args.goal ∷ c.args.others.items) c.loop-fewest.left.items c.loop-fewest.rest.items c.append.new.self.items c.loop-fewest.best
    c.loop-fewest.invariant c.in_ok-append.ensures.items
