use Rattle.std.proofs.Common.{ap, map, ◌∙◌}
use Rattle.std.proofs.lemmas.List.{map-append}
use Rattle.mz_search.specs.Goals.{known}
use Rattle.mz_search.specs.States.{state_of}
use Rattle.mz_search.proofs.BranchLemmas.{told_either}
use Rattle.mz_search.proofs.branches.either.Goals as goal

pub returns : goal.returns
returns c =
    told_either (known c.args.table.now c.args.values.now c.args.universals.now) c.args.scope.now c.args.g.now c.args.h.now c.args.e.now (map state_of c.in_ok-out.out.items) (map state_of c.in_ok-second.second.items) (map state_of c.append.new.self.items)
    c.requires c.in_ok-out.ensures c.in_ok-second.ensures (ap (map state_of) c.in_ok-append.ensures.items ∙ map-append state_of c.in_ok-out.out.items c.in_ok-second.second.items)
