use Rattle.std.proofs.Common.{map}
use Rattle.mz_search.specs.States.{state_of}
use Rattle.mz_search.proofs.BranchLemmas.{told_matched}
use Rattle.mz_search.proofs.branches.matched.Goals as goal

pub returns : goal.returns
returns c =
    told_matched c.args.table.now c.args.values.now c.args.universals.now c.args.scope.now c.args.positive c.args.f.now c.args.e.now c.in_ok-local.local c.in_ok-single.single c.in_ok-found.found (map state_of c.in_ok-out.out.items)
    c.requires.literal c.in_ok-local.ensures c.in_ok-single.ensures c.in_ok-found.ensures c.in_ok-out.ensures
