use Rattle.std.proofs.Common.{ap, map}
use Rattle.mz_search.specs.Goals.{known}
use Rattle.mz_search.specs.States.{state_of}
use Rattle.mz_search.proofs.BranchLemmas.{told_left_out}
use Rattle.mz_search.proofs.branches.part.Goals as goal

pub returns : goal.returns
returns c =
    told_left_out (known c.args.table.now c.args.values.now c.args.universals.now) c.args.scope.now c.args.f.now c.args.e.now c.in_ok-local.local c.in_ok-single.single c.in_ok-may_refute.field-0 (map state_of c.new.result.items)
    c.in_ok-local.ensures c.in_ok-single.ensures c.in_ok-may_refute.ensures c.if-branch.false (ap (map state_of) c.new.ensures.items)
