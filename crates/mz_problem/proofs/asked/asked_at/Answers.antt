use Rattle.std.proofs.Common.{rules, ◌≡◌}
use Rattle.mz_problem.specs.Asked.{parts_of}
use Rattle.mz_problem.proofs.AskedLemmas.{ok_asked_at}
use Rattle.mz_problem.proofs.asked.asked_at.Goals as goal

pub returns : goal.returns
returns c =
    let e : c.as_slice.result.now ≡ parts_of c.args.given.now c.args.known.now c.args.fresh.now c.args.s.now = search rules in
    ok_asked_at c.problem_of.result c.args.clauses.now c.args.constants.now c.args.unfoldings.now c.args.given.now c.args.known.now c.args.fresh.now c.args.s.now c.as_slice.result.now c.in_ok-ds.ds e c.in_ok-ds.ensures c.problem_of.ensures
