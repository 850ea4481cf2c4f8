use Rattle.std.proofs.Common.{rules, ◌≡◌}
use Rattle.mz_problem.specs.Asked.{known_in, formulas_of}
use Rattle.mz_problem.proofs.AskedLemmas.{ok_as_it_is}
use Rattle.mz_problem.proofs.asked.asked.Goals as goal

pub returns : goal.returns
returns c =
    let e : c.in_ok-known.known ≡ known_in c.args.constants.now (formulas_of c.args.given.now c.args.s.now) = search rules in
    ok_as_it_is c.asked_at.result c.args.clauses.now c.args.constants.now c.args.unfoldings.now c.args.given.now c.in_ok-known.known c.new-fresh.result c.is_universal.result c.args.s.now
    e c.is_universal.ensures c.if-is_universal.false c.new-fresh.ensures c.asked_at.ensures
