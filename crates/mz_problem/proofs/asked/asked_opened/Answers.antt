use Rattle.std.proofs.Common.{rules, ◌≡◌}
use Rattle.mz_problem.specs.Opened.{guards_from}
use Rattle.mz_problem.proofs.AskedLemmas.{ok_opened}
use Rattle.mz_problem.proofs.asked.asked_opened.Goals as goal

pub returns : goal.returns
returns c =
    let e : c.in_ok-fresh.fresh ≡ guards_from c.in_ok-from.from c.open.new.types = search rules in
    ok_opened c.asked_at.result c.args.clauses.now c.args.constants.now c.in_ok-all.all c.open.new.constants c.args.unfoldings.now c.args.given.now c.args.known.now c.in_ok-fresh.fresh c.new-types.result c.open.new.types c.in_ok-from.from c.args.s.now c.in_ok-t.t
    c.requires c.in_ok-from.ensures c.in_ok-all.ensures c.new-types.ensures c.in_ok-t.ensures.opens e c.asked_at.ensures
