use Rattle.mz_problem.proofs.AddedLemmas.{told_nothing, told_definiens, told_negated}
use Rattle.mz_problem.proofs.added.push_definiens.Goals as goal

pub returns-in-None : goal.returns-in-None
returns-in-None c =
    told_nothing c.args.clauses.now c.args.constants.now c.args.unfoldings.now c.args.positive c.args.atom.now c.args.out.now c.in_ok-unfolds_to.field-0
    c.requires c.in_ok-unfolds_to.ensures c.in-None.is

pub returns-in_ok-push-in-Some : goal.returns-in_ok-push-in-Some
returns-in_ok-push-in-Some c =
    told_definiens c.args.clauses.now c.args.constants.now c.args.unfoldings.now c.args.positive c.args.atom.now c.in-Some.s c.args.out.now c.push.new.self c.in_ok-unfolds_to.field-0
    c.if-positive.true c.requires c.in_ok-unfolds_to.ensures c.in-Some.is c.in_ok-push-in-Some.ensures.ok

pub returns-in_ok-push-in-Some-2 : goal.returns-in_ok-push-in-Some-2
returns-in_ok-push-in-Some-2 c =
    told_negated c.args.clauses.now c.args.constants.now c.args.unfoldings.now c.args.positive c.args.atom.now c.in-Some.s c.in_ok-opposite-in-Some.field-0 c.args.out.now c.push-else-positive.new.self c.in_ok-unfolds_to.field-0
    c.if-positive.false c.requires c.in_ok-unfolds_to.ensures c.in-Some.is c.in_ok-opposite-in-Some.ensures c.in_ok-push-in-Some-2.ensures.ok
