use Rattle.std.proofs.Common.{◌≤◌, arith}
use Rattle.mz_nf.proofs.OneListLemmas.{length-told_few, told_small, told_none}
use Rattle.mz_nf.proofs.disjuncts.disjuncts.Goals as goal

pub returns-then-count-eq0-clause-disjuncts : goal.returns-then-count-eq0-clause-disjuncts
returns-then-count-eq0-clause-disjuncts c = told_none c.args.p.now _ _ c.new.ensures c.count_of-count.ensures c.if-count-eq0.true

pub returns-clause-count : goal.returns-clause-count
returns-clause-count c =
    let few : c.count_of-count.result ≤ 1024 = omega arith in
    length-told_few c.args.p.now _ _ c.in_ok-split.ensures c.count_of-count.ensures few

pub returns-clause-few : goal.returns-clause-few
returns-clause-few c =
    let few : c.count_of-count.result ≤ 1024 = omega arith in
    told_small c.args.p.now _ _ c.in_ok-split.ensures c.count_of-count.ensures few
