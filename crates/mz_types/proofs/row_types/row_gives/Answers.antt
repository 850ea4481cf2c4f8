use Rattle.mz_types.proofs.RowLemmas.{told_gives}
use Rattle.mz_types.proofs.row_types.row_gives.Goals as goal

pub returns : goal.returns
returns c =
    told_gives c.args.clauses.now c.args.constants.now c.args.args.now c.formals_of-formals.result.now c.args.row.now c.in_ok-none.none c.in-Some.fixed c.loci_count-count.result c.in_ok-all_match.field-0 c.in_ok-accepted-in-Some.field-0 c.in-Some-2.values c.in_ok-r-in-Some-2.r
    c.loci_count-count.ensures c.in_ok-none.ensures c.formals_of-formals.ensures c.in_ok-all_match.ensures c.in-Some.is c.in_ok-accepted-in-Some.ensures c.in-Some-2.is c.in_ok-r-in-Some-2.ensures
