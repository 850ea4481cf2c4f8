use Rattle.mz_fits.proofs.MatchLemmas.{told_one_fails, told_one_more, told_all, told_few, told_many, fewer_sizes}
use Rattle.mz_fits.proofs.matches.+matching.Goals as goal

pub all_match-returns-in_default-split_first : goal.all_match-returns-in_default-split_first
all_match-returns-in_default-split_first t c =
    told_many c.args.clauses.now c.args.constants.now c.args.scope c.args.fixed c.loop-u.between c.in-Some.u.now c.args.formals.now c.args.terms.now c.loop-u.us.now c.in-Some.other_us.now c.loop-u.ts.now
    c.in-Some.ensures.cases.0 c.in_default-split_first.ensures.cases c.loop-u.invariant.1

pub all_match-returns-in-None : goal.all_match-returns-in-None
all_match-returns-in-None t c =
    told_one_fails c.args.clauses.now c.args.constants.now c.args.scope c.args.fixed c.loop-u.between c.in-Some.u.now c.in-Some-split_first.t.now c.args.formals.now c.args.terms.now c.loop-u.us.now c.in-Some.other_us.now c.loop-u.ts.now c.in-Some-split_first.other_ts.now c.in_ok-behind.field-0
    c.in-Some.ensures.cases.0 c.in-Some-split_first.ensures.cases.0 c.in_ok-behind.ensures c.in-None.is c.loop-u.invariant.1

pub all_match-loop-u-preserved : goal.all_match-loop-u-preserved
all_match-loop-u-preserved t c = (
  fewer_sizes c.in-Some.u.now c.loop-u.us.now c.in-Some.other_us.now c.args.formals.now c.in-Some.ensures.cases.0 c.loop-u.invariant.0,
  told_one_more c.args.clauses.now c.args.constants.now c.args.scope c.args.fixed c.loop-u.between c.in-Some-2.behind c.in-Some.u.now c.in-Some-split_first.t.now c.args.formals.now c.args.terms.now c.loop-u.us.now c.in-Some.other_us.now c.loop-u.ts.now c.in-Some-split_first.other_ts.now c.in_ok-behind.field-0
      c.in-Some.ensures.cases.0 c.in-Some-split_first.ensures.cases.0 c.in_ok-behind.ensures c.in-Some-2.is c.loop-u.invariant.1,
)

pub all_match-returns-then-ts-eq0 : goal.all_match-returns-then-ts-eq0
all_match-returns-then-ts-eq0 t c =
    told_all c.args.clauses.now c.args.constants.now c.args.scope c.args.fixed c.loop-u.between c.args.formals.now c.args.terms.now c.loop-u.us.now c.loop-u.ts.now c.in_default.ensures.cases c.if-ts-eq0.true c.loop-u.invariant.1

pub all_match-returns-else-ts-eq0 : goal.all_match-returns-else-ts-eq0
all_match-returns-else-ts-eq0 t c =
    told_few c.args.clauses.now c.args.constants.now c.args.scope c.args.fixed c.loop-u.between c.args.formals.now c.args.terms.now c.loop-u.us.now c.loop-u.ts.now c.in_default.ensures.cases c.if-ts-eq0.false c.loop-u.invariant.1
