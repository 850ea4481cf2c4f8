use Rattle.std.proofs.Common.{rules}
use Rattle.mz_thesis.proofs.UnfoldingLemmas.{told_fit}
use Rattle.mz_thesis.proofs.unfolds.gives.Goals as goal

pub returns : goal.returns
returns c =
    told_fit c.args.clauses.now c.args.constants.now c.args.terms.now c.as_slice-us.result.now c.in_ok-formals.formals c.args.one.now c.in_ok-none.none c.in-Some.fixed c.len-count.result c.in_ok-all_match.field-0 c.in_ok-accepted-in-Some.field-0 c.in-Some-2.values
    c.in_ok-s-in-Some-2.s (search rules) (search rules) (search rules) (search rules) (search rules) c.in-Some.is (search rules) c.in-Some-2.is (search rules)
