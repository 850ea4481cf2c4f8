use Rattle.mz_terms.proofs.BaseLemmas.{told_field, told_braces, told_squares}
use Rattle.mz_terms.proofs.bases.close_base.Goals as goal

pub returns-in_ok-o-in-Selector : goal.returns-in_ok-o-in-Selector
returns-in_ok-o-in-Selector c = told_field _ _ _ _ _ _ _ _ c.in-Selector.is (c.in_ok-o-in-Selector.ensures c.args.least c.args.ts)

pub returns-in_ok-o-in-Braces : goal.returns-in_ok-o-in-Braces
returns-in_ok-o-in-Braces c = told_braces _ _ _ _ _ _ _ _ _ c.in-Braces.is c.in_ok-o-in-Braces.ensures

pub returns-in_ok-o-in-Squares : goal.returns-in_ok-o-in-Squares
returns-in_ok-o-in-Squares c = told_squares _ _ _ _ _ _ _ _ _ c.in-Squares.is c.in_ok-o-in-Squares.ensures
