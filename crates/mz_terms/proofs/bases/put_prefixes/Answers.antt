use Rattle.mz_terms.proofs.PrefixLemmas.{told_stops, told_goes_on, told_choice_of, told_choice_over}
use Rattle.mz_terms.proofs.bases.put_prefixes.Goals as goal

pub returns-in-Err : goal.returns-in-Err
returns-in-Err c = told_stops _ _ _ _ c.args.prefixes.now _ _ _ _ _ _ _ _ c.in-Some.ensures.cases.0 c.in-Selector.is c.in_ok-r-in-Selector.ensures c.in-Err.is c.loop-last.invariant

pub returns-in-ChoiceOf : goal.returns-in-ChoiceOf
returns-in-ChoiceOf c = told_choice_of _ _ _ _ c.args.prefixes.now _ _ _ _ _ _ _ _ c.in-Some.ensures.cases.0 c.in-ChoiceOf.is c.loop-last.invariant

pub returns-in-ChoiceOver : goal.returns-in-ChoiceOver
returns-in-ChoiceOver c = told_choice_over _ _ _ _ c.args.prefixes.now _ _ _ _ _ _ _ _ c.in-Some.ensures.cases.0 c.in-ChoiceOver.is c.loop-last.invariant

pub loop-last-preserved : goal.loop-last-preserved
loop-last-preserved c = told_goes_on _ _ _ _ c.args.prefixes.now _ _ _ _ _ _ _ _ c.in-Some.ensures.cases.0 c.in-Selector.is c.in_ok-r-in-Selector.ensures c.in-Ok.is c.loop-last.invariant
