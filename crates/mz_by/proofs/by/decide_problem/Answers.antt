use Rattle.std.proofs.Common.{subst, sym}
use Rattle.mz_base.specs.declared.limit.Limit.TheVariants.{Disjuncts}
use Rattle.mz_by.specs.declared.by.ByVerdict.TheVariants.{Over}
use Rattle.mz_by.specs.Verdict.{IsVerdict}
use Rattle.mz_by.proofs.LimitLemmas.{gives_count, gives_all}
use Rattle.mz_by.proofs.by.decide_problem.Goals as goal

pub returns-in-Err-TooManyDisjuncts : goal.returns-in-Err-TooManyDisjuncts
returns-in-Err-TooManyDisjuncts c = subst (λ m. IsVerdict c.args.p.now c.args.clauses.now (Over Disjuncts m)) (sym c.in-Err-TooManyDisjuncts.count-is) (gives_count c.args.p.now c.args.clauses.now _ _ c.in-Err-TooManyDisjuncts.field-0-is c.in-Err-TooManyDisjuncts.ensures.refused)

pub returns-in_ok-verdict-in-Ok : goal.returns-in_ok-verdict-in-Ok
returns-in_ok-verdict-in-Ok c = gives_all c.args.p.now c.args.clauses.now _ _ c.in-Ok.ensures.count c.in-Ok.ensures.few c.in-Ok.ensures.disjuncts c.in_ok-verdict-in-Ok.ensures
