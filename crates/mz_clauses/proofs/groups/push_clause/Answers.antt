use Rattle.std.proofs.Common.{◌≡◌, ◌++◌, sym, ap, ◌∙◌, List, false}
use Rattle.std.proofs.lemmas.List.{append-nil}
use Rattle.mz_ground.specs.Variables.{has_all_below}
use Rattle.mz_ground.specs.declared.clause.Clause.{Clause}
use Rattle.mz_clauses.proofs.GroupLemmas.{no_clause, one_clause}
use Rattle.mz_clauses.proofs.groups.push_clause.Goals as goal

pub returns-in_ok-push-in-Some : goal.returns-in_ok-push-in-Some
returns-in_ok-push-in-Some c =
    c.in_ok-push-in-Some.ensures.ok ∙
    ap (λ (cs : List Clause). c.args.out.now ++ cs)
    (sym (one_clause c.in-Some.c _ _ _ _ c.in-Some.ensures.0 (c.in-Some.ensures.1 ∙ c.in_ok-trigger.ensures) (c.in-Some.ensures.2 ∙ c.in_ok-premises.ensures) (c.in-Some.ensures.3 ∙ c.in_ok-conclusion.ensures)))

pub returns-in-None : goal.returns-in-None
returns-in-None c =
    let lacks : has_all_below c.args.g.now.variables c.args.g.now.trigger ≡ false =
    ap (has_all_below c.args.g.now.variables) (sym c.in_ok-trigger.ensures) ∙ c.in-None.ensures in
    sym (append-nil c.args.out.now) ∙
    ap (λ (cs : List Clause). c.args.out.now ++ cs)
    (sym (no_clause c.args.g.now.variables c.args.g.now.trigger c.args.g.now.premises c.args.conclusion.now lacks))
