-- An article has one outcome at most.
use Rattle.std.proofs.Common.{◌≡◌, List, length, ap, subst}
use Rattle.std.specs.Prelude.{Ok, Err}
use Rattle.mz_base.specs.declared.name.Name.{Name}
use Rattle.mz_base.specs.declared.head.Directive.{Directive}
use Rattle.mz_core.specs.declared.fault.Fault.{Fault}
use Rattle.mz_core.specs.declared.outcome.Outcome.{Outcome}
use Rattle.mz_obligations.specs.declared.obligation.Obligation.{Obligation}
use Rattle.mz_tree_item.specs.declared.article.ArticlePartTree.{ArticlePartTree}
use Rattle.mz_front.specs.declared.front.Front.{Front}
use Rattle.mz_front.proofs.OneFront.{one_front}
use Rattle.mz_judged.proofs.OneJudgement.{one_judgement}
use Rattle.mz_standing.specs.Standing.{standing_at_start}
use Rattle.mz_standing.specs.declared.standing.Standing.{Standing}
use Rattle.mz_article.specs.Told.{item_told}
use Rattle.mz_article.specs.Outcome as rule
use Rattle.mz_article.specs.Outcome.{export_of, outcome_by, rejected, IsDecided, IsOutcomeFrom, IsOutcome}
use Rattle.mz_axioms.specs.Checker.{HasOneOutcome}
use Rattle.mz_article_laws.proofs.Determined.{AreDetermined, determined}
use Rattle.mz_article_laws.proofs.Outcomes.{good_same, bad_same, good_or_bad, made_or_refused, same_refusal, same_obligations, same_made}
use Rattle.mz_article_laws.proofs.OneItems.{one_items}

one_decided : (name : Name) (ds : List Directive) (s : Standing) (os : List Obligation) (o p : Outcome) → IsDecided name ds s os o → IsDecided name ds s os p → o ≡ p
one_decided name ds s os o p (rule.decided fs h) (rule.decided gs k) = ap (outcome_by (export_of name ds s.items)) (one_judgement s.clauses os fs gs h k)

one_from : AreDetermined → (name : Name) (ds : List Directive) (parts : List ArticlePartTree) (s : Standing) (o p : Outcome) → IsOutcomeFrom name ds parts s o → IsOutcomeFrom name ds parts s p → o ≡ p
one_from once name ds parts s o p (rule.stopped r h) (rule.stopped q k) = ap (λ x. rejected (item_told x)) (same_refusal {X = Standing} r q (one_items once h k))
one_from once name ds parts s o p (rule.stopped r h) (rule.judged t os _ k d) = absurd (made_or_refused os t r (one_items once k h))
one_from once name ds parts s o p (rule.judged t os _ h d) (rule.stopped r k) = absurd (made_or_refused os t r (one_items once h k))
one_from once name ds parts s o p (rule.judged t os _ h d) (rule.judged u ps _ k f) =
    let both = one_items once h k in
    one_decided name ds u ps o p (subst (λ x. IsDecided name ds x ps o) (same_made os ps t u both) (subst (λ x. IsDecided name ds t x o) (same_obligations os ps t u both) d)) f

outcomes_same : AreDetermined → HasOneOutcome IsOutcome
outcomes_same once name vs exports bytes o p (rule.refused f h) (rule.refused g k) = ap (λ x. rejected x) (bad_same {X = Front} f g (one_front vs exports bytes (Err f) (Err g) h k))
outcomes_same once name vs exports bytes o p (rule.refused f h) (rule.read x _ k d) = absurd (good_or_bad x f (one_front vs exports bytes (Ok x) (Err f) k h))
outcomes_same once name vs exports bytes o p (rule.read x _ h d) (rule.refused f k) = absurd (good_or_bad x f (one_front vs exports bytes (Ok x) (Err f) h k))
outcomes_same once name vs exports bytes o p (rule.read x _ h d) (rule.read y _ k f) =
    let same : x ≡ y = good_same {F = Fault} x y (one_front vs exports bytes (Ok x) (Ok y) h k) in
    one_from once name y.head y.tree.parts (standing_at_start name (length bytes) y.environment) o p
    (subst (λ (z : Front). IsOutcomeFrom name z.head z.tree.parts (standing_at_start name (length bytes) z.environment) o) same d) f

pub one_outcome : HasOneOutcome IsOutcome
one_outcome = outcomes_same determined
