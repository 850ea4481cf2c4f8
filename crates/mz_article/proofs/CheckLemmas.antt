-- What the code of the check tells.
use Rattle.std.proofs.Common.{◌≡◌, ℕ, List, [], ◌∷◌, ◌++◌, length, refl, sym, ap, subst, ◌∙◌}
use Rattle.std.specs.Prelude.{Result, Ok, Err, IfOk}
use Rattle.std.specs.declared.alloc.AllocError.{AllocError}
use Rattle.mz_base.specs.NamedText.{NamedText}
use Rattle.mz_base.specs.declared.name.Name.{Name}
use Rattle.mz_base.specs.declared.head.Directive.{Directive}
use Rattle.mz_core.specs.declared.outcome.Export.{Export}
use Rattle.mz_core.specs.declared.fault.Fault.{Fault}
use Rattle.mz_core.specs.declared.item.Item.{Item}
use Rattle.mz_core.specs.declared.outcome.Outcome.{Outcome}
use Rattle.mz_obligations.specs.declared.obligation.Obligation.{Obligation}
use Rattle.mz_taken.specs.declared.item_fault.ItemFault.{ItemFault}
use Rattle.mz_taken.specs.declared.item_fault.ItemFault.TheVariants as fault
use Rattle.mz_taken.specs.declared.item_fault.ItemRefusal.{ItemRefusal}
use Rattle.mz_taken.specs.Answers.{OnTaken, Brings}
use Rattle.mz_taken.specs.Taken.{Made, Refused}
use Rattle.mz_taken.proofs.OneByOneProofs.{on_ok}
use Rattle.mz_tree_item.specs.declared.article.ArticlePartTree.{ArticlePartTree}
use Rattle.mz_front.specs.Front.{IsFront, OnTold}
use Rattle.mz_front.specs.declared.front.Front.{Front}
use Rattle.mz_front.specs.declared.front_fault.FrontFault.{FrontFault}
use Rattle.mz_front.specs.declared.front_fault.FrontFault.TheVariants as told
use Rattle.mz_judged.specs.Judged.{AreJudged}
use Rattle.mz_standing.specs.Standing.{standing_at_start}
use Rattle.mz_standing.specs.declared.standing.Standing.{Standing}
use Rattle.mz_article_items.specs.Items.{AreItems}
use Rattle.mz_article.specs.Told.{item_told}
use Rattle.mz_article.specs.Outcome as rule
use Rattle.mz_article.specs.Outcome.{export_of, outcome_by, rejected, IsDecided, IsOutcomeFrom, IsOutcome}

if_same : (P : Outcome → Type 0) (r : Result Outcome AllocError) (x : Outcome) → IfOk r (λ o. o ≡ x) → P x → IfOk r P
if_same P (Ok o) x e h = subst P (sym e) h
if_same P (Err a) x e h = tt

pub told_decided : (name : Name) (ds : List Directive) (s : Standing) (os : List Obligation) (fs : List Fault) (xs : List Item) (r : Result Outcome AllocError) → AreJudged s.clauses os fs → xs ≡ s.items →
    IfOk r (λ o. o ≡ outcome_by (export_of name ds xs) fs) → IfOk r (IsDecided name ds s os)
told_decided name ds s os fs xs r h e k = if_same (IsDecided name ds s os) r (outcome_by (export_of name ds s.items) fs) (subst (λ ys. IfOk r (λ o. o ≡ outcome_by (export_of name ds ys) fs)) e k) (rule.decided fs h)

pub ruleset judged_rules = (told_decided)

pub told_judged : {X : Type 0} (name : Name) (ds : List Directive) (parts : List ArticlePartTree) (s t : Standing) (none os : List Obligation) (z : Result X ItemFault) (v : X) (r : Result Outcome AllocError) →
    none ≡ [] → OnTaken z (Brings (AreItems s parts) t none os) → z ≡ Ok v → IfOk r (IsDecided name ds t os) → IfOk r (IsOutcomeFrom name ds parts s)
told_judged name ds parts s t none os z v (Ok o) en h e k =
    let b = on_ok (Brings (AreItems s parts) t none os) z v e h in
    let all : os ≡ b.made = b.are_last ∙ ap (λ xs. xs ++ b.made) en in
    rule.judged t os o (subst (λ xs. AreItems s parts (Made xs t)) (sym all) b.is_made) k
told_judged name ds parts s t none os z v (Err a) en h e k = tt

-- the outcome of what was refused
abbrev pub ItemsRefused : ItemFault → Outcome → Type 0
ItemsRefused g o = (q : ItemRefusal) × (g ≡ fault.Refused q) × (o ≡ rejected (item_told q))

refused_with : (name : Name) (ds : List Directive) (parts : List ArticlePartTree) (s : Standing) (q : ItemRefusal) (o : Outcome) → AreItems s parts (Refused q) → o ≡ rejected (item_told q) → IsOutcomeFrom name ds parts s o
refused_with name ds parts s q o h e = subst (λ (p : Outcome). IsOutcomeFrom name ds parts s p) (sym e) (rule.stopped q h)

pub told_stopped : {X : Type 0} (name : Name) (ds : List Directive) (parts : List ArticlePartTree) (s t : Standing) (none os : List Obligation) (z : Result X ItemFault) (g : ItemFault) (r : Result Outcome AllocError) →
    OnTaken z (Brings (AreItems s parts) t none os) → z ≡ Err g → IfOk r (ItemsRefused g) → IfOk r (IsOutcomeFrom name ds parts s)
told_stopped name ds parts s t none os z g (Ok o) h e (q, eg, eo) =
    refused_with name ds parts s q o (subst (λ y. OnTaken y (Brings (AreItems s parts) t none os)) (e ∙ ap Err eg) h) eo
told_stopped name ds parts s t none os z g (Err a) h e k = tt

pub ruleset parts_rules = (told_judged, told_stopped)

pub told_started : (name : Name) (ds es : List Directive) (parts qs : List ArticlePartTree) (s t : Standing) (r : Result Outcome AllocError) → ds ≡ es → parts ≡ qs → s ≡ t → IfOk r (IsOutcomeFrom name ds parts s) → IfOk r (IsOutcomeFrom name es qs t)
told_started name ds es parts qs s t r ed ep e h = subst (λ (x : List Directive). IfOk r (IsOutcomeFrom name x qs t)) ed (subst (λ (x : List ArticlePartTree). IfOk r (IsOutcomeFrom name ds x t)) ep (subst (λ (u : Standing). IfOk r (IsOutcomeFrom name ds parts u)) e h))

pub ruleset front_rules = (told_started)

pub told_read : (name : Name) (vs : List NamedText) (exports : List Export) (bytes : List ℕ) (z : Result Front FrontFault) (x : Front) (n : ℕ) (r : Result Outcome AllocError) → OnTold z (IsFront vs exports bytes) → z ≡ Ok x → n ≡ length bytes →
    IfOk r (IsOutcomeFrom name x.head x.tree.parts (standing_at_start name n x.environment)) → IfOk r (IsOutcome name vs exports bytes)
told_read name vs exports bytes z x n (Ok o) h e en k =
    rule.read x o (subst (λ y. OnTold y (IsFront vs exports bytes)) e h) (subst (λ m. IsOutcomeFrom name x.head x.tree.parts (standing_at_start name m x.environment) o) en k)
told_read name vs exports bytes z x n (Err a) h e en k = tt

abbrev pub FrontRefused : FrontFault → Outcome → Type 0
FrontRefused g o = (f : Fault) × (g ≡ told.Refused f) × (o ≡ rejected f)

pub told_refused : (name : Name) (vs : List NamedText) (exports : List Export) (bytes : List ℕ) (z : Result Front FrontFault) (g : FrontFault) (r : Result Outcome AllocError) → OnTold z (IsFront vs exports bytes) → z ≡ Err g →
    IfOk r (FrontRefused g) → IfOk r (IsOutcome name vs exports bytes)
told_refused name vs exports bytes z g (Ok o) h e (f, eg, eo) =
    subst (λ (p : Outcome). IsOutcome name vs exports bytes p) (sym eo) (rule.refused f (subst (λ y. OnTold y (IsFront vs exports bytes)) (e ∙ ap Err eg) h))
told_refused name vs exports bytes z g (Err a) h e k = tt

pub ruleset outcome_rules = (told_read, told_refused)
