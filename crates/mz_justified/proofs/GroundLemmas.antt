-- What the code of justifications tells.
use Rattle.std.proofs.Common.{◌≡◌, List, [], ◌∷◌, refl, sym, ap, ◌∙◌, subst, Option, Some, None, Bool, true, false}
use Rattle.std.specs.Bool.{OnTrue, OnFalse}
use Rattle.std.specs.Prelude.{Result, Ok, Err, not}
use Rattle.mz_base.specs.declared.place.Place.{Place}
use Rattle.mz_core.specs.Statement.{Statement}
use Rattle.mz_core.specs.declared.outcome.Left.{Left}
use Rattle.mz_context.specs.declared.context.Context.{Context}
use Rattle.mz_environment.specs.declared.environment.Environment.{Environment}
use Rattle.mz_obligations.specs.Obligations.{obligation_spent}
use Rattle.mz_steps.specs.Premises.{in_front, given}
use Rattle.mz_tree_proof.specs.declared.references.SimpleTree.{SimpleTree}
use Rattle.mz_justified.specs.Justified as ju
use Rattle.mz_justified.specs.Justified.{place_of, Grounds}
use Rattle.mz_given.specs.Given.{statements_given, behind_some, cited_in, given_in}
use Rattle.mz_given.specs.declared.given.Given.{Given}
use Rattle.mz_given.specs.declared.given.Given.TheVariants.{ByStatements, ByScheme}
use Rattle.mz_justified.specs.declared.proof_fault.ProofRefusal.TheVariants.{StepNoFit, UnknownLabel, TooManyObligations}

-- a statement just before, where one is wanted
before_given : (linked : Bool) (c : Context) (s : Statement) (cited : List Statement) → c.previous ≡ Some s → (ss : List Statement) × (given linked c cited ≡ Some ss)
before_given false c s cited e = (cited, refl)
before_given true c s cited e = (s ∷ cited, ap (λ o. in_front o cited) e)

pub told_follows : (linked : Bool) (c : Context) (s : Statement) → c.previous ≡ Some s → (cited : List Statement) → (ss : List Statement) × (given linked c cited ≡ Some ss)
told_follows linked c s e cited = before_given linked c s cited e

pub told_unlinked : (linked b : Bool) (c : Context) → b ≡ not linked → OnTrue b ((cited : List Statement) → (ss : List Statement) × (given linked c cited ≡ Some ss))
told_unlinked false b c e = subst (λ x. OnTrue x ((cited : List Statement) → (ss : List Statement) × (given false c cited ≡ Some ss))) (sym e) (λ cited. (cited, refl))
told_unlinked true b c e = subst (λ x. OnTrue x ((cited : List Statement) → (ss : List Statement) × (given true c cited ≡ Some ss))) (sym e) tt

pub told_nothing : (linked b : Bool) (c : Context) → c.previous ≡ None → b ≡ not linked → OnFalse b (given linked c [] ≡ None)
told_nothing false b c e eb = subst (λ x. OnFalse x (given false c [] ≡ None)) (sym eb) tt
told_nothing true b c e eb = subst (λ x. OnFalse x (given true c [] ≡ None)) (sym eb) (ap (λ o. in_front o []) e)

pub ruleset follow_rules = (told_follows, told_unlinked, told_nothing)

pub told_follows_nothing : (e : Environment) (c : Context) (first : Place) (linked : Bool) (behind : Place) (t : SimpleTree) (left after : Left) (b : Bool) → OnFalse b (given linked c [] ≡ None) → b ≡ false → Grounds e c first linked behind t left (Err (StepNoFit first)) after
told_follows_nothing e c first linked behind t left after b h eb = ju.follows_nothing after (subst (λ x. OnFalse x (given linked c [] ≡ None)) eb h)

following : (linked : Bool) (c : Context) (b : Bool) → OnTrue b ((cited : List Statement) → (ss : List Statement) × (given linked c cited ≡ Some ss)) → b ≡ true → (cited : List Statement) → (ss : List Statement) × (given linked c cited ≡ Some ss)
following linked c b h eb = subst (λ x. OnTrue x ((cited : List Statement) → (ss : List Statement) × (given linked c cited ≡ Some ss))) eb h

pub told_too_many : (e : Environment) (c : Context) (first : Place) (linked : Bool) (behind place : Place) (t : SimpleTree) (left after : Left) (b k : Bool) →
    OnTrue b ((cited : List Statement) → (ss : List Statement) × (given linked c cited ≡ Some ss)) → b ≡ true → OnFalse k (obligation_spent left ≡ None) → k ≡ false → place ≡ place_of behind t →
    Grounds e c first linked behind t left (Err (TooManyObligations place)) after
told_too_many e c first linked behind place t left after b k h eb g ek ep =
    let f : (ss : List Statement) × (given linked c [] ≡ Some ss) = following linked c b h eb [] in
    subst (λ p. Grounds e c first linked behind t left (Err (TooManyObligations p)) after) (sym ep) (ju.too_many f.0 after f.1 (subst (λ x. OnFalse x (obligation_spent left ≡ None)) ek g))

spent : (left between : Left) (k : Bool) → OnTrue k (obligation_spent left ≡ Some between) → k ≡ true → obligation_spent left ≡ Some between
spent left between k g ek = subst (λ x. OnTrue x (obligation_spent left ≡ Some between)) ek g

pub told_cites_nothing : (e : Environment) (c : Context) (first : Place) (linked : Bool) (behind place : Place) (t : SimpleTree) (left between after : Left) (b k : Bool) (p : Result Given Place) →
    OnTrue b ((cited : List Statement) → (ss : List Statement) × (given linked c cited ≡ Some ss)) → b ≡ true → OnTrue k (obligation_spent left ≡ Some between) → k ≡ true → p ≡ cited_in e c t → p ≡ Err place →
    Grounds e c first linked behind t left (Err (UnknownLabel place)) after
told_cites_nothing e c first linked behind place t left between after b k p h eb g ek ep eq =
    let f : (ss : List Statement) × (given linked c [] ≡ Some ss) = following linked c b h eb [] in
    ju.cites_nothing f.0 between after place f.1 (spent left between k g ek) (sym ep ∙ eq)

pub told_grounded : (e : Environment) (c : Context) (first : Place) (linked : Bool) (behind : Place) (t : SimpleTree) (left after : Left) (k : Bool) (p : Result Given Place) (cited g : Given) (q : Option Given) →
    OnTrue k (obligation_spent left ≡ Some after) → k ≡ true → p ≡ cited_in e c t → p ≡ Ok cited → q ≡ given_in linked c cited → q ≡ Some g →
    Grounds e c first linked behind t left (Ok g) after
told_grounded e c first linked behind t left after k p cited g q h ek ep eq eg es = ju.grounded cited g after (spent left after k h ek) (sym ep ∙ eq) (sym eg ∙ es)

none_some : (g : Given) → None ≡ Some g → ⊥
none_some g h = cc

some_given : (linked : Bool) (c : Context) → ((cited : List Statement) → (ss : List Statement) × (given linked c cited ≡ Some ss)) → (cited : Given) → (g : Given) × (given_in linked c cited ≡ Some g)
some_given linked c f (ByStatements ss) = (ByStatements (f ss).0, ap statements_given (f ss).1)
some_given linked c f (ByScheme x ss) = (ByScheme x ss, ap (λ o. behind_some o (ByScheme x ss)) (f []).1)

pub told_never : (e : Environment) (c : Context) (first : Place) (linked : Bool) (behind : Place) (t : SimpleTree) (left after : Left) (b : Bool) (cited : Given) (q : Option Given) →
    OnTrue b ((cited : List Statement) → (ss : List Statement) × (given linked c cited ≡ Some ss)) → b ≡ true → q ≡ given_in linked c cited → q ≡ None → Grounds e c first linked behind t left (Err (StepNoFit first)) after
told_never e c first linked behind t left after b cited q h eb eg en =
    let f : (g : Given) × (given_in linked c cited ≡ Some g) = some_given linked c (following linked c b h eb) cited in
    absurd (none_some f.0 (sym en ∙ (eg ∙ f.1)))

pub ruleset ground_rules = (told_follows_nothing, told_too_many, told_cites_nothing, told_grounded, told_never)
