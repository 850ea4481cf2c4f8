-- What the code of statements that are justified by the same references tells.
use Rattle.std.proofs.Common.{◌≡◌, ℕ, List, [], ◌∷◌, ◌++◌, length, Bool, true, false, refl, sym, ap, ◌∙◌, subst, Option, Some, None}
use Rattle.std.specs.Prelude.{Result, Ok, Err}
use Rattle.std.proofs.lemmas.List.{append-nil, append_assoc}
use Rattle.mz_base.specs.declared.place.Place.{Place}
use Rattle.mz_core.specs.Statement.{Statement}
use Rattle.mz_core.specs.declared.outcome.Left.{Left}
use Rattle.mz_context.specs.declared.context.Context.{Context}
use Rattle.mz_environment.specs.declared.environment.Environment.{Environment}
use Rattle.mz_fits.proofs.FitLemmas.{empty}
use Rattle.mz_tree_proof.specs.declared.references.SimpleTree.{SimpleTree}
use Rattle.mz_obligations.specs.Obligations.{obligation_spent}
use Rattle.mz_obligations.specs.declared.obligation.Extent.{Extent}
use Rattle.mz_obligations.specs.declared.obligation.Obligation.{Obligation}
use Rattle.mz_names.specs.declared.refusal.Refusal.TheVariants.{TooLarge}
use Rattle.mz_justified.specs.Answers.{OnMade}
use Rattle.mz_justified.specs.Kept.{justifications_keep}
use Rattle.mz_given.specs.declared.given.Given.{Given}
use Rattle.mz_justified.specs.Justified.{Grounds, Owes, IsPut, place_of}
use Rattle.mz_justified.specs.declared.proof_fault.ProofFault.{ProofFault}
use Rattle.mz_justified.specs.declared.proof_fault.ProofFault.TheVariants as fault
use Rattle.mz_justified.specs.declared.proof_fault.ProofRefusal.{ProofRefusal}
use Rattle.mz_justified.specs.declared.proof_fault.ProofRefusal.TheVariants.{Resolve, TooManyObligations}
use Rattle.mz_walk.specs.Walked.{Walked, Made, Refused}
use Rattle.mz_walk.specs.Introductions as it
use Rattle.mz_walk.specs.Introductions.{spent_then, spent_for, OwesEach, JustifiesEach}
use Rattle.mz_walk.specs.Answers.{IsBrought, Brings}
use Rattle.mz_performing.proofs.AnswerLemmas.{on_err, on_ok}

-- obligations spent
pub told_spent_begun : (ss : List Statement) (l : Left) → spent_for ss l ≡ spent_for ss l
told_spent_begun ss l = refl

pub told_spent_turn : (rest others : List Statement) (s : Statement) (l m : Left) (o : Option Left) → rest ≡ s ∷ others → obligation_spent l ≡ Some m → spent_for rest l ≡ o → spent_for others m ≡ o
told_spent_turn rest others s l m o er es h = ap (spent_then (spent_for others)) (sym es) ∙ (ap (λ xs. spent_for xs l) (sym er) ∙ h)

pub told_spent_stop : (rest others : List Statement) (s : Statement) (l : Left) (o : Option Left) → rest ≡ s ∷ others → obligation_spent l ≡ None → spent_for rest l ≡ o → o ≡ None
told_spent_stop rest others s l o er es h = sym (ap (spent_then (spent_for others)) (sym es) ∙ (ap (λ xs. spent_for xs l) (sym er) ∙ h))

pub told_spent_end : (rest : List Statement) (l : Left) (o : Option Left) → length rest ≡ 0 → spent_for rest l ≡ o → o ≡ Some l
told_spent_end rest l o er h = sym (ap (λ xs. spent_for xs l) (sym (empty rest er)) ∙ h)

pub ruleset spend_rules = (told_spent_begun, told_spent_turn, told_spent_stop, told_spent_end)

-- obligations put one after another
pub record Obliging (e : Environment) (at : Extent) (c : Context) (given : Given) (place : Place) (rest all : List Statement) (new old : List Obligation) : Type 0 where
  pub made : List Obligation
  pub are_last : new ≡ old ++ made
  pub owed : (os : List Obligation) → OwesEach e at c given place rest os → OwesEach e at c given place all (made ++ os)

pub told_obliging : (e : Environment) (at : Extent) (c : Context) (given : Given) (place : Place) (all : List Statement) (os : List Obligation) → Obliging e at c given place all all os os
told_obliging e at c given place all os = record { made = []; are_last = sym (append-nil os); owed = λ ps h. h }

pub told_obliged : (e : Environment) (at : Extent) (c : Context) (given : Given) (place : Place) (rest others all : List Statement) (s : Statement) (next new old : List Obligation) → rest ≡ s ∷ others → IsPut (Owes e at c given s place) new next →
    Obliging e at c given place rest all new old → Obliging e at c given place others all next old
told_obliged e at c given place rest others all s next new old er p g =
    record {
      made = g.made ++ p.obligation ∷ [];
      are_last = p.is_last ∙ (ap (λ xs. xs ++ p.obligation ∷ []) g.are_last ∙ append_assoc old g.made (p.obligation ∷ []));
      owed = λ os h. subst (OwesEach e at c given place all) (sym (append_assoc g.made (p.obligation ∷ []) os))
          (g.owed (p.obligation ∷ os) (subst (λ xs. OwesEach e at c given place xs (p.obligation ∷ os)) (sym er) (it.owes_more s others p.obligation os p.is_owed h)));
    }

pub told_all_obliged : (e : Environment) (at : Extent) (c : Context) (given : Given) (place : Place) (rest all : List Statement) (new old : List Obligation) → length rest ≡ 0 → Obliging e at c given place rest all new old →
    IsBrought (OwesEach e at c given place all) old new
told_all_obliged e at c given place rest all new old er g =
    record {
      made = g.made;
      is_made = subst (OwesEach e at c given place all) (append-nil g.made) (g.owed [] (subst (λ xs. OwesEach e at c given place xs []) (sym (empty rest er)) it.owes_none));
      are_last = g.are_last;
    }

pub ruleset oblige_rules = (told_obliging, told_obliged, told_all_obliged)

-- all together
pub told_none : (e : Environment) (at : Extent) (c : Context) (first : Place) (linked : Bool) (place : Place) (t : SimpleTree) (ss : List Statement) (l : Left) (os : List Obligation) → length ss ≡ 0 →
    IsBrought (λ ps. JustifiesEach e at c first linked place t ss l (Made ps l)) os os
told_none e at c first linked place t ss l os er =
    record { made = []; is_made = subst (λ xs. JustifiesEach e at c first linked place t xs l (Made [] l)) (sym (empty ss er)) (it.none_owed l); are_last = sym (append-nil os) }

kept_of : (e : Environment) (c : Context) (linked : Bool) (t : SimpleTree) (ss more : List Statement) (s : Statement) → justifications_keep e c linked t ss ≡ true → ss ≡ s ∷ more → justifications_keep e c linked t (s ∷ more) ≡ true
kept_of e c linked t ss more s n er = subst (λ xs. justifications_keep e c linked t xs ≡ true) er n

true_false : true ≡ false → ⊥
true_false e = cc

large_of : (e : Environment) (at : Extent) (c : Context) (first : Place) (linked : Bool) (place : Place) (t : SimpleTree) (ss : List Statement) (l : Left) → justifications_keep e c linked t ss ≡ false → JustifiesEach e at c first linked place t ss l (Refused (Resolve (TooLarge first)))
large_of e at c first linked place t [] l n = absurd (true_false n)
large_of e at c first linked place t (s ∷ ss) l n = it.too_large s ss l n

pub told_too_large : (X : Type 0) (e : Environment) (at : Extent) (c : Context) (first : Place) (linked : Bool) (place : Place) (t : SimpleTree) (slice ss : List Statement) (l after : Left) (os ps : List Obligation) (b : Bool) (f : ProofFault) →
    b ≡ justifications_keep e c linked t slice → slice ≡ ss → b ≡ false → f ≡ fault.Refused (Resolve (TooLarge first)) → OnMade {X = X} (Err f) (Brings (λ o. JustifiesEach e at c first linked place t ss l o) after os ps)
told_too_large X e at c first linked place t slice ss l after os ps b f eb es n ef =
    subst (λ y. OnMade {X = X} (Err y) (Brings (λ o. JustifiesEach e at c first linked place t ss l o) after os ps)) (sym ef)
    (large_of e at c first linked place t ss l (ap (justifications_keep e c linked t) (sym es) ∙ (sym eb ∙ n)))

pub told_too_many : (e : Environment) (at : Extent) (c : Context) (first : Place) (linked : Bool) (place p : Place) (t : SimpleTree) (ss more : List Statement) (s : Statement) (l : Left) → justifications_keep e c linked t ss ≡ true → ss ≡ s ∷ more → spent_for more l ≡ None → p ≡ place_of place t →
    JustifiesEach e at c first linked place t ss l (Refused (TooManyObligations p))
told_too_many e at c first linked place p t ss more s l n er h ep =
    subst (λ xs. JustifiesEach e at c first linked place t xs l (Refused (TooManyObligations p))) (sym er) (subst (λ x. JustifiesEach e at c first linked place t (s ∷ more) l (Refused (TooManyObligations x))) (sym ep) (it.too_many s more l (kept_of e c linked t ss more s n er) h))

pub told_not_grounded : (X : Type 0) (e : Environment) (at : Extent) (c : Context) (first : Place) (linked : Bool) (place : Place) (t : SimpleTree) (ss more : List Statement) (s : Statement) (l m after : Left) (os ps : List Obligation) (x : Result Given ProofFault) (f : ProofFault) →
    justifications_keep e c linked t ss ≡ true → ss ≡ s ∷ more → spent_for more l ≡ Some m → OnMade x (λ o. Grounds e c first linked place t m o after) → x ≡ Err f →
    OnMade {X = X} (Err f) (Brings (λ o. JustifiesEach e at c first linked place t ss l o) after os ps)
told_not_grounded X e at c first linked place t ss more s l m after os ps x f n er h g ex =
    let P : Result Given ProofRefusal → Type 0 = λ o. Grounds e c first linked place t m o after in
    let Q : Result X ProofRefusal → Type 0 = Brings (λ o. JustifiesEach e at c first linked place t ss l o) after os ps in
    on_err P Q x f ex g (λ r k. subst (λ xs. JustifiesEach e at c first linked place t xs l (Refused r)) (sym er) (it.not_grounded s more l m after r (kept_of e c linked t ss more s n er) h k))

pub told_each_owed : (e : Environment) (at : Extent) (c : Context) (first : Place) (linked : Bool) (place p : Place) (t : SimpleTree) (ss more : List Statement) (given : Given) (s : Statement) (l m after : Left) (os ps : List Obligation) (x : Result Given ProofFault) →
    justifications_keep e c linked t ss ≡ true → ss ≡ s ∷ more → spent_for more l ≡ Some m → OnMade x (λ o. Grounds e c first linked place t m o after) → x ≡ Ok given → p ≡ place_of place t → IsBrought (OwesEach e at c given p ss) os ps →
    IsBrought (λ qs. JustifiesEach e at c first linked place t ss l (Made qs after)) os ps
told_each_owed e at c first linked place p t ss more given s l m after os ps x n er h g ex ep b =
    let P : Result Given ProofRefusal → Type 0 = λ o. Grounds e c first linked place t m o after in
    let owed : OwesEach e at c given (place_of place t) (s ∷ more) b.made = subst (λ xs. OwesEach e at c given (place_of place t) xs b.made) er (subst (λ y. OwesEach e at c given y ss b.made) ep b.is_made) in
    record {
      made = b.made;
      is_made = subst (λ xs. JustifiesEach e at c first linked place t xs l (Made b.made after)) (sym er) (it.each_owed s more given l m after b.made (kept_of e c linked t ss more s n er) h (on_ok P x given ex g) owed);
      are_last = b.are_last;
    }

brought_as : (e : Environment) (at : Extent) (c : Context) (given : Given) (p : Place) (slice ss : List Statement) (os ps : List Obligation) → slice ≡ ss → IsBrought (OwesEach e at c given p slice) os ps → IsBrought (OwesEach e at c given p ss) os ps
brought_as e at c given p slice ss os ps es b = subst (λ xs. IsBrought (OwesEach e at c given p xs) os ps) es b

pub told_owed_of : (e : Environment) (at : Extent) (c : Context) (first : Place) (linked : Bool) (place p : Place) (t : SimpleTree) (slice ss more : List Statement) (given : Given) (s : Statement) (l m after : Left) (os ps : List Obligation) (x : Result Given ProofFault) →
    justifications_keep e c linked t ss ≡ true → ss ≡ s ∷ more → spent_for more l ≡ Some m → OnMade x (λ o. Grounds e c first linked place t m o after) → x ≡ Ok given → p ≡ place_of place t → slice ≡ ss → IsBrought (OwesEach e at c given p slice) os ps →
    IsBrought (λ qs. JustifiesEach e at c first linked place t ss l (Made qs after)) os ps
told_owed_of e at c first linked place p t slice ss more given s l m after os ps x n er h g ex ep es b =
    told_each_owed e at c first linked place p t ss more given s l m after os ps x n er h g ex ep (brought_as e at c given p slice ss os ps es b)

pub ruleset justify_rules = (told_none, told_too_many, told_not_grounded, told_each_owed)

pub ruleset large_rules = (told_too_large)
