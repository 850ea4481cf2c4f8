-- What the code of obligations tells.
use Rattle.std.proofs.Common.{◌≡◌, List, [], ◌∷◌, ◌++◌, refl, sym, ◌∙◌, subst, Option, Some, None, Bool, true, false}
use Rattle.std.specs.Prelude.{Result, Ok, Err, MatchOption}
use Rattle.mz_base.specs.declared.place.Place.{Place}
use Rattle.mz_core.specs.Statement.{Statement}
use Rattle.mz_core.specs.declared.outcome.Left.{Left}
use Rattle.mz_context.specs.declared.context.Context.{Context}
use Rattle.mz_environment.specs.declared.environment.Environment.{Environment}
use Rattle.mz_ground.specs.declared.clause.Clause.{Clause}
use Rattle.mz_types.specs.Known.{letters_clauses, typing}
use Rattle.mz_obligations.specs.Obligations.{IsObligation}
use Rattle.mz_obligations.specs.declared.obligation.Extent.{Extent}
use Rattle.mz_obligations.specs.declared.obligation.Obligation.{Obligation}
use Rattle.mz_tree_proof.specs.declared.references.SimpleTree.{SimpleTree}
use Rattle.mz_core.specs.declared.scheme.Scheme.{Scheme}
use Rattle.mz_obligations.specs.declared.obligation.Duty.TheVariants.{From}
use Rattle.mz_obligations.specs.declared.obligation.SchemeVerdict.{SchemeVerdict}
use Rattle.mz_from.specs.Verdict.{IsVerdict}
use Rattle.mz_given.specs.declared.given.Given.{Given}
use Rattle.mz_given.specs.declared.given.Given.TheVariants.{ByStatements, ByScheme}
use Rattle.mz_names.specs.declared.refusal.Refusal.TheVariants.{TooLarge}
use Rattle.mz_justified.specs.Answers.{OnMade}
use Rattle.mz_justified.specs.Kept.{justification_keeps}
use Rattle.mz_justified.specs.Justified as ju
use Rattle.mz_justified.specs.Justified.{place_of, Grounds, Owes, Justified, IsPut, Put}
use Rattle.mz_justified.specs.declared.proof_fault.ProofRefusal.TheVariants.{Resolve}
use Rattle.mz_justified.specs.declared.proof_fault.ProofFault.{ProofFault}
use Rattle.mz_justified.specs.declared.proof_fault.ProofFault.TheVariants.{Refused, Memory}

-- by these clauses
pub told_owed : (e : Environment) (at : Extent) (c : Context) (ss : List Statement) (s : Statement) (place : Place) (cs ds ls : List Clause) (q : Option (List Clause)) (o : Obligation) →
    MatchOption q (typing e c ≡ e.typing) (λ xs. xs ≡ typing e c) → q ≡ Some cs → ds ≡ cs → ls ≡ letters_clauses c.letters → IsObligation ds e.expansions c.constants ss s place at ls o → Owes e at c (ByStatements ss) s place o
told_owed e at c ss s place cs ds ls q o h eq ed el k =
    let is : cs ≡ typing e c = subst (λ x. MatchOption x (typing e c ≡ e.typing) (λ xs. xs ≡ typing e c)) eq h in
    subst (λ x. IsObligation x e.expansions c.constants ss s place at (letters_clauses c.letters) o) (ed ∙ is) (subst (λ x. IsObligation ds e.expansions c.constants ss s place at x o) el k)

pub told_owed_plainly : (e : Environment) (at : Extent) (c : Context) (ss : List Statement) (s : Statement) (place : Place) (ds ls : List Clause) (q : Option (List Clause)) (o : Obligation) →
    MatchOption q (typing e c ≡ e.typing) (λ xs. xs ≡ typing e c) → q ≡ None → ds ≡ e.typing → ls ≡ letters_clauses c.letters → IsObligation ds e.expansions c.constants ss s place at ls o → Owes e at c (ByStatements ss) s place o
told_owed_plainly e at c ss s place ds ls q o h eq ed el k =
    let is : typing e c ≡ e.typing = subst (λ x. MatchOption x (typing e c ≡ e.typing) (λ xs. xs ≡ typing e c)) eq h in
    subst (λ x. IsObligation x e.expansions c.constants ss s place at (letters_clauses c.letters) o) (ed ∙ sym is) (subst (λ x. IsObligation ds e.expansions c.constants ss s place at x o) el k)

pub ruleset owe_rules = (told_owed, told_owed_plainly)

-- what is found by these clauses
pub told_verdict : (e : Environment) (c : Context) (x : Scheme) (cited : List Statement) (s : Statement) (cs ds : List Clause) (q : Option (List Clause)) (v : SchemeVerdict) →
    MatchOption q (typing e c ≡ e.typing) (λ xs. xs ≡ typing e c) → q ≡ Some cs → ds ≡ cs → IsVerdict ds c.constants x cited s v → IsVerdict (typing e c) c.constants x cited s v
told_verdict e c x cited s cs ds q v h eq ed k =
    let is : cs ≡ typing e c = subst (λ y. MatchOption y (typing e c ≡ e.typing) (λ xs. xs ≡ typing e c)) eq h in
    subst (λ y. IsVerdict y c.constants x cited s v) (ed ∙ is) k

pub told_verdict_plainly : (e : Environment) (c : Context) (x : Scheme) (cited : List Statement) (s : Statement) (ds : List Clause) (q : Option (List Clause)) (v : SchemeVerdict) →
    MatchOption q (typing e c ≡ e.typing) (λ xs. xs ≡ typing e c) → q ≡ None → ds ≡ e.typing → IsVerdict ds c.constants x cited s v → IsVerdict (typing e c) c.constants x cited s v
told_verdict_plainly e c x cited s ds q v h eq ed k =
    let is : typing e c ≡ e.typing = subst (λ y. MatchOption y (typing e c ≡ e.typing) (λ xs. xs ≡ typing e c)) eq h in
    subst (λ y. IsVerdict y c.constants x cited s v) (ed ∙ sym is) k

pub ruleset verdict_rules = (told_verdict, told_verdict_plainly)

pub told_followed : (e : Environment) (at : Extent) (c : Context) (x : Scheme) (cited : List Statement) (s : Statement) (place : Place) (ls : List Clause) (v : SchemeVerdict) → IsVerdict (typing e c) c.constants x cited s v → ls ≡ letters_clauses c.letters →
    Owes e at c (ByScheme x cited) s place (record { place = place; extent = at; letters = ls; duty = From v })
told_followed e at c x cited s place ls v h el = record { place_is = refl; extent_is = refl; letters_are = el; verdict = v; found = h; duty_is = refl }

pub ruleset follow_rules = (told_followed)

pub told_put : (e : Environment) (at : Extent) (c : Context) (ss : Given) (s : Statement) (place : Place) (old new : List Obligation) (o : Obligation) → Owes e at c ss s place o → new ≡ old ++ o ∷ [] → IsPut (Owes e at c ss s place) old new
told_put e at c ss s place old new o h en = record { obligation = o; is_owed = h; is_last = en }

pub ruleset oblige_rules = (told_put)

pub told_justified : (e : Environment) (at : Extent) (c : Context) (first : Place) (linked : Bool) (behind place : Place) (t : SimpleTree) (s : Statement) (left after : Left) (p : Result Given ProofFault) (ss : Given) (old new : List Obligation) →
    justification_keeps e c linked t s ≡ true → OnMade p (λ o. Grounds e c first linked behind t left o after) → p ≡ Ok ss → place ≡ place_of behind t → IsPut (Owes e at c ss s place) old new → IsPut (λ o. Justified e at c first linked behind t s left (Ok o) after) old new
told_justified e at c first linked behind place t s left after p ss old new n h ep el k =
    record {
      obligation = k.obligation;
      is_owed = ju.owed ss k.obligation after n (subst (λ q. OnMade q (λ o. Grounds e c first linked behind t left o after)) ep h) (subst (λ q. Owes e at c ss s q k.obligation) el k.is_owed);
      is_last = k.is_last;
    }

pub told_not_justified : (X : Type 0) (e : Environment) (at : Extent) (c : Context) (first : Place) (linked : Bool) (behind : Place) (t : SimpleTree) (s : Statement) (left after : Left) (p : Result Given ProofFault) (f : ProofFault) (old new : List Obligation) →
    justification_keeps e c linked t s ≡ true → OnMade p (λ o. Grounds e c first linked behind t left o after) → p ≡ Err f → OnMade {X = X} (Err f) (Put (λ o. Justified e at c first linked behind t s left o after) old new)
told_not_justified X e at c first linked behind t s left after p (Refused r) old new n h ep = ju.not_grounded r after n (subst (λ q. OnMade q (λ o. Grounds e c first linked behind t left o after)) ep h)
told_not_justified X e at c first linked behind t s left after p Memory old new n h ep = tt

pub ruleset justify_rules = (told_justified, told_not_justified)

pub told_too_large : (X : Type 0) (e : Environment) (at : Extent) (c : Context) (first : Place) (linked : Bool) (behind : Place) (t : SimpleTree) (s : Statement) (left after : Left) (b : Bool) (f : ProofFault) (old new : List Obligation) →
    b ≡ justification_keeps e c linked t s → b ≡ false → f ≡ Refused (Resolve (TooLarge first)) → OnMade {X = X} (Err f) (Put (λ o. Justified e at c first linked behind t s left o after) old new)
told_too_large X e at c first linked behind t s left after b f old new eb n ef =
    subst (λ y. OnMade {X = X} (Err y) (Put (λ o. Justified e at c first linked behind t s left o after) old new)) (sym ef) (ju.too_large after (sym eb ∙ n))

pub ruleset large_rules = (told_too_large)
