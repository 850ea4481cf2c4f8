-- What the code of ancestors tells.
use Rattle.std.proofs.Common.{◌≡◌, ◌∙◌, ℕ, Bool, true, false, List, [], ◌++◌, sym, ap, subst, Option, None, Some}
use Rattle.std.specs.Prelude.{Result, Ok, Err}
use Rattle.mz_base.specs.declared.place.Place.{Place}
use Rattle.mz_core.specs.declared.outcome.Left.{Left}
use Rattle.mz_core.specs.declared.soft_type.SoftType.{SoftType}
use Rattle.mz_context.specs.declared.context.Context.{Context}
use Rattle.mz_environment.specs.declared.environment.Environment.{Environment}
use Rattle.mz_names.specs.declared.refusal.Refusal.{Refusal}
use Rattle.mz_resolve.specs.Answers.{OnRead}
use Rattle.mz_resolve.specs.Calls.{TypeRead}
use Rattle.mz_resolve.specs.declared.resolve_fault.ResolveFault.{ResolveFault}
use Rattle.mz_resolve.specs.declared.resolve_fault.ResolveFault.TheVariants as reading_fault
use Rattle.mz_tree.specs.Places.{first_place}
use Rattle.mz_tree.specs.Spell.{spell_type}
use Rattle.mz_tree.specs.Trees.{TypeData}
use Rattle.mz_tree_heading.specs.declared.structure.AncestorsTree.{AncestorsTree}
use Rattle.mz_structure_items.specs.Selectors.{selectors_of_type, are_fields}
use Rattle.mz_structure_items.specs.declared.selectors.NamedSelector.{NamedSelector}
use Rattle.mz_structure.specs.Fields as rule
use Rattle.mz_structure.specs.Fields.{Reading, reading, ReadsAncestor}
use Rattle.mz_structure.specs.Structures.{ancestor_trees}
use Rattle.mz_structure.specs.declared.ancestry.Ancestry.{Ancestry}
use Rattle.mz_structs.specs.Ends.{AncestorEnds}
use Rattle.mz_cited.specs.Cited.{members}
use Rattle.mz_taken.specs.Answers.{of_reading, OnTaken, Leads}
use Rattle.mz_taken.specs.OneByOne.{OneByOne, none_left}
use Rattle.mz_taken.specs.Taken.{Taken, Made}
use Rattle.mz_taken.specs.declared.item_fault.ItemFault.{ItemFault}
use Rattle.mz_taken.specs.declared.item_fault.ItemFault.TheVariants as fault
use Rattle.mz_taken.specs.declared.item_fault.ItemRefusal.{ItemRefusal}

-- behind the reading
pub told_unfit : (names : List (List ℕ)) (a : Ancestry) (own into xs : List NamedSelector) (b : Bool) → own ≡ xs → into ≡ a.inherited ++ own → b ≡ are_fields names into own → b ≡ false → are_fields names (a.inherited ++ xs) xs ≡ false
told_unfit names a own into xs b eo ei eb h =
    sym (eb ∙ (ap (λ ys. are_fields names ys own) ei ∙ ap (λ ys. are_fields names (a.inherited ++ ys) ys) eo)) ∙ h

pub told_fit : (names : List (List ℕ)) (a : Ancestry) (own into xs : List NamedSelector) (b : Bool) → own ≡ xs → into ≡ a.inherited ++ own → b ≡ are_fields names into own → b ≡ true → are_fields names (a.inherited ++ xs) xs ≡ true
told_fit names a own into xs b eo ei eb h =
    sym (eb ∙ (ap (λ ys. are_fields names ys own) ei ∙ ap (λ ys. are_fields names (a.inherited ++ ys) ys) eo)) ∙ h

pub ruleset end_rules = (told_unfit, told_fit)

-- the whole
not_read_on : {X : Type 0} (P : Result SoftType Refusal → Type 0) (Q : Result X ItemRefusal → Type 0) (f : ResolveFault) → ((r : Refusal) → P (Err r) → OnTaken {X = X} (Err (of_reading (reading_fault.Refused r))) Q) → OnRead {X = SoftType} (Err f) P → OnTaken {X = X} (Err (of_reading f)) Q
not_read_on P Q (reading_fault.Refused r) g h = g r h
not_read_on P Q reading_fault.Memory g h = tt

pub told_not_read : (X : Type 0) (e : Environment) (c : Context) (least : ℕ) (names : List (List ℕ)) (a b : Ancestry) (left after : Left) (t : TypeData) (p : Result SoftType ResolveFault) (f : ResolveFault) (g : ItemFault) →
    OnRead p (λ o. TypeRead e c least left t o after) → p ≡ Err f → g ≡ of_reading f → OnTaken {X = X} (Err g) (Leads (ReadsAncestor e c least names (reading a left) t) (reading b after))
told_not_read X e c least names a b left after t p f g h ep eg =
    let P : Result SoftType Refusal → Type 0 = λ o. TypeRead e c least left t o after in
    subst (λ (y : ItemFault). OnTaken {X = X} (Err y) (Leads (ReadsAncestor e c least names (reading a left) t) (reading b after))) (sym eg)
    (not_read_on P (Leads (ReadsAncestor e c least names (reading a left) t) (reading b after)) f (λ r k. rule.not_read r after k) (subst (λ q. OnRead q P) ep h))

put_on : {X : Type 0} (e : Environment) (c : Context) (least : ℕ) (names : List (List ℕ)) (a b : Ancestry) (left after : Left) (t : TypeData) (first : Place) (ty : SoftType) (z : Result X ItemFault) →
    TypeRead e c least left t (Ok ty) after → first_place (spell_type t) ≡ Some first → OnTaken z (AncestorEnds names a b first ty (selectors_of_type e.structures ty)) → OnTaken z (Leads (ReadsAncestor e c least names (reading a left) t) (reading b after))
put_on e c least names a b left after t first ty (Ok x) h ep (k, eb) = subst (λ (d : Ancestry). Leads (ReadsAncestor e c least names (reading a left) t) (reading d after) (Ok x)) (sym eb) (rule.fit ty after h k)
put_on {X} e c least names a b left after t first ty (Err (fault.Refused r)) h ep (k, er) = subst (λ q. Leads {X = X} (ReadsAncestor e c least names (reading a left) t) (reading b after) (Err q)) (sym er) (rule.unfit ty after first h ep k)
put_on e c least names a b left after t first ty (Err fault.Memory) h ep k = tt

pub told_read : {X : Type 0} (e : Environment) (c : Context) (least : ℕ) (names : List (List ℕ)) (a b : Ancestry) (left after : Left) (t : TypeData) (first : Place) (ty : SoftType) (p : Result SoftType ResolveFault) (z : Result X ItemFault) →
    OnRead p (λ o. TypeRead e c least left t o after) → p ≡ Ok ty → first_place (spell_type t) ≡ Some first → OnTaken z (AncestorEnds names a b first ty (selectors_of_type e.structures ty)) → OnTaken z (Leads (ReadsAncestor e c least names (reading a left) t) (reading b after))
told_read e c least names a b left after t first ty p z h ep ef k =
    let P : Result SoftType Refusal → Type 0 = λ o. TypeRead e c least left t o after in
    put_on e c least names a b left after t first ty z (subst (λ q. OnRead q P) ep h) ef k

-- all of them
pub told_no_trees : (one : Reading Ancestry → TypeData → Taken (Reading Ancestry) → Type 0) (a : Reading Ancestry) (t : Option AncestorsTree) → t ≡ None → OneByOne one a (ancestor_trees t) (Made [] a)
told_no_trees one a t e = subst (λ o. OneByOne one a (ancestor_trees o) (Made [] a)) (sym e) (none_left a)

pub told_trees : {X : Type 0} (one : Reading Ancestry → TypeData → Taken (Reading Ancestry) → Type 0) (a b : Reading Ancestry) (t : Option AncestorsTree) (u : AncestorsTree) (z : Result X ItemFault) → t ≡ Some u → OnTaken z (Leads (OneByOne one a (members u.types)) b) →
    OnTaken z (Leads (OneByOne one a (ancestor_trees t)) b)
told_trees one a b t u z e h = subst (λ o. OnTaken z (Leads (OneByOne one a (ancestor_trees o)) b)) (sym e) h
