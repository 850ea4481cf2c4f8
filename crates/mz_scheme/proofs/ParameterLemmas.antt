-- What the code that takes the parameters of a scheme tells.
use Rattle.std.proofs.Common.{◌≡◌, ℕ, List, [], map, sym, ap, subst, ◌∙◌, Option, true, false}
use Rattle.std.specs.Prelude.{Bool, Result, Ok, Err, if◌then◌else◌}
use Rattle.mz_base.specs.declared.place.Place.{Place}
use Rattle.mz_core.specs.declared.outcome.Left.{Left}
use Rattle.mz_core.specs.declared.soft_type.SoftType.{SoftType}
use Rattle.mz_context.specs.declared.context.Context.{Context}
use Rattle.mz_environment.specs.declared.environment.Environment.{Environment}
use Rattle.mz_names.specs.declared.refusal.Refusal.{Refusal}
use Rattle.mz_names.specs.declared.refusal.Refusal.TheVariants.{TooLarge}
use Rattle.mz_cited.specs.Cited.{members, tree_of}
use Rattle.mz_resolve.specs.Answers.{OnRead}
use Rattle.mz_resolve.specs.Calls.{TypeRead}
use Rattle.mz_resolve.specs.declared.resolve_fault.ResolveFault.{ResolveFault}
use Rattle.mz_justified.specs.declared.proof_fault.ProofRefusal.TheVariants.{Resolve}
use Rattle.mz_taken.specs.Answers.{OnTaken, Leads, of_reading}
use Rattle.mz_taken.specs.OneByOne.{OneByOne}
use Rattle.mz_taken.specs.Taken.{Taken, Made, Refused}
use Rattle.mz_taken.specs.declared.item_fault.ItemFault.{ItemFault}
use Rattle.mz_taken.specs.declared.item_fault.ItemFault.TheVariants as fault
use Rattle.mz_taken.specs.declared.item_fault.ItemRefusal.{ItemRefusal}
use Rattle.mz_taken.specs.declared.item_fault.ItemRefusal.TheVariants.{Proof}
use Rattle.mz_tree.specs.Trees.{TypeData}
use Rattle.mz_tree.specs.declared.chain.Next.{Next}
use Rattle.mz_tree.specs.declared.lists.Separated.{Separated}
use Rattle.mz_tree.specs.declared.word.Comma.{Comma}
use Rattle.mz_tree_heading.specs.declared.patterns.IdentifierTree.{IdentifierTree}
use Rattle.mz_tree_part.specs.declared.parameter.ParameterTree.{ParameterTree}
use Rattle.mz_tree_part.specs.declared.parameter.ParameterTree.TheVariants.{Functor, Predicate}
use Rattle.mz_places.specs.Places.{PlacesRead}
use Rattle.mz_scheme_items.specs.Parameters as rule
use Rattle.mz_letters.specs.Letters.{next_functor_letter, with_functor_letters, with_predicate_letters, letter_keeps}
use Rattle.mz_scheme_items.specs.Parameters.{parameter_place, Scope, scope, functors_declared, with_what_is_left, TakesFunctors, TakesPredicates, TakesParameter, TakesParameters}
use Rattle.mz_scheme.proofs.LoopLemmas.{on_unread, on_read, on_same, told_first, told_first_refused}

-- functor letters

pub told_no_places : (Y : Type 0) (e : Environment) (c : Context) (least : ℕ) (l m : Left) (ws : Separated IdentifierTree) (ts : Option (Separated TypeData)) (t : TypeData) (v : Scope) (x : Result (List SoftType) ResolveFault) (f : ResolveFault) (g : ItemFault) →
    OnRead x (λ o. PlacesRead e c least l ts o m) → x ≡ Err f → g ≡ of_reading f → OnTaken {X = Y} (Err g) (Leads (TakesFunctors e least (scope c l) ws ts t) v)
told_no_places Y e c least l m ws ts t v x f g h is eg = on_unread (λ o. PlacesRead e c least l ts o m) (Leads (TakesFunctors e least (scope c l) ws ts t) v) x f g is eg h (λ r k. rule.places_refused r m k)

pub told_no_type : (Y : Type 0) (e : Environment) (c d : Context) (least : ℕ) (l m n : Left) (ws : Separated IdentifierTree) (ts : Option (Separated TypeData)) (t : TypeData) (v : Scope) (x : Result (List SoftType) ResolveFault) (tys : List SoftType) (y : Result SoftType ResolveFault) (f : ResolveFault) (g : ItemFault) →
    OnRead x (λ o. PlacesRead e c least l ts o m) → x ≡ Ok tys → d ≡ c → OnRead y (λ o. TypeRead e d least m t o n) → y ≡ Err f → g ≡ of_reading f → OnTaken {X = Y} (Err g) (Leads (TakesFunctors e least (scope c l) ws ts t) v)
told_no_type Y e c d least l m n ws ts t v x tys y f g h is ed k ey eg =
    on_unread (λ o. TypeRead e d least m t o n) (Leads (TakesFunctors e least (scope c l) ws ts t) v) y f g ey eg k
    (λ r j. rule.type_refused tys m r n (on_read (λ o. PlacesRead e c least l ts o m) x tys is h) (subst (λ z. TypeRead e z least m t (Err r) n) ed j))

pub told_functors : {Y : Type 0} (e : Environment) (c d b u : Context) (least : ℕ) (l m n : Left) (ws : Separated IdentifierTree) (ts : Option (Separated TypeData)) (t : TypeData) (x : Result (List SoftType) ResolveFault) (tys : List SoftType) (y : Result SoftType ResolveFault) (ty : SoftType) (z : Result Y ItemFault) →
    OnRead x (λ o. PlacesRead e c least l ts o m) → x ≡ Ok tys → d ≡ c → OnRead y (λ o. TypeRead e d least m t o n) → y ≡ Ok ty → b ≡ d → OnTaken z (Leads (λ o. functors_declared b ws tys ty ≡ o) u) →
    OnTaken z (Leads (TakesFunctors e least (scope c l) ws ts t) (scope u n))
told_functors e c d b u least l m n ws ts t x tys y ty z h is ed k ey eb p =
    let places_read : PlacesRead e c least l ts (Ok tys) m = on_read (λ o. PlacesRead e c least l ts o m) x tys is h in
    let type_read : TypeRead e c least m t (Ok ty) n = subst (λ a. TypeRead e a least m t (Ok ty) n) ed (on_read (λ o. TypeRead e d least m t o n) y ty ey k) in
    let whole : TakesFunctors e least (scope c l) ws ts t (with_what_is_left n (functors_declared c ws tys ty)) = rule.type_read tys m ty n places_read type_read in
    on_same (λ o. functors_declared b ws tys ty ≡ o) (TakesFunctors e least (scope c l) ws ts t) u (scope u n) z
    (λ q. subst (λ o. TakesFunctors e least (scope c l) ws ts t (with_what_is_left n o)) (ap (λ a. functors_declared a ws tys ty) (sym (eb ∙ ed)) ∙ q) whole)
    (λ r q. subst (λ o. TakesFunctors e least (scope c l) ws ts t (with_what_is_left n o)) (ap (λ a. functors_declared a ws tys ty) (sym (eb ∙ ed)) ∙ q) whole) p

-- predicate letters

pub told_no_predicates : (Y : Type 0) (e : Environment) (c : Context) (least : ℕ) (l m : Left) (ws : Separated IdentifierTree) (ts : Option (Separated TypeData)) (v : Scope) (x : Result (List SoftType) ResolveFault) (f : ResolveFault) (g : ItemFault) →
    OnRead x (λ o. PlacesRead e c least l ts o m) → x ≡ Err f → g ≡ of_reading f → OnTaken {X = Y} (Err g) (Leads (TakesPredicates e least (scope c l) ws ts) v)
told_no_predicates Y e c least l m ws ts v x f g h is eg = on_unread (λ o. PlacesRead e c least l ts o m) (Leads (TakesPredicates e least (scope c l) ws ts) v) x f g is eg h (λ r k. rule.places_refused r m k)

pub told_predicates : (e : Environment) (c d u : Context) (least : ℕ) (l m : Left) (ws : Separated IdentifierTree) (ts : Option (Separated TypeData)) (x : Result (List SoftType) ResolveFault) (tys : List SoftType) →
    OnRead x (λ o. PlacesRead e c least l ts o m) → x ≡ Ok tys → d ≡ c → u ≡ with_predicate_letters d tys (members ws) → TakesPredicates e least (scope c l) ws ts (Made [] (scope u m))
told_predicates e c d u least l m ws ts x tys h is ed eu =
    subst (λ a. TakesPredicates e least (scope c l) ws ts (Made [] (scope a m))) (sym (eu ∙ ap (λ a. with_predicate_letters a tys (members ws)) ed))
    (rule.places_read tys m (on_read (λ o. PlacesRead e c least l ts o m) x tys is h))

-- a parameter
pub told_functor_parameter : {Y : Type 0} (e : Environment) (least : ℕ) (s v : Scope) (p : ParameterTree) (ws : Separated IdentifierTree) (left right arrow : Place) (ts : Option (Separated TypeData)) (t : TypeData) (a : Result Y ItemFault) → p ≡ Functor ws left ts right arrow t →
    OnTaken a (Leads (TakesFunctors e least s ws ts t) v) → OnTaken a (Leads (TakesParameter e least s p) v)
told_functor_parameter e least s v p ws left right arrow ts t a is h =
    subst (λ (q : ParameterTree). OnTaken a (Leads (TakesParameter e least s q) v)) (sym is)
    (on_same (TakesFunctors e least s ws ts t) (TakesParameter e least s (Functor ws left ts right arrow t)) v v a (λ k. rule.functors ws left right arrow ts t (Made [] v) k) (λ r k. rule.functors ws left right arrow ts t (Refused r) k) h)

pub told_predicate_parameter : {Y : Type 0} (e : Environment) (least : ℕ) (s v : Scope) (p : ParameterTree) (ws : Separated IdentifierTree) (left right : Place) (ts : Option (Separated TypeData)) (a : Result Y ItemFault) → p ≡ Predicate ws left ts right →
    OnTaken a (Leads (TakesPredicates e least s ws ts) v) → OnTaken a (Leads (TakesParameter e least s p) v)
told_predicate_parameter e least s v p ws left right ts a is h =
    subst (λ (q : ParameterTree). OnTaken a (Leads (TakesParameter e least s q) v)) (sym is)
    (on_same (TakesPredicates e least s ws ts) (TakesParameter e least s (Predicate ws left ts right)) v v a (λ k. rule.predicates ws left right ts (Made [] v) k) (λ r k. rule.predicates ws left right ts (Refused r) k) h)

-- all parameters
pub told_all : {Y Z : Type 0} (e : Environment) (least : ℕ) (s u v : Scope) (ts : Separated ParameterTree) (x : ParameterTree) (slice : List (Next Comma ParameterTree)) (z : Result Y ItemFault) (y : Y) (a : Result Z ItemFault) → x ≡ ts.first → slice ≡ ts.more →
    OnTaken z (Leads (TakesParameter e least s x) u) → z ≡ Ok y → OnTaken a (Leads (OneByOne (TakesParameter e least) u (map tree_of slice)) v) → OnTaken a (Leads (TakesParameters e least s (members ts)) v)
told_all e least s u v ts x slice z y a ex es h ez k =
    told_first (TakesParameter e least) s u v ts.first (map tree_of ts.more) z y a (subst (λ p. OnTaken z (Leads (TakesParameter e least s p) u)) ex h) ez
    (subst (λ ps. OnTaken a (Leads (OneByOne (TakesParameter e least) u (map tree_of ps)) v)) es k)

pub told_all_refused : {Y : Type 0} (Z : Type 0) (e : Environment) (least : ℕ) (s u v : Scope) (ts : Separated ParameterTree) (x : ParameterTree) (z : Result Y ItemFault) (f : ItemFault) → x ≡ ts.first → OnTaken z (Leads (TakesParameter e least s x) u) → z ≡ Err f →
    OnTaken {X = Z} (Err f) (Leads (TakesParameters e least s (members ts)) v)
told_all_refused Z e least s u v ts x z f ex h ez =
    told_first_refused Z (TakesParameter e least) s u v ts.first (map tree_of ts.more) z f (subst (λ p. OnTaken z (Leads (TakesParameter e least s p) u)) ex h) ez
