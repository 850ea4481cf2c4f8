-- What is known beside the letters of a scheme stays as it was.
use Rattle.std.proofs.Common.{◌≡◌, ℕ, List, [], ◌∷◌, refl, ap, ◌∙◌, Option, true, false}
use Rattle.std.specs.Prelude.{Bool, if◌then◌else◌}
use Rattle.mz_core.specs.declared.outcome.Left.{Left}
use Rattle.mz_core.specs.declared.soft_type.SoftType.{SoftType}
use Rattle.mz_context.specs.declared.context.Context.{Context}
use Rattle.mz_environment.specs.declared.environment.Environment.{Environment}
use Rattle.mz_cited.specs.Cited.{members}
use Rattle.mz_obligations.specs.declared.obligation.Obligation.{Obligation}
use Rattle.mz_taken.specs.OneByOne.{OneByOne, none_left, one_refused, one_taken}
use Rattle.mz_taken.specs.Taken.{Taken, Made, Refused, behind}
use Rattle.mz_taken.specs.declared.item_fault.ItemRefusal.{ItemRefusal}
use Rattle.mz_tree.specs.Trees.{TypeData}
use Rattle.mz_tree.specs.declared.lists.Separated.{Separated}
use Rattle.mz_tree_heading.specs.declared.patterns.IdentifierTree.{IdentifierTree}
use Rattle.mz_tree_part.specs.declared.parameter.ParameterTree.{ParameterTree}
use Rattle.mz_tree_item.specs.declared.schemes.SchemeTree.{SchemeTree}
use Rattle.mz_scheme_items.specs.Parameters as rule
use Rattle.mz_letters.specs.Letters.{next_functor_letter, with_functor_letter, with_predicate_letter, with_functor_letters, with_predicate_letters, letter_keeps}
use Rattle.mz_scheme_items.specs.Parameters.{Scope, scope, functors_declared, with_what_is_left, TakesFunctors, TakesPredicates, TakesParameter, TakesParameters}
use Rattle.mz_scheme_items.specs.StatesScheme as states
use Rattle.mz_scheme_items.specs.StatesScheme.{SchemeHeading, TakesHeading}

-- the first context with the counts, letters, private functors and private predicates of the second one
abbrev pub with_letters_of : Context → Context → Context
with_letters_of c d = record c { counts = d.counts; functors = d.functors; predicates = d.predicates; letters = d.letters }

-- only these changed
abbrev pub IsBeside : Context → Context → Type 0
IsBeside c d = d ≡ with_letters_of c d

beside_further : (c b d : Context) → IsBeside c b → IsBeside b d → IsBeside c d
beside_further c b d p q = q ∙ ap (λ (x : Context). with_letters_of x d) p

functors_beside : (c : Context) (tys : List SoftType) (ty : SoftType) (ws : List IdentifierTree) → IsBeside c (with_functor_letters c tys ty ws)
functors_beside c tys ty [] = refl
functors_beside c tys ty (w ∷ ws) =
    let d : Context = with_functor_letter c w.name.spelling tys ty in
    beside_further c d (with_functor_letters d tys ty ws) refl (functors_beside d tys ty ws)

predicates_beside : (c : Context) (tys : List SoftType) (ws : List IdentifierTree) → IsBeside c (with_predicate_letters c tys ws)
predicates_beside c tys [] = refl
predicates_beside c tys (w ∷ ws) =
    let d : Context = with_predicate_letter c w.name.spelling tys in
    beside_further c d (with_predicate_letters d tys ws) refl (predicates_beside d tys ws)

abbrev Beside : Scope → Taken Scope → Type 0
Beside s (Made os t) = IsBeside s.context t.context
Beside s (Refused r) = Unit {0}

beside_behind : (s : Scope) (os : List Obligation) (o : Taken Scope) → Beside s o → Beside s (behind os o)
beside_behind s os (Made ps t) h = h
beside_behind s os (Refused r) h = tt

beside_then : (s t : Scope) (o : Taken Scope) → IsBeside s.context t.context → Beside t o → Beside s o
beside_then s t (Made os u) p q = beside_further s.context t.context u.context p q
beside_then s t (Refused r) p q = tt

declared_by : (s : Scope) (ws : Separated IdentifierTree) (tys : List SoftType) (ty : SoftType) (left : Left) (r : ItemRefusal) (b : Bool) →
    Beside s (with_what_is_left left (if b then Made [] (with_functor_letters s.context tys ty (members ws)) else Refused r))
declared_by s ws tys ty left r true = functors_beside s.context tys ty (members ws)
declared_by s ws tys ty left r false = tt

functors_in : {e : Environment} {least : ℕ} {s : Scope} {ws : Separated IdentifierTree} {ts : Option (Separated TypeData)} {t : TypeData} {o : Taken Scope} → TakesFunctors e least s ws ts t o → Beside s o
functors_in (rule.places_refused r after h) = tt
functors_in (rule.type_refused tys between r after h k) = tt
functors_in {s = s} {ws = ws} (rule.type_read tys between ty after h k) = declared_by s ws tys ty after _ (letter_keeps (next_functor_letter s.context) tys ty)

predicates_in : {e : Environment} {least : ℕ} {s : Scope} {ws : Separated IdentifierTree} {ts : Option (Separated TypeData)} {o : Taken Scope} → TakesPredicates e least s ws ts o → Beside s o
predicates_in (rule.places_refused r after h) = tt
predicates_in {s = s} {ws = ws} (rule.places_read tys after h) = predicates_beside s.context tys (members ws)

parameter_in : {e : Environment} {least : ℕ} {s : Scope} {p : ParameterTree} {o : Taken Scope} → TakesParameter e least s p o → Beside s o
parameter_in (rule.functors ws left right arrow ts t o h) = functors_in h
parameter_in (rule.predicates ws left right ts o h) = predicates_in h

parameters_in : {e : Environment} {least : ℕ} {s : Scope} {ps : List ParameterTree} {o : Taken Scope} → TakesParameters e least s ps o → Beside s o
parameters_in (none_left s) = refl
parameters_in (one_refused s x xs r h) = tt
parameters_in (one_taken s t x xs os o h k) = beside_behind s os o (beside_then s t o (parameter_in h) (parameters_in k))

heading_in : {e : Environment} {c : Context} {left : Left} {t : SchemeTree} {os : List Obligation} {h : SchemeHeading} → TakesHeading e c left t (Made os h) → IsBeside c h.context
heading_in (states.heading_taken d x between ps after h k m) = parameters_in h

-- so it is behind the heading of a scheme
pub heading_beside : (e : Environment) (c : Context) (left : Left) (t : SchemeTree) (os : List Obligation) (h : SchemeHeading) → TakesHeading e c left t (Made os h) → IsBeside c h.context
heading_beside e c left t os h k = heading_in k

-- and behind its parameters
pub parameters_beside : (e : Environment) (least : ℕ) (s t : Scope) (ps : List ParameterTree) (os : List Obligation) → TakesParameters e least s ps (Made os t) → IsBeside s.context t.context
parameters_beside e least s t ps os h = parameters_in h
