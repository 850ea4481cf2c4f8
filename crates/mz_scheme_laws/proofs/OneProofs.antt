-- One outcome at most comes of a scheme.
use Rattle.std.proofs.Common.{◌≡◌, ℕ, false, List, [], refl, sym, ◌∙◌, Option}
use Rattle.std.specs.Prelude.{Ok, Err}
use Rattle.mz_core.specs.declared.outcome.Left.{Left}
use Rattle.mz_core.specs.declared.soft_type.SoftType.{SoftType}
use Rattle.mz_context.specs.Context.{next}
use Rattle.mz_context.specs.declared.context.Context.{Context}
use Rattle.mz_context.specs.declared.labelled.LabelledStatement.{LabelledStatement}
use Rattle.mz_environment.specs.declared.environment.Environment.{Environment}
use Rattle.mz_formulas.specs.declared.sentence.Sentence.{Sentence}
use Rattle.mz_names.specs.declared.refusal.Refusal.{Refusal}
use Rattle.mz_cited.specs.Cited.{members}
use Rattle.mz_obligations.specs.declared.obligation.Obligation.{Obligation}
use Rattle.mz_resolve.specs.Calls.{TypeRead, SentenceRead}
use Rattle.mz_parts.specs.Propositions.{PropositionsRead}
use Rattle.mz_justified.specs.declared.proof_fault.ProofRefusal.TheVariants.{Resolve}
use Rattle.mz_justified_laws.specs.Determined.{AtMostOne}
use Rattle.mz_justified_laws.proofs.Sequence.{one_by, one_value, Makes, one_made, After, one_after, AfterRead, one_after_read}
use Rattle.mz_parts_laws.proofs.OneExpression.{one_type_read, one_sentence_read}
use Rattle.mz_parts_laws.proofs.OneProposition.{one_propositions}
use Rattle.mz_places.specs.Places.{PlacesRead}
use Rattle.mz_scheme_laws.proofs.PlaceProofs.{one_places_read}
use Rattle.mz_walk_value_laws.proofs.OneWalk.{one_justified_law}
use Rattle.mz_standing.specs.Standing.{extent_of}
use Rattle.mz_standing.specs.declared.standing.Standing.{Standing}
use Rattle.mz_taken.specs.OneByOne.{OneLaw}
use Rattle.mz_taken.specs.Taken.{Taken, Made, Refused}
use Rattle.mz_taken.specs.declared.item_fault.ItemRefusal.{ItemRefusal}
use Rattle.mz_taken.specs.declared.item_fault.ItemRefusal.TheVariants.{Proof}
use Rattle.mz_taken.proofs.OneByOneProofs.{one_all}
use Rattle.mz_tree.specs.Trees.{TypeData}
use Rattle.mz_tree.specs.declared.lists.Separated.{Separated}
use Rattle.mz_tree_heading.specs.declared.patterns.IdentifierTree.{IdentifierTree}
use Rattle.mz_tree_part.specs.declared.parameter.ParameterTree.{ParameterTree}
use Rattle.mz_tree_item.specs.declared.schemes.SchemeTree.{SchemeTree}
use Rattle.mz_scheme_items.specs.Parameters as rule
use Rattle.mz_letters.specs.Letters.{with_predicate_letters}
use Rattle.mz_scheme_items.specs.Parameters.{Scope, scope, functors_declared, with_what_is_left, TakesFunctors, TakesPredicates, TakesParameter, TakesParameters}
use Rattle.mz_scheme_items.specs.StatesScheme as states
use Rattle.mz_letters.specs.Aside.{without_letters}
use Rattle.mz_scheme_items.specs.StatesScheme.{premises_in, SchemeHeading, heading, with_premises, TakesHeading, scheme_stated, JustifiesScheme, StatesScheme}

-- behind what is taken or refused
abbrev NextTaken : {X O : Type 0} → (ItemRefusal → O) → (X → O → Type 0) → Taken X → O → Type 0
NextTaken bad next (Made os x) o = next x o
NextTaken bad next (Refused r) o = o ≡ bad r

one_next_taken : {X O : Type 0} (bad : ItemRefusal → O) (next : X → O → Type 0) → ((x : X) → AtMostOne (next x)) → (q : Taken X) → AtMostOne (NextTaken bad next q)
one_next_taken bad next one (Made os x) o p h k = one x o p h k
one_next_taken bad next one (Refused r) o p h k = h ∙ sym k

abbrev AfterTaken : {X O : Type 0} → (Taken X → Type 0) → (ItemRefusal → O) → (X → O → Type 0) → O → Type 0
AfterTaken part bad next o = After part (NextTaken bad next) o

one_after_taken : {X O : Type 0} (part : Taken X → Type 0) (bad : ItemRefusal → O) (next : X → O → Type 0) → AtMostOne part → ((x : X) → AtMostOne (next x)) → AtMostOne (AfterTaken part bad next)
one_after_taken part bad next one then = one_after part (NextTaken bad next) one (one_next_taken bad next then)

abbrev unread : {X : Type 0} → Refusal → Taken X
unread r = Refused (Proof (Resolve r))

abbrev as_refused : {X : Type 0} → ItemRefusal → Taken X
as_refused r = Refused r

-- functor letters

abbrev DeclaredNext : Scope → Separated IdentifierTree → List SoftType → SoftType → Left → Taken Scope → Type 0
DeclaredNext s ws tys ty l o = o ≡ with_what_is_left l (functors_declared s.context ws tys ty)

abbrev TypeNext : Environment → ℕ → Scope → Separated IdentifierTree → TypeData → List SoftType → Left → Taken Scope → Type 0
TypeNext e least s ws t tys l o = AfterRead (TypeRead e s.context least l t) unread (DeclaredNext s ws tys) o

abbrev FunctorsAs : Environment → ℕ → Scope → Separated IdentifierTree → Option (Separated TypeData) → TypeData → Taken Scope → Type 0
FunctorsAs e least s ws ts t o = AfterRead (PlacesRead e s.context least s.left ts) unread (TypeNext e least s ws t) o

functors_as : (e : Environment) (least : ℕ) (s : Scope) (ws : Separated IdentifierTree) (ts : Option (Separated TypeData)) (t : TypeData) (o : Taken Scope) → TakesFunctors e least s ws ts t o → FunctorsAs e least s ws ts t o
functors_as e least s ws ts t o (rule.places_refused r after h) = (Err r, after, h, refl)
functors_as e least s ws ts t o (rule.type_refused tys between r after h k) = (Ok tys, between, h, (Err r, after, k, refl))
functors_as e least s ws ts t o (rule.type_read tys between ty after h k) = (Ok tys, between, h, (Ok ty, after, k, refl))

one_type : (e : Environment) (least : ℕ) (s : Scope) (ws : Separated IdentifierTree) (t : TypeData) (tys : List SoftType) (l : Left) → AtMostOne (TypeNext e least s ws t tys l)
one_type e least s ws t tys l =
    one_after_read (TypeRead e s.context least l t) unread (DeclaredNext s ws tys) (one_type_read e s.context least l t) (λ (ty : SoftType) (m : Left). one_value (with_what_is_left m (functors_declared s.context ws tys ty)))

one_functors : (e : Environment) (least : ℕ) (s : Scope) (ws : Separated IdentifierTree) (ts : Option (Separated TypeData)) (t : TypeData) → AtMostOne (TakesFunctors e least s ws ts t)
one_functors e least s ws ts t =
    one_by (TakesFunctors e least s ws ts t) (FunctorsAs e least s ws ts t) (functors_as e least s ws ts t)
    (one_after_read (PlacesRead e s.context least s.left ts) unread (TypeNext e least s ws t) (one_places_read e s.context least s.left ts) (one_type e least s ws t))

-- predicate letters

abbrev PredicatesNext : Scope → Separated IdentifierTree → List SoftType → Left → Taken Scope → Type 0
PredicatesNext s ws tys l o = o ≡ Made [] (scope (with_predicate_letters s.context tys (members ws)) l)

abbrev PredicatesAs : Environment → ℕ → Scope → Separated IdentifierTree → Option (Separated TypeData) → Taken Scope → Type 0
PredicatesAs e least s ws ts o = AfterRead (PlacesRead e s.context least s.left ts) unread (PredicatesNext s ws) o

predicates_as : (e : Environment) (least : ℕ) (s : Scope) (ws : Separated IdentifierTree) (ts : Option (Separated TypeData)) (o : Taken Scope) → TakesPredicates e least s ws ts o → PredicatesAs e least s ws ts o
predicates_as e least s ws ts o (rule.places_refused r after h) = (Err r, after, h, refl)
predicates_as e least s ws ts o (rule.places_read tys after h) = (Ok tys, after, h, refl)

one_predicates : (e : Environment) (least : ℕ) (s : Scope) (ws : Separated IdentifierTree) (ts : Option (Separated TypeData)) → AtMostOne (TakesPredicates e least s ws ts)
one_predicates e least s ws ts =
    one_by (TakesPredicates e least s ws ts) (PredicatesAs e least s ws ts) (predicates_as e least s ws ts)
    (one_after_read (PlacesRead e s.context least s.left ts) unread (PredicatesNext s ws) (one_places_read e s.context least s.left ts) (λ (tys : List SoftType) (l : Left). one_value (Made [] (scope (with_predicate_letters s.context tys (members ws)) l))))

-- parameters

one_parameter_of : (e : Environment) (least : ℕ) (s : Scope) {t : ParameterTree} {o p : Taken Scope} → TakesParameter e least s t o → TakesParameter e least s t p → o ≡ p
one_parameter_of e least s (rule.functors ws left right arrow ts t o h) (rule.functors _ _ _ _ _ _ p k) = one_functors e least s ws ts t o p h k
one_parameter_of e least s (rule.predicates ws left right ts o h) (rule.predicates _ _ _ _ p k) = one_predicates e least s ws ts o p h k

one_parameter : (e : Environment) (least : ℕ) → OneLaw (TakesParameter e least)
one_parameter e least s t o p h k = one_parameter_of e least s h k

one_parameters : (e : Environment) (least : ℕ) (s : Scope) (ts : List ParameterTree) → AtMostOne (TakesParameters e least s ts)
one_parameters e least s ts o p h k = one_all (TakesParameter e least) (one_parameter e least) h k

-- the heading

abbrev HeadingNext : Scope → Sentence → List LabelledStatement → Left → Taken SchemeHeading → Type 0
HeadingNext d x ps l o = o ≡ Made [] (heading d.context x ps l)

abbrev PremisesNext : Environment → Context → SchemeTree → Scope → Sentence → Left → Taken SchemeHeading → Type 0
PremisesNext e c t d x l o = AfterRead (PropositionsRead e d.context (next c) l (premises_in t.provided)) unread (HeadingNext d x) o

abbrev ConclusionNext : Environment → Context → SchemeTree → Scope → Taken SchemeHeading → Type 0
ConclusionNext e c t d o = AfterRead (SentenceRead e d.context (next c) d.left t.formula) unread (PremisesNext e c t d) o

abbrev HeadingAs : Environment → Context → Left → SchemeTree → Taken SchemeHeading → Type 0
HeadingAs e c l t o = AfterTaken (TakesParameters e (next c) (scope c l) (members t.parameters)) as_refused (ConclusionNext e c t) o

heading_as : (e : Environment) (c : Context) (l : Left) (t : SchemeTree) (o : Taken SchemeHeading) → TakesHeading e c l t o → HeadingAs e c l t o
heading_as e c l t o (states.letters_refused r h) = (Refused r, h, refl)
heading_as e c l t o (states.conclusion_refused d r after h k) = (Made [] d, h, (Err r, after, k, refl))
heading_as e c l t o (states.premises_refused d x between r after h k j) = (Made [] d, h, (Ok x, between, k, (Err r, after, j, refl)))
heading_as e c l t o (states.heading_taken d x between ps after h k j) = (Made [] d, h, (Ok x, between, k, (Ok ps, after, j, refl)))

one_premises : (e : Environment) (c : Context) (t : SchemeTree) (d : Scope) (x : Sentence) (l : Left) → AtMostOne (PremisesNext e c t d x l)
one_premises e c t d x l =
    one_after_read (PropositionsRead e d.context (next c) l (premises_in t.provided)) unread (HeadingNext d x) (one_propositions e d.context (next c) l (premises_in t.provided)) (λ (ps : List LabelledStatement) (m : Left). one_value (Made [] (heading d.context x ps m)))

one_conclusion : (e : Environment) (c : Context) (t : SchemeTree) (d : Scope) → AtMostOne (ConclusionNext e c t d)
one_conclusion e c t d =
    one_after_read (SentenceRead e d.context (next c) d.left t.formula) unread (PremisesNext e c t d) (one_sentence_read e d.context (next c) d.left t.formula) (one_premises e c t d)

one_heading : (e : Environment) (c : Context) (l : Left) (t : SchemeTree) → AtMostOne (TakesHeading e c l t)
one_heading e c l t =
    one_by (TakesHeading e c l t) (HeadingAs e c l t) (heading_as e c l t)
    (one_after_taken (TakesParameters e (next c) (scope c l) (members t.parameters)) as_refused (ConclusionNext e c t) (one_parameters e (next c) (scope c l) (members t.parameters)) (one_conclusion e c t))

-- the scheme

abbrev JustifiedNext : Standing → SchemeTree → SchemeHeading → Taken Standing → Type 0
JustifiedNext s t h o = Makes (JustifiesScheme s t h) (scheme_stated s t h) o

abbrev SchemeAs : Standing → SchemeTree → Taken Standing → Type 0
SchemeAs s t o = AfterTaken (TakesHeading s.environment (without_letters s.context) s.left t) as_refused (JustifiedNext s t) o

scheme_as : (s : Standing) (t : SchemeTree) (o : Taken Standing) → StatesScheme s t o → SchemeAs s t o
scheme_as s t o (states.not_read r h) = (Refused r, h, refl)
scheme_as s t o (states.read h p k j) = (Made [] h, k, (p, j, refl))

one_justified : (s : Standing) (t : SchemeTree) (h : SchemeHeading) → AtMostOne (JustifiedNext s t h)
one_justified s t h =
    one_made (JustifiesScheme s t h) (scheme_stated s t h) (one_justified_law s.environment (extent_of s) (with_premises h.context h.premises) t.scheme false t.semicolon t.just h.conclusion h.left)

pub scheme_one : (s : Standing) (t : SchemeTree) → AtMostOne (StatesScheme s t)
scheme_one s t =
    one_by (StatesScheme s t) (SchemeAs s t) (scheme_as s t)
    (one_after_taken (TakesHeading s.environment (without_letters s.context) s.left t) as_refused (JustifiedNext s t) (one_heading s.environment (without_letters s.context) s.left t) (one_justified s t))
