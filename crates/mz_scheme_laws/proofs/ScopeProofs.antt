-- Where the letters of a scheme are declared and its sentences read, all that is read has no constant and no loose index.
use Rattle.std.proofs.Common.{◌≡◌, inl, inr, ℕ, true, false, List, [], ◌∷◌, ◌++◌, ◌+◌, length, arith, refl, sym, subst, Option, None}
use Rattle.std.specs.Prelude.{◌⊎◌, Bool, Contains, Result, Ok, Err, filter, if◌then◌else◌}
use Rattle.std.specs.List.{list_all}
use Rattle.std.proofs.lemmas.Bool.{and_from}
use Rattle.std.proofs.lemmas.List.Elements.{Contains-append_cases}
use Rattle.mz_core.specs.Closed.{type_under, loci_under, statement_under}
use Rattle.mz_core.specs.declared.outcome.Left.{Left}
use Rattle.mz_core.specs.declared.scheme.SchemeLetter.{SchemeLetter}
use Rattle.mz_core.specs.declared.scheme.SchemeLetter.TheVariants.{OfFunctor, OfPredicate}
use Rattle.mz_core.specs.declared.soft_type.SoftType.{SoftType}
use Rattle.mz_core.proofs.AllLemmas.{all-append, all-alone}
use Rattle.mz_ground.proofs.ListLemmas.{contains_none, contains_first, contains_later, contains_cases, contains_one}
use Rattle.mz_items.specs.Closed.{letter_closed}
use Rattle.mz_context.specs.Context.{next}
use Rattle.mz_context.specs.declared.context.Context.{Context}
use Rattle.mz_context.specs.declared.context.SymbolCounts.{SymbolCounts}
use Rattle.mz_context.specs.declared.labelled.LabelledStatement.{LabelledStatement}
use Rattle.mz_context.specs.declared.letters.NamedLetter.{NamedLetter}
use Rattle.mz_context.specs.declared.private.PrivateFunctor.{PrivateFunctor}
use Rattle.mz_context.specs.declared.private.PrivatePredicate.{PrivatePredicate}
use Rattle.mz_environment.specs.declared.environment.Environment.{Environment}
use Rattle.mz_closed_laws.specs.ClosedEnvironment.{IsClosedEnvironment}
use Rattle.mz_names.specs.declared.refusal.Refusal.{Refusal}
use Rattle.mz_names.specs.Closing.{for_all}
use Rattle.mz_formulas.specs.declared.sentence.Sentence.{Sentence}
use Rattle.mz_cited.specs.Cited.{members}
use Rattle.mz_resolve.specs.Calls.{TypeRead, SentenceRead}
use Rattle.mz_parts.specs.Propositions as props
use Rattle.mz_parts.specs.Propositions.{stated_by, PropositionsReadBehind, PropositionsRead}
use Rattle.mz_places.specs.Places as types
use Rattle.mz_places.specs.Places.{TypesReadBehind, PlacesRead}
use Rattle.mz_term_laws.specs.Whole.{IsWhole}
use Rattle.mz_term_laws.proofs.UsableProofs.{none_usable_law}
use Rattle.mz_term_laws.proofs.ChangeProofs.{whole_from_law}
use Rattle.mz_reading_laws.proofs.CallProofs.{type_call_law}
use Rattle.mz_block_laws.specs.Orders.{AllStand}
use Rattle.mz_level_laws.specs.Level.{IsLevel}
use Rattle.mz_level_laws.proofs.SentenceProofs.{sentence_law}
use Rattle.mz_obligations.specs.declared.obligation.Obligation.{Obligation}
use Rattle.mz_taken.specs.OneByOne.{OneByOne, none_left, one_refused, one_taken}
use Rattle.mz_taken.specs.Taken.{Taken, Made, Refused, behind}
use Rattle.mz_taken.specs.declared.item_fault.ItemRefusal.{ItemRefusal}
use Rattle.mz_tree.specs.Trees.{TypeData, FormulaData}
use Rattle.mz_tree.specs.declared.lists.Separated.{Separated}
use Rattle.mz_tree_heading.specs.declared.patterns.IdentifierTree.{IdentifierTree}
use Rattle.mz_tree_part.specs.declared.parameter.ParameterTree.{ParameterTree}
use Rattle.mz_tree_proof.specs.declared.propositions.PropositionTree.{PropositionTree}
use Rattle.mz_tree_item.specs.declared.schemes.SchemeTree.{SchemeTree}
use Rattle.mz_scheme_items.specs.Parameters as rule
use Rattle.mz_letters.specs.Letters.{next_functor_letter, next_predicate_letter, is_other_functor, is_other_predicate, with_functor_letter, with_predicate_letter, with_functor_letters, with_predicate_letters, letter_keeps}
use Rattle.mz_scheme_items.specs.Parameters.{Scope, functors_declared, with_what_is_left, TakesFunctors, TakesPredicates, TakesParameter, TakesParameters}
use Rattle.mz_scheme_items.specs.StatesScheme as states
use Rattle.mz_scheme_items.specs.StatesScheme.{SchemeHeading, TakesHeading}
use Rattle.mz_scheme_laws.proofs.LetterProofs.{type_more, places_closed}

-- a context of the article's own level, but for the letters in force, in which `thesis` is unknown and the next constant has the number
pub record IsScope (least : ℕ) (c : Context) : Type 0 where
  pub level : IsLevel c
  pub no_thesis : c.thesis ≡ None
  pub first : next c ≡ least

-- types

type_closed : (e : Environment) (c : Context) (least : ℕ) (l m : Left) (t : TypeData) (ty : SoftType) → IsClosedEnvironment e → IsScope least c → TypeRead e c least l t (Ok ty) m → type_under 0 ty ≡ true
type_closed e c least l m t ty closed_e in_scope read =
    let level : IsLevel c = in_scope.level in
    let whole : IsWhole (next c) c = whole_from_law (next c) c level.is_whole (omega arith) in_scope.no_thesis level.no_it level.no_arguments level.no_subject in
    let there : TypeRead e c (next c) l t (Ok ty) m = subst (λ n. TypeRead e c n l t (Ok ty) m) (sym in_scope.first) read in
    (none_usable_law (next c) c (omega arith)).1 ty (type_call_law e c (next c) (next c) closed_e whole (omega arith) l m t ty there)

abbrev AreClosed : Result (List SoftType) Refusal → Type 0
AreClosed (Ok tys) = list_all (type_under 0) tys ≡ true
AreClosed (Err r) = Unit {0}

each_type_closed : {e : Environment} {c : Context} {least : ℕ} {l m : Left} {ts : List TypeData} {before : List SoftType} {o : Result (List SoftType) Refusal} → IsClosedEnvironment e → IsScope least c →
    list_all (type_under 0) before ≡ true → TypesReadBehind e c least l ts before o m → AreClosed o
each_type_closed closed_e in_scope h (types.no_more l before) = h
each_type_closed closed_e in_scope h (types.one_refused l after t ts before r k) = tt
each_type_closed {e = e} {c = c} {least = least} closed_e in_scope h (types.one_read l between after t ts before ty o k j) =
    each_type_closed closed_e in_scope (all-append (type_under 0) before (ty ∷ []) h (all-alone (type_under 0) ty (type_closed e c least l between t ty closed_e in_scope k))) j

types_taken : (e : Environment) (c : Context) (least : ℕ) (l m : Left) (ts : Option (Separated TypeData)) (tys : List SoftType) → IsClosedEnvironment e → IsScope least c → PlacesRead e c least l ts (Ok tys) m → list_all (type_under 0) tys ≡ true
types_taken e c least l m ts tys closed_e in_scope h = each_type_closed closed_e in_scope refl h

-- letters

from_step : {X : Type 0} (b : Bool) (x y : X) (xs : List X) → Contains (if b then x ∷ xs else xs) y → (x ≡ y) ⊎ Contains xs y
from_step true x y xs is = contains_cases x y xs is
from_step false x y xs is = inr is

from_filter : {X : Type 0} (p : X → Bool) (xs : List X) (y : X) → Contains (filter p xs) y → Contains xs y
from_filter p [] y is = absurd (contains_none y is)
from_filter p (x ∷ xs) y is = elim (from_step (p x) x y (filter p xs) is) [
  | inl same ↦ subst (Contains (x ∷ xs)) same (contains_first x xs)
  | inr later ↦ contains_later x y xs (from_filter p xs y later)
]

-- with other counts and letters, and fewer private functors and predicates
level_beside : (c : Context) (counts : SymbolCounts) (fs : List PrivateFunctor) (ps : List PrivatePredicate) (ls : List NamedLetter) → ((f : PrivateFunctor) → Contains fs f → Contains c.functors f) → ((p : PrivatePredicate) → Contains ps p → Contains c.predicates p) →
    ((l : NamedLetter) → Contains ls l → letter_closed l.letter ≡ true) → IsLevel c → IsLevel (record c { counts = counts; functors = fs; predicates = ps; letters = ls })
level_beside c counts fs ps ls functors predicates letters level = record {
  is_whole = record {
    constants = level.is_whole.constants;
    reserved = level.is_whole.reserved;
    labelled = level.is_whole.labelled;
    previous = level.is_whole.previous;
    functors = λ f is. level.is_whole.functors f (functors f is);
    predicates = λ p is. level.is_whole.predicates p (predicates p is);
    letters = letters;
    thesis = level.is_whole.thesis;
    it_is = level.is_whole.it_is;
    arguments = level.is_whole.arguments;
    subject = level.is_whole.subject;
  };
  no_it = level.no_it;
  no_arguments = level.no_arguments;
  no_subject = level.no_subject;
}

-- without letters
pub scope_begun : (c : Context) → IsLevel c → c.thesis ≡ None → IsScope (next c) (record c { letters = [] })
scope_begun c level none = record {
  level = level_beside c c.counts c.functors c.predicates [] (λ f is. is) (λ p is. is) (λ l is. absurd (contains_none l is)) level;
  no_thesis = none;
  first = refl;
}

with_letter : (ls : List NamedLetter) (l : NamedLetter) → ((k : NamedLetter) → Contains ls k → letter_closed k.letter ≡ true) → letter_closed l.letter ≡ true → (k : NamedLetter) → Contains (ls ++ l ∷ []) k → letter_closed k.letter ≡ true
with_letter ls l each closed k is = elim (Contains-append_cases ls (l ∷ []) k is) [
  | inl front ↦ each k front
  | inr last ↦ subst (λ (x : NamedLetter). letter_closed x.letter ≡ true) (contains_one l k last) closed
]

functor_in_scope : (least : ℕ) (c : Context) (name : List ℕ) (tys : List SoftType) (ty : SoftType) → loci_under 0 tys ≡ true → type_under (length tys) ty ≡ true → IsScope least c → IsScope least (with_functor_letter c name tys ty)
functor_in_scope least c name tys ty h k in_scope = record {
  level =
      level_beside c (record c.counts { functor_letters = c.counts.functor_letters + 1 }) (filter (is_other_functor name) c.functors) c.predicates (c.letters ++ record { name = name; letter = OfFunctor (next_functor_letter c) tys ty } ∷ [])
      (λ f is. from_filter (is_other_functor name) c.functors f is) (λ p is. is)
      (with_letter c.letters (record { name = name; letter = OfFunctor (next_functor_letter c) tys ty }) in_scope.level.is_whole.letters (and_from (loci_under 0 tys) (type_under (length tys) ty) h k)) in_scope.level;
  no_thesis = in_scope.no_thesis;
  first = in_scope.first;
}

predicate_in_scope : (least : ℕ) (c : Context) (name : List ℕ) (tys : List SoftType) → loci_under 0 tys ≡ true → IsScope least c → IsScope least (with_predicate_letter c name tys)
predicate_in_scope least c name tys h in_scope = record {
  level =
      level_beside c (record c.counts { predicate_letters = c.counts.predicate_letters + 1 }) c.functors (filter (is_other_predicate name) c.predicates) (c.letters ++ record { name = name; letter = OfPredicate (next_predicate_letter c) tys } ∷ [])
      (λ f is. is) (λ p is. from_filter (is_other_predicate name) c.predicates p is)
      (with_letter c.letters (record { name = name; letter = OfPredicate (next_predicate_letter c) tys }) in_scope.level.is_whole.letters h) in_scope.level;
  no_thesis = in_scope.no_thesis;
  first = in_scope.first;
}

functors_in_scope : (least : ℕ) (c : Context) (tys : List SoftType) (ty : SoftType) (ws : List IdentifierTree) → loci_under 0 tys ≡ true → type_under (length tys) ty ≡ true → IsScope least c → IsScope least (with_functor_letters c tys ty ws)
functors_in_scope least c tys ty [] h k in_scope = in_scope
functors_in_scope least c tys ty (w ∷ ws) h k in_scope = functors_in_scope least (with_functor_letter c w.name.spelling tys ty) tys ty ws h k (functor_in_scope least c w.name.spelling tys ty h k in_scope)

predicates_in_scope : (least : ℕ) (c : Context) (tys : List SoftType) (ws : List IdentifierTree) → loci_under 0 tys ≡ true → IsScope least c → IsScope least (with_predicate_letters c tys ws)
predicates_in_scope least c tys [] h in_scope = in_scope
predicates_in_scope least c tys (w ∷ ws) h in_scope = predicates_in_scope least (with_predicate_letter c w.name.spelling tys) tys ws h (predicate_in_scope least c w.name.spelling tys h in_scope)

-- parameters

abbrev InScope : ℕ → Taken Scope → Type 0
InScope least (Made os s) = IsScope least s.context
InScope least (Refused r) = Unit {0}

scope_behind : (least : ℕ) (os : List Obligation) (o : Taken Scope) → InScope least o → InScope least (behind os o)
scope_behind least os (Made ps s) h = h
scope_behind least os (Refused r) h = tt

declared_in_scope : (least : ℕ) (c : Context) (ws : Separated IdentifierTree) (tys : List SoftType) (ty : SoftType) (left : Left) (r : ItemRefusal) (b : Bool) → loci_under 0 tys ≡ true → type_under (length tys) ty ≡ true → IsScope least c →
    InScope least (with_what_is_left left (if b then Made [] (with_functor_letters c tys ty (members ws)) else Refused r))
declared_in_scope least c ws tys ty left r true h k in_scope = functors_in_scope least c tys ty (members ws) h k in_scope
declared_in_scope least c ws tys ty left r false h k in_scope = tt

functors_taken : {e : Environment} {least : ℕ} {s : Scope} {ws : Separated IdentifierTree} {ts : Option (Separated TypeData)} {t : TypeData} {o : Taken Scope} → IsClosedEnvironment e → IsScope least s.context → TakesFunctors e least s ws ts t o → InScope least o
functors_taken closed_e in_scope (rule.places_refused r after h) = tt
functors_taken closed_e in_scope (rule.type_refused tys between r after h k) = tt
functors_taken {e = e} {least = least} {s = s} {ws = ws} {ts = ts} {t = t} closed_e in_scope (rule.type_read tys between ty after h k) =
    declared_in_scope least s.context ws tys ty after _ (letter_keeps (next_functor_letter s.context) tys ty) (places_closed 0 tys (types_taken e s.context least s.left between ts tys closed_e in_scope h))
    (type_more (length tys) ty (type_closed e s.context least between after t ty closed_e in_scope k)) in_scope

predicates_taken : {e : Environment} {least : ℕ} {s : Scope} {ws : Separated IdentifierTree} {ts : Option (Separated TypeData)} {o : Taken Scope} → IsClosedEnvironment e → IsScope least s.context → TakesPredicates e least s ws ts o → InScope least o
predicates_taken closed_e in_scope (rule.places_refused r after h) = tt
predicates_taken {e = e} {least = least} {s = s} {ws = ws} {ts = ts} closed_e in_scope (rule.places_read tys after h) =
    predicates_in_scope least s.context tys (members ws) (places_closed 0 tys (types_taken e s.context least s.left after ts tys closed_e in_scope h)) in_scope

parameter_taken : {e : Environment} {least : ℕ} {s : Scope} {p : ParameterTree} {o : Taken Scope} → IsClosedEnvironment e → IsScope least s.context → TakesParameter e least s p o → InScope least o
parameter_taken closed_e in_scope (rule.functors ws left right arrow ts t o h) = functors_taken closed_e in_scope h
parameter_taken closed_e in_scope (rule.predicates ws left right ts o h) = predicates_taken closed_e in_scope h

parameters_taken : {e : Environment} {least : ℕ} {s : Scope} {ps : List ParameterTree} {o : Taken Scope} → IsClosedEnvironment e → IsScope least s.context → TakesParameters e least s ps o → InScope least o
parameters_taken closed_e in_scope (none_left s) = in_scope
parameters_taken closed_e in_scope (one_refused s x xs r h) = tt
parameters_taken {least = least} closed_e in_scope (one_taken s t x xs os o h k) = scope_behind least os o (parameters_taken closed_e (parameter_taken closed_e in_scope h) k)

-- sentences

abbrev SentenceStands : Context → Sentence → Type 0
SentenceStands c x = AllStand (next c) x.variables x.inner × (x.closed ≡ for_all (next c) x.variables x.inner) × (statement_under 0 x.closed ≡ true)

sentence_stands : (e : Environment) (c : Context) (least : ℕ) (l m : Left) (f : FormulaData) (x : Sentence) → IsClosedEnvironment e → IsScope least c → SentenceRead e c least l f (Ok x) m → SentenceStands c x
sentence_stands e c least l m f x closed_e in_scope read =
    sentence_law e c l m f x closed_e in_scope.level in_scope.no_thesis (subst (λ n. SentenceRead e c n l f (Ok x) m) (sym in_scope.first) read)

abbrev AreClosedStatements : Result (List LabelledStatement) Refusal → Type 0
AreClosedStatements (Ok ps) = (p : LabelledStatement) → Contains ps p → statement_under 0 p.statement ≡ true
AreClosedStatements (Err r) = Unit {0}

with_statement : (ps : List LabelledStatement) (q : LabelledStatement) → ((p : LabelledStatement) → Contains ps p → statement_under 0 p.statement ≡ true) → statement_under 0 q.statement ≡ true → (p : LabelledStatement) → Contains (ps ++ q ∷ []) p → statement_under 0 p.statement ≡ true
with_statement ps q each closed p is = elim (Contains-append_cases ps (q ∷ []) p is) [
  | inl front ↦ each p front
  | inr last ↦ subst (λ (x : LabelledStatement). statement_under 0 x.statement ≡ true) (contains_one q p last) closed
]

premises_closed : {e : Environment} {c : Context} {least : ℕ} {l m : Left} {ts : List PropositionTree} {before : List LabelledStatement} {o : Result (List LabelledStatement) Refusal} → IsClosedEnvironment e → IsScope least c →
    ((p : LabelledStatement) → Contains before p → statement_under 0 p.statement ≡ true) → PropositionsReadBehind e c least l ts before o m → AreClosedStatements o
premises_closed closed_e in_scope each (props.no_more l before) = each
premises_closed closed_e in_scope each (props.one_refused l after p ps before r h) = tt
premises_closed {e = e} {c = c} {least = least} closed_e in_scope each (props.one_read l between after p ps before x o h k) =
    premises_closed closed_e in_scope (with_statement before (stated_by p x) each (sentence_stands e c least l between p.formula x closed_e in_scope h).2) k

-- what is read of a scheme

pub record IsReadScheme (least : ℕ) (h : SchemeHeading) : Type 0 where
  pub in_scope : IsScope least h.context
  pub conclusion : SentenceStands h.context h.conclusion
  pub premises : (p : LabelledStatement) → Contains h.premises p → statement_under 0 p.statement ≡ true

heading_read : {e : Environment} {c : Context} {left : Left} {t : SchemeTree} {os : List Obligation} {h : SchemeHeading} → IsClosedEnvironment e → IsScope (next c) c → TakesHeading e c left t (Made os h) → IsReadScheme (next c) h
heading_read {e = e} {c = c} {left = left} {t = t} closed_e in_scope (states.heading_taken d x between ps after h k j) =
    let there : IsScope (next c) d.context = parameters_taken closed_e in_scope h in
    record {
      in_scope = there;
      conclusion = sentence_stands e d.context (next c) d.left between t.formula x closed_e there k;
      premises = premises_closed closed_e there (λ p is. absurd (contains_none p is)) j;
    }

pub heading_law : (e : Environment) (c : Context) (left : Left) (t : SchemeTree) (os : List Obligation) (h : SchemeHeading) → IsClosedEnvironment e → IsScope (next c) c → TakesHeading e c left t (Made os h) → IsReadScheme (next c) h
heading_law e c left t os h closed_e in_scope k = heading_read closed_e in_scope k
