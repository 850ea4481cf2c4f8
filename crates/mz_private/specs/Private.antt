-- What `deffunc` and `defpred` are read to: the types of the places, one after another, and then the body, in which `$1`, `$2` and so on
-- are constants of these types. In the types they aren't known.
use Rattle.std.specs.Prelude.{ℕ, suc, List, [], ◌∷◌, ◌++◌, map, length, None, Result, Ok, Err}
use Rattle.mz_logic.specs.Term.{Term, Const}
use Rattle.mz_core.specs.Statement.{Statement}
use Rattle.mz_core.specs.declared.outcome.Left.{Left}
use Rattle.mz_core.specs.declared.soft_type.SoftType.{SoftType}
use Rattle.mz_context.specs.Context.{next}
use Rattle.mz_context.specs.declared.context.Context.{Context}
use Rattle.mz_context.specs.declared.private.PrivateFunctor.{PrivateFunctor}
use Rattle.mz_context.specs.declared.private.PrivatePredicate.{PrivatePredicate}
use Rattle.mz_environment.specs.declared.environment.Environment.{Environment}
use Rattle.mz_names.specs.Closing.{with_variables}
use Rattle.mz_names.specs.declared.refusal.Refusal.{Refusal}
use Rattle.mz_names.specs.declared.variable.Variable.{Variable}
use Rattle.mz_tree.specs.declared.word.Word.{Word}
use Rattle.mz_tree_proof.specs.declared.introduction.DeffuncTree.{DeffuncTree}
use Rattle.mz_tree_proof.specs.declared.introduction.DefpredTree.{DefpredTree}
use Rattle.mz_resolve.specs.Calls.{TermRead, FormulaRead}
use Rattle.mz_places.specs.Places.{PlacesRead}
use Rattle.mz_private.specs.Bodies.{term_over_places, statement_over_places}

-- a place as a variable that no identifier stands for
abbrev pub place_of : SoftType → Variable
place_of ty = record { name = []; ty = ty }

-- the constants of the places, the first of which has the number n
abbrev pub constants_of : ℕ → List SoftType → List Term
constants_of n [] = []
constants_of n (ty ∷ tys) = Const n ∷ constants_of (suc n) tys

-- the context in which a body is read
abbrev pub inside : Context → List SoftType → Context
inside c tys = record (with_variables c (map place_of tys)) { arguments = constants_of (next c) tys }

-- a private functor and a private predicate with these places, whose bodies were read there; the first place is the constant with the
-- number n
abbrev pub functor : Word → List SoftType → ℕ → Term → PrivateFunctor
functor w tys n t = record { name = w.spelling; places = tys; body = term_over_places n (length tys) t }

abbrev pub predicate : Word → List SoftType → ℕ → Statement → PrivatePredicate
predicate w tys n s = record { name = w.spelling; places = tys; body = statement_over_places n (length tys) s }

-- `deffunc`. After a refusal anything may be left.
pub data FunctorRead (e : Environment) (c : Context) (least : ℕ) (left : Left) (t : DeffuncTree) : Result PrivateFunctor Refusal → Left → Type 0 where
  places_refused : (r : Refusal) (after : Left) → PlacesRead e c least left t.types (Err r) after → FunctorRead e c least left t (Err r) after
  term_refused : (tys : List SoftType) (r : Refusal) (between after : Left) → PlacesRead e c least left t.types (Ok tys) between →
      TermRead e (inside c tys) least between t.term (Err r) after → FunctorRead e c least left t (Err r) after
  functor_read : (tys : List SoftType) (u : Term) (between after : Left) → PlacesRead e c least left t.types (Ok tys) between →
      TermRead e (inside c tys) least between t.term (Ok u) after → FunctorRead e c least left t (Ok (functor t.name tys (next c) u)) after

-- `defpred`
pub data PredicateRead (e : Environment) (c : Context) (least : ℕ) (left : Left) (t : DefpredTree) : Result PrivatePredicate Refusal → Left → Type 0 where
  places_refused : (r : Refusal) (after : Left) → PlacesRead e c least left t.types (Err r) after → PredicateRead e c least left t (Err r) after
  formula_refused : (tys : List SoftType) (r : Refusal) (between after : Left) → PlacesRead e c least left t.types (Ok tys) between →
      FormulaRead e (inside c tys) least between t.formula (Err r) after → PredicateRead e c least left t (Err r) after
  predicate_read : (tys : List SoftType) (s : Statement) (between after : Left) → PlacesRead e c least left t.types (Ok tys) between →
      FormulaRead e (inside c tys) least between t.formula (Ok s) after → PredicateRead e c least left t (Ok (predicate t.name tys (next c) s)) after

-- the context with one more of them in force, and without a statement just before
abbrev pub with_functor : Context → PrivateFunctor → Context
with_functor c f = record c { functors = c.functors ++ f ∷ []; previous = None }

abbrev pub with_predicate : Context → PrivatePredicate → Context
with_predicate c p = record c { predicates = c.predicates ++ p ∷ []; previous = None }
