-- What private functors and predicates are read to, and what the article has left behind them, is determined.
use Rattle.std.proofs.Common.{◌≡◌, ℕ, List, [], ◌∷◌, ◌++◌, Option, refl}
use Rattle.std.specs.Prelude.{Result, Ok, Err}
use Rattle.mz_logic.specs.Term.{Term}
use Rattle.mz_core.specs.Statement.{Statement}
use Rattle.mz_core.specs.declared.outcome.Left.{Left}
use Rattle.mz_core.specs.declared.soft_type.SoftType.{SoftType}
use Rattle.mz_context.specs.Context.{next}
use Rattle.mz_context.specs.declared.context.Context.{Context}
use Rattle.mz_context.specs.declared.private.PrivateFunctor.{PrivateFunctor}
use Rattle.mz_context.specs.declared.private.PrivatePredicate.{PrivatePredicate}
use Rattle.mz_environment.specs.declared.environment.Environment.{Environment}
use Rattle.mz_names.specs.declared.refusal.Refusal.{Refusal}
use Rattle.mz_tree.specs.Trees.{TypeData}
use Rattle.mz_tree_proof.specs.declared.introduction.DeffuncTree.{DeffuncTree}
use Rattle.mz_tree_proof.specs.declared.introduction.DefpredTree.{DefpredTree}
use Rattle.mz_resolve.specs.Calls.{TermRead, TypeRead, FormulaRead}
use Rattle.mz_places.specs.Places as pl
use Rattle.mz_places.specs.Places.{TypesReadBehind, types_in, PlacesRead}
use Rattle.mz_private.specs.Private as pr
use Rattle.mz_private.specs.Private.{inside, functor, predicate, FunctorRead, PredicateRead}
use Rattle.mz_justified_laws.specs.Determined.{IsDetermined}
use Rattle.mz_justified_laws.proofs.Sequence.{determined_by, IsValue, determined_value, ThenRead, determined_then, as_it_is}
use Rattle.mz_parts_laws.proofs.OneExpression.{one_term_read, one_type_read, one_formula_read}
use Rattle.mz_private_laws.specs.Laws.{OnePlacesLaw, OneFunctorLaw, OnePredicateLaw}

-- types one after another
abbrev BehindNext : Environment → Context → ℕ → List TypeData → List SoftType → SoftType → Left → Result (List SoftType) Refusal → Left → Type 0
BehindNext e c least ts before ty l = TypesReadBehind e c least l ts (before ++ ty ∷ [])

abbrev BehindAs : Environment → Context → ℕ → Left → List TypeData → List SoftType → Result (List SoftType) Refusal → Left → Type 0
BehindAs e c least left [] before o a = IsValue (Ok before) left o a
BehindAs e c least left (t ∷ ts) before o a = ThenRead (TypeRead e c least left t) as_it_is (BehindNext e c least ts before) o a

behind_as : (e : Environment) (c : Context) (least : ℕ) (left : Left) (ts : List TypeData) (before : List SoftType) (o : Result (List SoftType) Refusal) (a : Left) →
    TypesReadBehind e c least left ts before o a → BehindAs e c least left ts before o a
behind_as e c least left ts before o a (pl.no_more _ _) = (refl, refl)
behind_as e c least left ts before o a (pl.one_refused _ _ t rest _ r h) = (Err r, a, h, refl)
behind_as e c least left ts before o a (pl.one_read _ between _ t rest _ ty _ h k) = (Ok ty, between, h, k)

one_behind : (e : Environment) (c : Context) (least : ℕ) (ts : List TypeData) (left : Left) (before : List SoftType) → IsDetermined (TypesReadBehind e c least left ts before)
one_behind e c least [] left before =
    determined_by (TypesReadBehind e c least left [] before) (BehindAs e c least left [] before) (behind_as e c least left [] before) (determined_value (Ok before) left)
one_behind e c least (t ∷ ts) left before =
    determined_by (TypesReadBehind e c least left (t ∷ ts) before) (BehindAs e c least left (t ∷ ts) before) (behind_as e c least left (t ∷ ts) before)
    (determined_then (TypeRead e c least left t) as_it_is (BehindNext e c least ts before) (one_type_read e c least left t)
    (λ (ty : SoftType) (l : Left). one_behind e c least ts l (before ++ ty ∷ [])))

pub one_places_read : OnePlacesLaw
one_places_read e c least left ts = one_behind e c least (types_in ts) left []

-- `deffunc`
abbrev FunctorValue : Context → DeffuncTree → List SoftType → Term → Left → Result PrivateFunctor Refusal → Left → Type 0
FunctorValue c t tys u l = IsValue (Ok (functor t.name tys (next c) u)) l

abbrev FunctorNext : Environment → Context → ℕ → DeffuncTree → List SoftType → Left → Result PrivateFunctor Refusal → Left → Type 0
FunctorNext e c least t tys l = ThenRead (TermRead e (inside c tys) least l t.term) as_it_is (FunctorValue c t tys)

abbrev FunctorAs : Environment → Context → ℕ → Left → DeffuncTree → Result PrivateFunctor Refusal → Left → Type 0
FunctorAs e c least left t = ThenRead (PlacesRead e c least left t.types) as_it_is (FunctorNext e c least t)

functor_as : (e : Environment) (c : Context) (least : ℕ) (left : Left) (t : DeffuncTree) (o : Result PrivateFunctor Refusal) (a : Left) → FunctorRead e c least left t o a → FunctorAs e c least left t o a
functor_as e c least left t o a (pr.places_refused r _ h) = (Err r, a, h, refl)
functor_as e c least left t o a (pr.term_refused tys r between _ h k) = (Ok tys, between, h, (Err r, a, k, refl))
functor_as e c least left t o a (pr.functor_read tys u between _ h k) = (Ok tys, between, h, (Ok u, a, k, (refl, refl)))

pub one_functor_read : OneFunctorLaw
one_functor_read e c least left t =
    determined_by (FunctorRead e c least left t) (FunctorAs e c least left t) (functor_as e c least left t)
    (determined_then (PlacesRead e c least left t.types) as_it_is (FunctorNext e c least t) (one_places_read e c least left t.types)
    (λ (tys : List SoftType) (l : Left). determined_then (TermRead e (inside c tys) least l t.term) as_it_is (FunctorValue c t tys) (one_term_read e (inside c tys) least l t.term)
    (λ (u : Term) (m : Left). determined_value (Ok (functor t.name tys (next c) u)) m)))

-- `defpred`
abbrev PredicateValue : Context → DefpredTree → List SoftType → Statement → Left → Result PrivatePredicate Refusal → Left → Type 0
PredicateValue c t tys s l = IsValue (Ok (predicate t.name tys (next c) s)) l

abbrev PredicateNext : Environment → Context → ℕ → DefpredTree → List SoftType → Left → Result PrivatePredicate Refusal → Left → Type 0
PredicateNext e c least t tys l = ThenRead (FormulaRead e (inside c tys) least l t.formula) as_it_is (PredicateValue c t tys)

abbrev PredicateAs : Environment → Context → ℕ → Left → DefpredTree → Result PrivatePredicate Refusal → Left → Type 0
PredicateAs e c least left t = ThenRead (PlacesRead e c least left t.types) as_it_is (PredicateNext e c least t)

predicate_as : (e : Environment) (c : Context) (least : ℕ) (left : Left) (t : DefpredTree) (o : Result PrivatePredicate Refusal) (a : Left) → PredicateRead e c least left t o a → PredicateAs e c least left t o a
predicate_as e c least left t o a (pr.places_refused r _ h) = (Err r, a, h, refl)
predicate_as e c least left t o a (pr.formula_refused tys r between _ h k) = (Ok tys, between, h, (Err r, a, k, refl))
predicate_as e c least left t o a (pr.predicate_read tys s between _ h k) = (Ok tys, between, h, (Ok s, a, k, (refl, refl)))

pub one_predicate_read : OnePredicateLaw
one_predicate_read e c least left t =
    determined_by (PredicateRead e c least left t) (PredicateAs e c least left t) (predicate_as e c least left t)
    (determined_then (PlacesRead e c least left t.types) as_it_is (PredicateNext e c least t) (one_places_read e c least left t.types)
    (λ (tys : List SoftType) (l : Left). determined_then (FormulaRead e (inside c tys) least l t.formula) as_it_is (PredicateValue c t tys) (one_formula_read e (inside c tys) least l t.formula)
    (λ (s : Statement) (m : Left). determined_value (Ok (predicate t.name tys (next c) s)) m)))
