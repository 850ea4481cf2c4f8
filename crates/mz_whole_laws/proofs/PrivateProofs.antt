-- A context stays whole with a private functor or predicate that was read in it.
use Rattle.std.proofs.Common.{◌≡◌, ◌≤◌, ◌<◌, ◌+◌, ℕ, zero, suc, Bool, true, false, List, [], ◌∷◌, ◌++◌, length, map, refl, sym, ap, ◌∙◌, subst, arith, Option, Result, Ok, Err}
use Rattle.std.specs.Prelude.{◌&&◌, nat_le, nat_lt, nat_eq}
use Rattle.std.specs.List.{list_all}
use Rattle.std.proofs.lemmas.List.{length-map}
use Rattle.std.proofs.lemmas.Bool.{and_parts, and_from, le-leb, ltb-true, lt-ltb, eqb-false}
use Rattle.mz_logic.specs.Abstraction.{term_over}
use Rattle.mz_logic.specs.Term.{Term, Const}
use Rattle.mz_core.specs.Abstraction.{statement_over}
use Rattle.mz_core.specs.Statement.{Statement}
use Rattle.mz_core.specs.declared.outcome.Left.{Left}
use Rattle.mz_core.specs.declared.soft_type.SoftType.{SoftType}
use Rattle.mz_context.specs.Context.{next}
use Rattle.mz_context.specs.Changes.{with_constant}
use Rattle.mz_context.specs.declared.context.Context.{Context}
use Rattle.mz_context.specs.declared.private.PrivateFunctor.{PrivateFunctor}
use Rattle.mz_context.specs.declared.private.PrivatePredicate.{PrivatePredicate}
use Rattle.mz_environment.specs.declared.environment.Environment.{Environment}
use Rattle.mz_closed_laws.specs.ClosedEnvironment.{IsClosedEnvironment}
use Rattle.mz_names.specs.Closing.{constant_of, with_variables}
use Rattle.mz_names.specs.declared.refusal.Refusal.{Refusal}
use Rattle.mz_names.specs.declared.variable.Variable.{Variable}
use Rattle.mz_tree.specs.Trees.{TypeData}
use Rattle.mz_tree_proof.specs.declared.introduction.DeffuncTree.{DeffuncTree}
use Rattle.mz_tree_proof.specs.declared.introduction.DefpredTree.{DefpredTree}
use Rattle.mz_resolve.specs.Calls.{TypeRead}
use Rattle.mz_places.specs.Places as pl
use Rattle.mz_places.specs.Places.{TypesReadBehind, types_in}
use Rattle.mz_private.specs.Bodies.{term_over_places, statement_over_places}
use Rattle.mz_private.specs.Private as pr
use Rattle.mz_private.specs.Private.{place_of, constants_of, inside, functor, predicate, FunctorRead, PredicateRead, with_functor, with_predicate}
use Rattle.mz_steps_laws.proofs.FactLemmas.{next_with}
use Rattle.mz_choice_laws.specs.Known.{term_known, statement_known}
use Rattle.mz_choice_laws.proofs.KnownTerms.{term_known-over}
use Rattle.mz_choice_laws.proofs.KnownValues.{statement_known-over}
use Rattle.mz_term_laws.specs.Usable.{is_usable, term_usable, type_usable, statement_usable}
use Rattle.mz_term_laws.specs.Whole.{IsWhole}
use Rattle.mz_term_laws.proofs.ChangeProofs.{AllUsable, each_usable, variables_law, previous_law, functor_law, predicate_law}
use Rattle.mz_reading_laws.proofs.CallProofs.{term_call_law, type_call_law, formula_call_law}

-- the types of places
abbrev AllTyped : Context → List SoftType → Type 0
AllTyped c tys = AllUsable 0 c (map place_of tys)

one_more : (c : Context) (tys : List SoftType) (ty : SoftType) → AllTyped c tys → type_usable 0 c ty ≡ true → AllTyped c (tys ++ ty ∷ [])
one_more c [] ty all h = (h, tt)
one_more c (x ∷ xs) ty all h = (all.0, one_more c xs ty all.1 h)

abbrev WhereRead : Context → Result (List SoftType) Refusal → Type 0
WhereRead c (Ok tys) = AllTyped c tys
WhereRead c (Err r) = Unit {0}

types_usable : (e : Environment) → IsClosedEnvironment e → (c : Context) → IsWhole 0 c → (left after : Left) (ts : List TypeData) (before : List SoftType) (o : Result (List SoftType) Refusal) → AllTyped c before → TypesReadBehind e c 0 left ts before o after → WhereRead c o
types_usable e closed_e c whole left after ts before o all (pl.no_more _ _) = all
types_usable e closed_e c whole left after ts before o all (pl.one_refused _ _ t rest _ r h) = tt
types_usable e closed_e c whole left after ts before o all (pl.one_read _ between _ t rest _ ty _ h k) =
    types_usable e closed_e c whole between after rest (before ++ ty ∷ []) o (one_more c before ty all (type_call_law e c 0 0 closed_e whole (omega arith) left between t ty h)) k

-- the context in which a body is read
next_with_variables : (c : Context) (vs : List Variable) → next (with_variables c vs) ≡ next c + length vs
next_with_variables c [] = omega arith
next_with_variables c (v ∷ vs) =
    let rest : next (with_variables (with_constant c (constant_of v)) vs) ≡ next (with_constant c (constant_of v)) + length vs = next_with_variables (with_constant c (constant_of v)) vs in
    let one : next (with_constant c (constant_of v)) ≡ suc (next c) = next_with c (constant_of v) in
    omega (arith, rest, one)

next_inside : (c : Context) (tys : List SoftType) → next (inside c tys) ≡ next c + length tys
next_inside c tys = next_with_variables c (map place_of tys) ∙ ap (λ n. next c + n) (length-map tys place_of)

constants_usable : (d : Context) (n : ℕ) (tys : List SoftType) → n + length tys ≤ next d → list_all (term_usable 0 d) (constants_of n tys) ≡ true
constants_usable d n [] le = refl
constants_usable d n (ty ∷ tys) le =
    and_from (term_usable 0 d (Const n)) (list_all (term_usable 0 d) (constants_of (suc n) tys)) (and_from (nat_le 0 n) (nat_lt n (next d)) (le-leb 0 n (omega arith)) (lt-ltb n (next d) (omega (arith, le))))
    (constants_usable d (suc n) tys (omega (arith, le)))

inside_whole : (c : Context) → IsWhole 0 c → (tys : List SoftType) → AllTyped c tys → IsWhole 0 (inside c tys)
inside_whole c whole tys all =
    let vs : List Variable = map place_of tys in
    let w : IsWhole 0 (with_variables c vs) = variables_law 0 c vs whole (each_usable 0 c vs all) in
    let e : next (inside c tys) ≡ next c + length tys = next_inside c tys in
    record {
      constants = w.constants;
      reserved = w.reserved;
      labelled = w.labelled;
      previous = w.previous;
      functors = w.functors;
      predicates = w.predicates;
      letters = w.letters;
      thesis = w.thesis;
      it_is = w.it_is;
      arguments = constants_usable (inside c tys) (next c) tys (omega (arith, e));
      subject = w.subject;
    }

-- a body: what is below the constants of the places is below the first of them, and the places are indices
abbrev is_below_place : ℕ → ℕ → Bool
is_below_place n m = nat_le 0 m && nat_lt m n

below_last : (n m : ℕ) → is_below_place (suc n) m ≡ true → nat_eq m n ≡ false → is_below_place n m ≡ true
below_last n m h apart =
    let lt : m < suc n = ltb-true m (suc n) (and_parts (nat_le 0 m) (nat_lt m (suc n)) h).1 in
    let other : m ≡ n → ⊥ = eqb-false m n apart in
    and_from (nat_le 0 m) (nat_lt m n) (le-leb 0 m (omega arith)) (lt-ltb m n (omega (arith, lt, other)))

term_body_known : (least k n : ℕ) (t : Term) → term_known (is_below_place (least + k)) n t ≡ true → term_known (is_below_place least) (n + k) (term_over_places least k t) ≡ true
term_body_known least zero n t h =
    let same : least + 0 ≡ least = omega arith in
    let whole : n ≡ n + 0 = omega arith in
    subst (λ m. term_known (is_below_place least) m t ≡ true) whole (subst (λ m. term_known (is_below_place m) n t ≡ true) same h)
term_body_known least (suc k) n t h =
    let up : least + suc k ≡ suc (least + k) = omega arith in
    let sum : (n + 1) + k ≡ n + suc k = omega arith in
    let below : term_known (is_below_place (suc (least + k))) n t ≡ true = subst (λ m. term_known (is_below_place m) n t ≡ true) up h in
    let over : term_known (is_below_place (least + k)) (n + 1) (term_over (least + k) 0 t) ≡ true =
    term_known-over (is_below_place (suc (least + k))) (is_below_place (least + k)) (least + k) (below_last (least + k)) 0 n t (omega arith) below in
    subst (λ m. term_known (is_below_place least) m (term_over_places least (suc k) t) ≡ true) sum (term_body_known least k (n + 1) (term_over (least + k) 0 t) over)

statement_body_known : (least k n : ℕ) (s : Statement) → statement_known (is_below_place (least + k)) n s ≡ true → statement_known (is_below_place least) (n + k) (statement_over_places least k s) ≡ true
statement_body_known least zero n s h =
    let same : least + 0 ≡ least = omega arith in
    let whole : n ≡ n + 0 = omega arith in
    subst (λ m. statement_known (is_below_place least) m s ≡ true) whole (subst (λ m. statement_known (is_below_place m) n s ≡ true) same h)
statement_body_known least (suc k) n s h =
    let up : least + suc k ≡ suc (least + k) = omega arith in
    let sum : (n + 1) + k ≡ n + suc k = omega arith in
    let below : statement_known (is_below_place (suc (least + k))) n s ≡ true = subst (λ m. statement_known (is_below_place m) n s ≡ true) up h in
    let over : statement_known (is_below_place (least + k)) (n + 1) (statement_over (least + k) 0 s) ≡ true =
    statement_known-over (is_below_place (suc (least + k))) (is_below_place (least + k)) (least + k) n (below_last (least + k)) s below in
    subst (λ m. statement_known (is_below_place least) m (statement_over_places least (suc k) s) ≡ true) sum (statement_body_known least k (n + 1) (statement_over (least + k) 0 s) over)

-- what was read
no_functor : (r : Refusal) (f : PrivateFunctor) → Err r ≡ Ok f → ⊥
no_functor r f h = cc

no_predicate : (r : Refusal) (p : PrivatePredicate) → Err r ≡ Ok p → ⊥
no_predicate r p h = cc

abbrev functor_good : PrivateFunctor → Result PrivateFunctor Refusal
functor_good f = Ok f

same_functor : (f g : PrivateFunctor) → functor_good f ≡ functor_good g → f ≡ g
same_functor f g h = cc

abbrev predicate_good : PrivatePredicate → Result PrivatePredicate Refusal
predicate_good p = Ok p

same_predicate : (p q : PrivatePredicate) → predicate_good p ≡ predicate_good q → p ≡ q
same_predicate p q h = cc

functor_known : (e : Environment) → IsClosedEnvironment e → (c : Context) → IsWhole 0 c → (left after : Left) (t : DeffuncTree) (o : Result PrivateFunctor Refusal) → FunctorRead e c 0 left t o after → (f : PrivateFunctor) → o ≡ Ok f → term_known (is_usable 0 c) (length f.places) f.body ≡ true
functor_known e closed_e c whole left after t _ (pr.places_refused r _ h) f is = absurd (no_functor r f is)
functor_known e closed_e c whole left after t _ (pr.term_refused tys r between _ h k) f is = absurd (no_functor r f is)
functor_known e closed_e c whole left after t _ (pr.functor_read tys u between _ h k) f is =
    let all : AllTyped c tys = types_usable e closed_e c whole left between (types_in t.types) [] (Ok tys) tt h in
    let read : term_usable 0 (inside c tys) u ≡ true = term_call_law e (inside c tys) 0 0 closed_e (inside_whole c whole tys all) (omega arith) between after t.term u k in
    let sum : 0 + length tys ≡ length tys = omega arith in
    let body : term_known (is_below_place (next c)) (length tys) (term_over_places (next c) (length tys) u) ≡ true =
    subst (λ n. term_known (is_below_place (next c)) n (term_over_places (next c) (length tys) u) ≡ true) sum
    (term_body_known (next c) (length tys) 0 u (subst (λ n. term_known (is_below_place n) 0 u ≡ true) (next_inside c tys) read)) in
    subst (λ (g : PrivateFunctor). term_known (is_usable 0 c) (length g.places) g.body ≡ true) (same_functor (functor t.name tys (next c) u) f is) body

predicate_known : (e : Environment) → IsClosedEnvironment e → (c : Context) → IsWhole 0 c → (left after : Left) (t : DefpredTree) (o : Result PrivatePredicate Refusal) → PredicateRead e c 0 left t o after → (p : PrivatePredicate) → o ≡ Ok p → statement_known (is_usable 0 c) (length p.places) p.body ≡ true
predicate_known e closed_e c whole left after t _ (pr.places_refused r _ h) p is = absurd (no_predicate r p is)
predicate_known e closed_e c whole left after t _ (pr.formula_refused tys r between _ h k) p is = absurd (no_predicate r p is)
predicate_known e closed_e c whole left after t _ (pr.predicate_read tys s between _ h k) p is =
    let all : AllTyped c tys = types_usable e closed_e c whole left between (types_in t.types) [] (Ok tys) tt h in
    let read : statement_usable 0 (inside c tys) s ≡ true = formula_call_law e (inside c tys) 0 0 closed_e (inside_whole c whole tys all) (omega arith) between after t.formula s k in
    let sum : 0 + length tys ≡ length tys = omega arith in
    let body : statement_known (is_below_place (next c)) (length tys) (statement_over_places (next c) (length tys) s) ≡ true =
    subst (λ n. statement_known (is_below_place (next c)) n (statement_over_places (next c) (length tys) s) ≡ true) sum
    (statement_body_known (next c) (length tys) 0 s (subst (λ n. statement_known (is_below_place n) 0 s ≡ true) (next_inside c tys) read)) in
    subst (λ (q : PrivatePredicate). statement_known (is_usable 0 c) (length q.places) q.body ≡ true) (same_predicate (predicate t.name tys (next c) s) p is) body

pub functor_whole : (e : Environment) → IsClosedEnvironment e → (c : Context) → IsWhole 0 c → (left after : Left) (t : DeffuncTree) (f : PrivateFunctor) → FunctorRead e c 0 left t (Ok f) after → IsWhole 0 (with_functor c f)
functor_whole e closed_e c whole left after t f h =
    previous_law 0 (record c { functors = c.functors ++ f ∷ [] }) (functor_law 0 c f whole (functor_known e closed_e c whole left after t (Ok f) h f refl))

pub predicate_whole : (e : Environment) → IsClosedEnvironment e → (c : Context) → IsWhole 0 c → (left after : Left) (t : DefpredTree) (p : PrivatePredicate) → PredicateRead e c 0 left t (Ok p) after → IsWhole 0 (with_predicate c p)
predicate_whole e closed_e c whole left after t p h =
    previous_law 0 (record c { predicates = c.predicates ++ p ∷ [] }) (predicate_law 0 c p whole (predicate_known e closed_e c whole left after t (Ok p) h p refl))
