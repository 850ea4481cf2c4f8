-- What stands, of steps and of contexts with further constants.
use Rattle.std.proofs.Common.{◌≡◌, ◌≤◌, ◌<◌, ◌+◌, ℕ, zero, suc, Bool, true, List, [], ◌∷◌, ◌++◌, map, length, refl, sym, ap, ◌∙◌, subst, arith}
use Rattle.std.specs.Prelude.{Contains}
use Rattle.std.specs.List.{list_all}
use Rattle.std.proofs.lemmas.Bool.{and_parts, and_from}
use Rattle.mz_logic.specs.Formula.{Formula}
use Rattle.mz_logic.specs.Literal.{literal_formula}
use Rattle.mz_logic.specs.Indices.{is_below}
use Rattle.mz_logic.specs.declared.literal.Literal.{Literal}
use Rattle.mz_logic.proofs.Each.{cut_each, each_right, each_itself}
use Rattle.mz_core.specs.Statement.{Statement}
use Rattle.mz_core.specs.StatementForms.{opposite}
use Rattle.mz_core.specs.Abstraction.{statement_over}
use Rattle.mz_core.specs.TypeStatements.{literal_statement}
use Rattle.mz_core.specs.Erasure.{erase}
use Rattle.mz_core.specs.InForce.{formula_in_force, statement_in_force}
use Rattle.mz_core.specs.Below.{type_below, statement_below}
use Rattle.mz_core.proofs.AllLemmas.{all-map, all-append, opposite_all}
use Rattle.mz_core.proofs.LawProofs.{abstraction_below, negation_in_force, more_in_force, erasure_in_force}
use Rattle.mz_laws.proofs.StatementProofs.{more_formula_in_force}
use Rattle.mz_context.specs.Context.{next}
use Rattle.mz_context.specs.Changes.{with_constant}
use Rattle.mz_context.specs.declared.context.Context.{Context}
use Rattle.mz_ground.specs.ClauseFormula.{clause_formula}
use Rattle.mz_ground.specs.declared.clause.Clause.{Clause}
use Rattle.mz_environment.specs.declared.unfoldings.Unfolding.{Unfolding}
use Rattle.mz_names.specs.Closing.{constant_of, with_variables, for_all, there_are}
use Rattle.mz_names.specs.declared.variable.Variable.{Variable}
use Rattle.mz_thesis_laws.specs.RowLaws.{AreInForce}
use Rattle.mz_problem_laws.specs.ProblemLaw.{KnownIsClosed}
use Rattle.mz_steps.specs.declared.read_step.ReadStep.{ReadStep}
use Rattle.mz_steps.specs.declared.read_step.ReadStep.TheVariants.{Let, Assume, Given, Thus, Take, Consider, Reconsider, Set, State}
use Rattle.mz_steps_laws.specs.Facts.{known_from, statements_in, facts, Rests}
use Rattle.mz_steps_laws.specs.StepLaws.{AreDeclared, IsReadIn}
use Rattle.mz_steps_laws.proofs.FactLemmas.{next_with, known_within}
use Rattle.mz_steps_laws.proofs.ProofSteps.{erased_literals}
use Rattle.mz_steps_laws.proofs.ThereAreProofs.{for_all_in_force, there_are_in_force}
use Rattle.mz_block_laws.specs.Orders.{Stands, AllStand, AreTyped, StepStands, HasItsType, AreFounded, is_standing, IsInOrder}
use Rattle.mz_block_laws.specs.BlockLaws.{SentenceStandsLaw}

-- members of a list all of which pass a test
pub member_passes : {X : Type 0} (p : X → Bool) (xs : List X) (x : X) → list_all p xs ≡ true → Contains xs x → p x ≡ true
member_passes p [] x h is = let lt : is.0 < 0 = is.1 in absurd (omega arith)
member_passes p (y ∷ ys) x h (zero, lt, e) = sym (ap p e) ∙ (and_parts (p y) (list_all p ys) h).0
member_passes p (y ∷ ys) x h (suc i, lt, e) = member_passes p ys x (and_parts (p y) (list_all p ys) h).1 (i, omega (arith, lt), e)

pub all_left : {X : Type 0} (p : X → Bool) (xs ys : List X) → list_all p (xs ++ ys) ≡ true → list_all p xs ≡ true
all_left p [] ys h = refl
all_left p (x ∷ xs) ys h =
    let both : (p x ≡ true) × (list_all p (xs ++ ys) ≡ true) = and_parts (p x) (list_all p (xs ++ ys)) h in
    and_from (p x) (list_all p xs) both.0 (all_left p xs ys both.1)

pub all_right : {X : Type 0} (p : X → Bool) (xs ys : List X) → list_all p (xs ++ ys) ≡ true → list_all p ys ≡ true
all_right p [] ys h = h
all_right p (x ∷ xs) ys h = all_right p xs ys (and_parts (p x) (list_all p (xs ++ ys)) h).1

pub all_weaker : {X : Type 0} (p q : X → Bool) (xs : List X) → ((x : X) → p x ≡ true → q x ≡ true) → list_all p xs ≡ true → list_all q xs ≡ true
all_weaker p q [] weaker h = refl
all_weaker p q (x ∷ xs) weaker h =
    let both : (p x ≡ true) × (list_all p xs ≡ true) = and_parts (p x) (list_all p xs) h in
    and_from (q x) (list_all q xs) (weaker x both.0) (all_weaker p q xs weaker both.1)

-- what stands
pub stands_out : (n : ℕ) (s : Statement) → is_standing n s ≡ true → Stands n s
stands_out n s h = and_parts (statement_in_force n s) (statement_below 0 s) h

pub stands_in : (n : ℕ) (s : Statement) → Stands n s → is_standing n s ≡ true
stands_in n s w = and_from (statement_in_force n s) (statement_below 0 s) w.0 w.1

pub stands_more : (m n : ℕ) (s : Statement) → m ≤ n → is_standing m s ≡ true → is_standing n s ≡ true
stands_more m n s le h =
    let w : Stands m s = stands_out m s h in
    stands_in n s (more_in_force m n s le w.0, w.1)

stands_erased : (n : ℕ) (s : Statement) → is_standing n s ≡ true → formula_in_force n (erase s) ≡ true
stands_erased n s h = erasure_in_force n s (stands_out n s h).0

-- what a context says is in force
pub facts_in_force : (held : List Formula) (c : Context) → IsInOrder held c → AreInForce (next c) (facts c ++ held)
facts_in_force held c order =
    let n : ℕ = next c in
    let ls : List Statement = map literal_statement (known_from 1 c.constants) in
    let known : list_all (formula_in_force n) (map erase ls) ≡ true = all-map (is_standing n) (formula_in_force n) erase ls (stands_erased n) (all_left (is_standing n) ls (statements_in c) order.said) in
    let stated : list_all (formula_in_force n) (map erase (statements_in c)) ≡ true = all-map (is_standing n) (formula_in_force n) erase (statements_in c) (stands_erased n) (all_right (is_standing n) ls (statements_in c) order.said) in
    all-append (formula_in_force n) (facts c) held
    (all-append (formula_in_force n) (map literal_formula (known_from 1 c.constants)) (map erase (statements_in c)) (subst (λ fs. list_all (formula_in_force n) fs ≡ true) (erased_literals (known_from 1 c.constants)) known) stated)
    order.held_in_force

-- what is known of constants has no free index
literal_passes : (p : Statement → Bool) (ls : List Literal) (l : Literal) → list_all p (map literal_statement ls) ≡ true → Contains ls l → p (literal_statement l) ≡ true
literal_passes p [] l h is = let lt : is.0 < 0 = is.1 in absurd (omega arith)
literal_passes p (k ∷ ks) l h (zero, lt, e) = sym (ap (λ m. p (literal_statement m)) e) ∙ (and_parts (p (literal_statement k)) (list_all p (map literal_statement ks)) h).0
literal_passes p (k ∷ ks) l h (suc i, lt, e) = literal_passes p ks l (and_parts (p (literal_statement k)) (list_all p (map literal_statement ks)) h).1 (i, omega (arith, lt), e)

pub known_closed : (held : List Formula) (c : Context) → IsInOrder held c → KnownIsClosed c.constants
known_closed held c order n l is =
    let p : is_standing (next c) (literal_statement l) ≡ true =
    literal_passes (is_standing (next c)) (known_from 1 c.constants) l (all_left (is_standing (next c)) (map literal_statement (known_from 1 c.constants)) (statements_in c) order.said) (known_within c.constants n l is) in
    (stands_out (next c) (literal_statement l) p).1

-- where steps are sound
pub rests_in : (ax held : List Formula) (cs : List Clause) (us : List Unfolding) → AreFounded ax held cs us → (c : Context) → IsInOrder held c → Rests ax held cs us c
rests_in ax held cs us founded c order = record {
  clauses = λ k is. cut_each ax (facts c ++ held) held (clause_formula k) (each_right ax (facts c ++ held) (facts c) held (each_itself ax (facts c ++ held))) (founded.clauses k is);
  unfoldings = founded.unfoldings;
  in_force = facts_in_force held c order;
}

-- variables behind one another
pub typed_stand : (n : ℕ) (vs : List Variable) (s : Statement) → AreTyped n vs → Stands (length vs + n) s → AllStand n vs s
typed_stand n [] s w u = let e : 0 + n ≡ n = omega arith in subst (λ m. Stands m s) e u
typed_stand n (v ∷ vs) s w u =
    let e : suc (length vs) + n ≡ length vs + suc n = omega arith in
    (w.0, typed_stand (suc n) vs s w.1 (subst (λ m. Stands m s) e u))

pub all_typed : (n : ℕ) (vs : List Variable) (s : Statement) → AllStand n vs s → AreTyped n vs
all_typed n [] s w = tt
all_typed n (v ∷ vs) s w = (w.0, all_typed (suc n) vs s w.1)

pub stands_behind : (n : ℕ) (vs : List Variable) (s : Statement) → AllStand n vs s → Stands (length vs + n) s
stands_behind n [] s w = let e : n ≡ 0 + n = omega arith in subst (λ m. Stands m s) e w
stands_behind n (v ∷ vs) s w =
    let e : length vs + suc n ≡ suc (length vs) + n = omega arith in
    subst (λ m. Stands m s) e (stands_behind (suc n) vs s w.1)

pub all_declared : (n : ℕ) (vs : List Variable) (s : Statement) → AllStand n vs s → AreDeclared n vs s
all_declared n [] s w = w.0
all_declared n (v ∷ vs) s w = (w.0.0, all_declared (suc n) vs s w.1)

pub denied_stand : (n : ℕ) (vs : List Variable) (s : Statement) → AllStand n vs s → AllStand n vs (opposite s)
denied_stand n [] s w = (negation_in_force n s ∙ w.0, opposite_all is_below 0 s ∙ w.1)
denied_stand n (v ∷ vs) s w = (w.0, denied_stand (suc n) vs s w.1)

for_all_below : (n : ℕ) (vs : List Variable) (s : Statement) → AllStand n vs s → statement_below 0 (for_all n vs s) ≡ true
for_all_below n [] s w = w.1
for_all_below n (v ∷ vs) s w =
    and_from (type_below 0 v.ty) (statement_below 1 (statement_over n 0 (for_all (suc n) vs s))) w.0.1 (abstraction_below 0 n (for_all (suc n) vs s) (for_all_below (suc n) vs s w.1))

pub sentence_stands_law : SentenceStandsLaw
sentence_stands_law n vs s w = (for_all_in_force n vs s (all_declared n vs s w), for_all_below n vs s w)

pub there_are_stand : (n : ℕ) (vs : List Variable) (s : Statement) → AllStand n vs s → Stands n (there_are n vs s)
there_are_stand n vs s w =
    (there_are_in_force n vs s (all_declared n vs s w), opposite_all is_below 0 (for_all n vs (opposite s)) ∙ for_all_below n vs (opposite s) (denied_stand n vs s w))

-- what a step says was read
pub read_in : (ax g : List Formula) (c : Context) (s : ReadStep) → StepStands (next c) s → HasItsType ax g s → IsReadIn ax g c s
read_in ax g c (Let v) w t = w.0
read_in ax g c (Assume s) w t = tt
read_in ax g c (Given vs s) w t = all_declared (next c) vs s w
read_in ax g c (Thus s) w t = tt
read_in ax g c (Take u) w t = w
read_in ax g c (Consider vs s) w t = all_declared (next c) vs s w
read_in ax g c (Reconsider d) w t = (w.0.0, w.1.0, w.1.1)
read_in ax g c (Set d) w t = (w.0.0, w.1.0, w.1.1, t)
read_in ax g c (State s) w t = tt

-- the numbers behind variables
pub next_with_variables : (c : Context) (vs : List Variable) → next (with_variables c vs) ≡ length vs + next c
next_with_variables c [] = omega arith
next_with_variables c (v ∷ vs) =
    let e : next (with_constant c (constant_of v)) ≡ suc (next c) = next_with c (constant_of v) in
    let f : next (with_variables (with_constant c (constant_of v)) vs) ≡ length vs + next (with_constant c (constant_of v)) = next_with_variables (with_constant c (constant_of v)) vs in
    omega (arith, e, f)

-- formulas in force, of which others are
pub force_more : (m n : ℕ) (fs : List Formula) → m ≤ n → AreInForce m fs → AreInForce n fs
force_more m n [] le h = refl
force_more m n (f ∷ fs) le h =
    let p : (formula_in_force m f ≡ true) × (list_all (formula_in_force m) fs ≡ true) = and_parts (formula_in_force m f) (list_all (formula_in_force m) fs) h in
    and_from (formula_in_force n f) (list_all (formula_in_force n) fs) (more_formula_in_force m n f le p.0) (force_more m n fs le p.1)
