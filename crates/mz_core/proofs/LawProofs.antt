-- Proofs of the laws.
use Rattle.std.proofs.Common.{◌≡◌, ◌<◌, ◌≤◌, ◌⊎◌, inl, inr, ℕ, zero, suc, ◌+◌, ◌-◌, List, [], ◌∷◌, map, refl, ap, sym, ◌∙◌, subst, arith, Bool, true, false}
use Rattle.std.specs.Prelude.{◌&&◌, ◌||◌, nat_lt, nat_eq, if◌then◌else◌}
use Rattle.std.specs.List.{list_all, list_any}
use Rattle.std.proofs.lemmas.Bool.{ltb-true, lt-ltb, ne_eqb, and_parts, and_from, or_from, cases_lt, eqb-true, eqb-false}
use Rattle.mz_logic.specs.Term.{Term, Terms, Bound, Const, App, none, more}
use Rattle.mz_logic.specs.Formula as formula
use Rattle.mz_logic.specs.Formula.{Formula}
use Rattle.mz_logic.specs.Negation.{negated}
use Rattle.mz_logic.specs.Indices.{is_below, closed, formula_below}
use Rattle.mz_logic.specs.Constants.{occurs, occurs_in_args, occurs_in_formula}
use Rattle.mz_logic.specs.Connectives.{joined_to, joined}
use Rattle.mz_logic.specs.Substitution.{shift, shift_args, substitute, substitute_args, substitute_formula, value_at}
use Rattle.mz_logic.specs.Abstraction.{term_over, args_over, formula_over}
use Rattle.mz_logic.proofs.ShiftLaws.{is_below-shift}
use Rattle.mz_logic.proofs.SubstitutionLaws.{is_below-substitute}
use Rattle.mz_logic.proofs.IndexLemmas.{is_below-closed}
use Rattle.mz_logic.proofs.ValueLaws.{substitute-past, substitute-one_equal}
use Rattle.mz_logic.proofs.AbstractionLaws.{term_over-substitute, is_below-term_over}
use Rattle.mz_core.specs.Statement.{Statement, Truth, Eq, Atom, Not, And, For}
use Rattle.mz_core.specs.StatementForms.{opposite}
use Rattle.mz_core.specs.TypeSubstitution.{substitute_type, substitute_statement}
use Rattle.mz_core.specs.Abstraction.{type_over, statement_over}
use Rattle.mz_core.specs.Guard.{guard}
use Rattle.mz_core.specs.Parts.{parts, conjunction_to, conjunction}
use Rattle.mz_core.specs.Erasure.{erase}
use Rattle.mz_core.specs.InForce.{term_in_force, args_in_force, formula_in_force, adjective_in_force, type_in_force, statement_in_force}
use Rattle.mz_core.specs.Everywhere.{adjective_all, type_all, statement_all, formula_all}
use Rattle.mz_core.specs.Laws.{ErasureOfShift, ErasureOfSubstitution, ErasureOfBody, ErasureOfAbstraction, ErasureOfNegation, ErasureOfConjunction, GuardOfSubstitution, GuardOfAbstraction, BodyOfAbstraction, AbstractionOfBody, BodyBelow, AbstractionBelow, ErasureBelow, MoreInForce, BodyInForce, AbstractionInForce, NegationInForce, PartsInForce, ConjunctionInForce, GuardInForce, ErasureInForce, NextIsNew}
use Rattle.mz_core.specs.declared.adjective.Adjective.{Adjective}
use Rattle.mz_core.specs.declared.soft_type.SoftType.{SoftType}
use Rattle.mz_core.proofs.TermMaps.{adjective_with, type_with, statement_with, formula_with, guard-with, erase-with}
use Rattle.mz_core.proofs.MapInstances.{shifts, substitutes, abstracts, shifts_go_under, substitutes_go_under, abstracts_go_under, shift_statement-with, shift_formula-with, substitute_statement-with, substitute_formula-with, statement_over-with, formula_over-with}
use Rattle.mz_core.proofs.AllLemmas.{Persists, statement_all-at, statement_all-with, opposite_all, conjunction_all, guard_all, erase_all, parts_all}

-- erasure
pub erasure_of_shift : ErasureOfShift
erasure_of_shift from by s =
    ap erase (shift_statement-with by from s) ∙ erase-with (shifts by) from s (shifts_go_under by) ∙ sym (shift_formula-with by from (erase s))

pub erasure_of_substitution : ErasureOfSubstitution
erasure_of_substitution depth values s =
    ap erase (substitute_statement-with values depth s) ∙ erase-with (substitutes values) depth s (substitutes_go_under values) ∙ sym (substitute_formula-with values depth (erase s))

pub erasure_of_body : ErasureOfBody
erasure_of_body s t = erasure_of_substitution 0 (value_at (t ∷ [])) s

pub erasure_of_abstraction : ErasureOfAbstraction
erasure_of_abstraction c depth s =
    ap erase (statement_over-with c depth s) ∙ erase-with (abstracts c) depth s (abstracts_go_under c) ∙ sym (formula_over-with c depth (erase s))

-- no double negation stands in front
is_single : Formula → Bool
is_single formula.Truth = true
is_single (formula.Eq t u) = true
is_single (formula.Atom s ts) = true
is_single (formula.Not formula.Truth) = true
is_single (formula.Not (formula.Eq t u)) = true
is_single (formula.Not (formula.Atom s ts)) = true
is_single (formula.Not (formula.Not f)) = false
is_single (formula.Not (formula.And f g)) = true
is_single (formula.Not (formula.All f)) = true
is_single (formula.And f g) = true
is_single (formula.All f) = true

single_negated : (f : Formula) → is_single f ≡ true → is_single (negated f) ≡ true
unfolding is_single
single_negated formula.Truth h = refl
single_negated (formula.Eq t u) h = refl
single_negated (formula.Atom s ts) h = refl
single_negated (formula.Not formula.Truth) h = refl
single_negated (formula.Not (formula.Eq t u)) h = refl
single_negated (formula.Not (formula.Atom s ts)) h = refl
single_negated (formula.Not (formula.Not f)) h = cc
single_negated (formula.Not (formula.And f g)) h = refl
single_negated (formula.Not (formula.All f)) h = refl
single_negated (formula.And f g) h = refl
single_negated (formula.All f) h = refl

negated_negated : (f : Formula) → is_single f ≡ true → negated (negated f) ≡ f
unfolding is_single
negated_negated formula.Truth h = refl
negated_negated (formula.Eq t u) h = refl
negated_negated (formula.Atom s ts) h = refl
negated_negated (formula.Not formula.Truth) h = refl
negated_negated (formula.Not (formula.Eq t u)) h = refl
negated_negated (formula.Not (formula.Atom s ts)) h = refl
negated_negated (formula.Not (formula.Not f)) h = cc
negated_negated (formula.Not (formula.And f g)) h = refl
negated_negated (formula.Not (formula.All f)) h = refl
negated_negated (formula.And f g) h = refl
negated_negated (formula.All f) h = refl

single_erased : (s : Statement) → is_single (erase s) ≡ true
unfolding is_single
single_erased Truth = refl
single_erased (Eq t u) = refl
single_erased (Atom s ts) = refl
single_erased (Not s) = single_negated (erase s) (single_erased s)
single_erased (And s t) = refl
single_erased (For ty s) = refl

pub erasure_of_negation : ErasureOfNegation
erasure_of_negation Truth = refl
erasure_of_negation (Eq t u) = refl
erasure_of_negation (Atom s ts) = refl
erasure_of_negation (Not s) = sym (negated_negated (erase s) (single_erased s))
erasure_of_negation (And s t) = refl
erasure_of_negation (For ty s) = refl

erase-conjunction_to : (s : Statement) (ts : List Statement) → erase (conjunction_to s ts) ≡ joined_to (erase s) (map erase ts)
erase-conjunction_to s [] = refl
erase-conjunction_to s (t ∷ ts) = erase-conjunction_to (And s t) ts

pub erasure_of_conjunction : ErasureOfConjunction
erasure_of_conjunction [] = refl
erasure_of_conjunction (s ∷ ss) = erase-conjunction_to s ss

-- guards
pub map_is : {X Y : Type 0} (f g : X → Y) (xs : List X) → ((x : X) → f x ≡ g x) → map f xs ≡ map g xs
map_is f g [] same = refl
map_is f g (x ∷ xs) same = λ i. same x i ∷ map_is f g xs same i

pub guard_of_substitution : GuardOfSubstitution
guard_of_substitution depth values ty t =
    map_is (substitute_formula depth values) (formula_with (substitutes values) depth) (guard ty t) (λ f. substitute_formula-with values depth f) ∙ guard-with (substitutes values) depth ty t

pub guard_of_abstraction : GuardOfAbstraction
guard_of_abstraction c depth ty t =
    map_is (formula_over c depth) (formula_with (abstracts c) depth) (guard ty t) (λ f. formula_over-with c depth f) ∙ guard-with (abstracts c) depth ty t

-- one change after another
pub map_twice : {X : Type 0} (f h : X → X) (p : X → Bool) (xs : List X) → ((x : X) → p x ≡ true → f (h x) ≡ x) → list_all p xs ≡ true → map f (map h xs) ≡ xs
map_twice f h p [] back e = refl
map_twice f h p (x ∷ xs) back e =
    let both : (p x ≡ true) × (list_all p xs ≡ true) = and_parts (p x) (list_all p xs) e in
    λ i. back x both.0 i ∷ map_twice f h p xs back both.1 i

pub adjective_back : (f h : Term → Term) (p : ℕ → Term → Bool) (n : ℕ) (a : Adjective) → ((t : Term) → p n t ≡ true → f (h t) ≡ t) → adjective_all p n a ≡ true → adjective_with f (adjective_with h a) ≡ a
adjective_back f h p n a back e i = record { positive = a.positive; sym = a.sym; args = map_twice f h (p n) a.args back e i }

pub type_back : (f h : Term → Term) (p : ℕ → Term → Bool) (n : ℕ) (ty : SoftType) → ((t : Term) → p n t ≡ true → f (h t) ≡ t) → type_all p n ty ≡ true → type_with f (type_with h ty) ≡ ty
type_back f h p n ty back e =
    let both : (list_all (adjective_all p n) ty.adjectives ≡ true) × (list_all (p n) ty.radix.args ≡ true) = and_parts (list_all (adjective_all p n) ty.adjectives) (list_all (p n) ty.radix.args) e in
    λ i. record { adjectives = map_twice (adjective_with f) (adjective_with h) (adjective_all p n) ty.adjectives (λ a. adjective_back f h p n a back) both.0 i; radix = record { sym = ty.radix.sym; args = map_twice f h (p n) ty.radix.args back both.1 i } }

pub statement_back : (f h : ℕ → Term → Term) (p : ℕ → Term → Bool) (d : ℕ) (s : Statement) → ((d : ℕ) (t : Term) → p d t ≡ true → f d (h d t) ≡ t) → statement_all p d s ≡ true → statement_with f d (statement_with h d s) ≡ s
statement_back f h p d Truth back e = refl
statement_back f h p d (Eq t u) back e =
    let both : (p d t ≡ true) × (p d u ≡ true) = and_parts (p d t) (p d u) e in
    λ i. Eq (back d t both.0 i) (back d u both.1 i)
statement_back f h p d (Atom s ts) back e = ap (λ us. Atom s us) (map_twice (f d) (h d) (p d) ts (back d) e)
statement_back f h p d (Not s) back e = ap Not (statement_back f h p d s back e)
statement_back f h p d (And s t) back e =
    let both : (statement_all p d s ≡ true) × (statement_all p d t ≡ true) = and_parts (statement_all p d s) (statement_all p d t) e in
    λ i. And (statement_back f h p d s back both.0 i) (statement_back f h p d t back both.1 i)
statement_back f h p d (For ty s) back e =
    let both : (type_all p d ty ≡ true) × (statement_all p (d + 1) s ≡ true) = and_parts (type_all p d ty) (statement_all p (d + 1) s) e in
    λ i. For (type_back (f d) (h d) p d ty (back d) both.0 i) (statement_back f h p (d + 1) s back both.1 i)

-- what is in force
abbrev pub in_force_at : ℕ → ℕ → Term → Bool
in_force_at next n t = term_in_force next t

mutual
  pub term_in_force-shift : (next from by : ℕ) (t : Term) → term_in_force next (shift from by t) ≡ term_in_force next t
  term_in_force-shift next from by (Bound index) = refl
  term_in_force-shift next from by (Const number) = refl
  term_in_force-shift next from by (App s ts) = args_in_force-shift next from by ts

  pub args_in_force-shift : (next from by : ℕ) (ts : Terms) → args_in_force next (shift_args from by ts) ≡ args_in_force next ts
  args_in_force-shift next from by none = refl
  args_in_force-shift next from by (more t ts) = λ i. term_in_force-shift next from by t i && args_in_force-shift next from by ts i

pub in_force_persists : (next : ℕ) → Persists (in_force_at next)
in_force_persists next = record { raised = λ n t h. term_in_force-shift next 0 1 t ∙ h; zero = λ n. refl }

pub statement_in_force-all : (next n : ℕ) (s : Statement) → statement_in_force next s ≡ statement_all (in_force_at next) n s
statement_in_force-all next n Truth = refl
statement_in_force-all next n (Eq t u) = refl
statement_in_force-all next n (Atom s ts) = refl
statement_in_force-all next n (Not s) = statement_in_force-all next n s
statement_in_force-all next n (And s t) = λ i. statement_in_force-all next n s i && statement_in_force-all next n t i
statement_in_force-all next n (For ty s) = ap (λ b. type_in_force next ty && b) (statement_in_force-all next (n + 1) s)

pub formula_in_force-all : (next n : ℕ) (f : Formula) → formula_in_force next f ≡ formula_all (in_force_at next) n f
formula_in_force-all next n formula.Truth = refl
formula_in_force-all next n (formula.Eq t u) = refl
formula_in_force-all next n (formula.Atom s ts) = refl
formula_in_force-all next n (formula.Not f) = formula_in_force-all next n f
formula_in_force-all next n (formula.And f g) = λ i. formula_in_force-all next n f i && formula_in_force-all next n g i
formula_in_force-all next n (formula.All f) = formula_in_force-all next (n + 1) f

-- both directions of the abstraction
substitute-constant_back : (c d number : ℕ) (b : Bool) → nat_eq number c ≡ b → substitute d (value_at (Const c ∷ [])) (if b then Bound d else Const number) ≡ Const number
substitute-constant_back c d number true e = substitute-one_equal d (Const c) d refl ∙ ap Const (sym (eqb-true number c e))
substitute-constant_back c d number false e = refl

mutual
  pub term_back : (c d : ℕ) (t : Term) → substitute d (value_at (Const c ∷ [])) (term_over c d t) ≡ t
  term_back c d (Bound index) = substitute-past d (Const c ∷ []) (Bound index)
  term_back c d (Const number) = substitute-constant_back c d number (nat_eq number c) refl
  term_back c d (App s ts) = ap (λ us. App s us) (args_back c d ts)

  args_back : (c d : ℕ) (ts : Terms) → substitute_args d (value_at (Const c ∷ [])) (args_over c d ts) ≡ ts
  args_back c d none = refl
  args_back c d (more t ts) = λ i. more (term_back c d t i) (args_back c d ts i)

abbrev pub any_term : ℕ → Term → Bool
any_term n t = true

pub all_any : {X : Type 0} (p : X → Bool) (xs : List X) → ((x : X) → p x ≡ true) → list_all p xs ≡ true
all_any p [] each = refl
all_any p (x ∷ xs) each = and_from _ _ (each x) (all_any p xs each)

pub type_any : (n : ℕ) (ty : SoftType) → type_all any_term n ty ≡ true
type_any n ty = and_from _ _ (all_any (adjective_all any_term n) ty.adjectives (λ a. all_any (any_term n) a.args (λ t. refl))) (all_any (any_term n) ty.radix.args (λ t. refl))

pub statement_any : (n : ℕ) (s : Statement) → statement_all any_term n s ≡ true
statement_any n Truth = refl
statement_any n (Eq t u) = refl
statement_any n (Atom s ts) = all_any (any_term n) ts (λ t. refl)
statement_any n (Not s) = statement_any n s
statement_any n (And s t) = and_from _ _ (statement_any n s) (statement_any n t)
statement_any n (For ty s) = and_from _ _ (type_any n ty) (statement_any (n + 1) s)

pub body_of_abstraction : BodyOfAbstraction
body_of_abstraction c s =
    substitute_statement-with (value_at (Const c ∷ [])) 0 (statement_over c 0 s) ∙ ap (statement_with (substitutes (value_at (Const c ∷ []))) 0) (statement_over-with c 0 s) ∙
    statement_back (substitutes (value_at (Const c ∷ []))) (abstracts c) any_term 0 s (λ d t h. term_back c d t) (statement_any 0 s)

neither : (a b : Bool) → a ≡ false → b ≡ false → (a || b) ≡ false
neither a b p q = or_from a b p q

mutual
  pub term_apart : (n : ℕ) (t : Term) → term_in_force n t ≡ true → occurs n t ≡ false
  term_apart n (Bound index) h = refl
  term_apart n (Const number) h =
      let lt : number < n = ltb-true number n h in
      ne_eqb number n (λ e. omega arith)
  term_apart n (App s ts) h = args_apart n ts h

  args_apart : (n : ℕ) (ts : Terms) → args_in_force n ts ≡ true → occurs_in_args n ts ≡ false
  args_apart n none h = refl
  args_apart n (more t ts) h =
      let both : (term_in_force n t ≡ true) × (args_in_force n ts ≡ true) = and_parts (term_in_force n t) (args_in_force n ts) h in
      neither _ _ (term_apart n t both.0) (args_apart n ts both.1)

pub list_apart : (n : ℕ) (ts : List Term) → list_all (term_in_force n) ts ≡ true → list_any (occurs n) ts ≡ false
list_apart n [] h = refl
list_apart n (t ∷ ts) h =
    let both : (term_in_force n t ≡ true) × (list_all (term_in_force n) ts ≡ true) = and_parts (term_in_force n t) (list_all (term_in_force n) ts) h in
    neither _ _ (term_apart n t both.0) (list_apart n ts both.1)

pub next_is_new : NextIsNew
next_is_new n formula.Truth h = refl
next_is_new n (formula.Eq t u) h =
    let both : (term_in_force n t ≡ true) × (term_in_force n u ≡ true) = and_parts (term_in_force n t) (term_in_force n u) h in
    neither _ _ (term_apart n t both.0) (term_apart n u both.1)
next_is_new n (formula.Atom s ts) h = list_apart n ts h
next_is_new n (formula.Not f) h = next_is_new n f h
next_is_new n (formula.And f g) h =
    let both : (formula_in_force n f ≡ true) × (formula_in_force n g ≡ true) = and_parts (formula_in_force n f) (formula_in_force n g) h in
    neither _ _ (next_is_new n f both.0) (next_is_new n g both.1)
next_is_new n (formula.All f) h = next_is_new n f h

pub abstraction_of_body : AbstractionOfBody
abstraction_of_body c s h =
    statement_over-with c 0 (substitute_statement 0 (value_at (Const c ∷ [])) s) ∙ ap (statement_with (abstracts c) 0) (substitute_statement-with (value_at (Const c ∷ [])) 0 s) ∙
    statement_back (abstracts c) (substitutes (value_at (Const c ∷ []))) (in_force_at c) 0 s (λ d t k. term_over-substitute c d t (term_apart c t k)) (sym (statement_in_force-all c 0 s) ∙ h)

-- free indices
zero_below : (n : ℕ) → 0 < n + 1
zero_below n = omega arith

pub below_persists : Persists is_below
below_persists = record { raised = λ n t h. is_below-shift 0 1 n t h; zero = λ n. lt-ltb 0 (n + 1) (zero_below n) }

pub formula_below-all : (n : ℕ) (f : Formula) → formula_below n f ≡ formula_all is_below n f
formula_below-all n formula.Truth = refl
formula_below-all n (formula.Eq t u) = refl
formula_below-all n (formula.Atom s ts) = refl
formula_below-all n (formula.Not f) = formula_below-all n f
formula_below-all n (formula.And f g) = λ i. formula_below-all n f i && formula_below-all n g i
formula_below-all n (formula.All f) = formula_below-all (n + 1) f

pub erasure_below : ErasureBelow
erasure_below n s h = formula_below-all n (erase s) ∙ erase_all is_below n s below_persists h

pub below_value : (n : ℕ) (t : Term) (k : ℕ) → closed t ≡ true → k < n + 1 → is_below n (value_at (t ∷ []) k) ≡ true
below_value n t zero h lt = is_below-closed n t h
below_value n t (suc k) h lt = lt-ltb k n (omega arith)

pub below_at : (m n : ℕ) (t : Term) → m ≡ n → is_below m t ≡ true → is_below n t ≡ true
below_at m n t e h = let P : ℕ → Type 0 = λ k. is_below k t ≡ true in subst P e h

pub body_below : BodyBelow
body_below n s t ct h =
    let before : n + 1 ≡ 0 + (n + 1) = omega arith in
    let after : 0 + n ≡ n = omega arith in
    let made : Statement = statement_with (substitutes (value_at (t ∷ []))) 0 s in
    let kept : statement_all is_below (0 + n) made ≡ true =
    statement_all-with is_below is_below (substitutes (value_at (t ∷ []))) (n + 1) n 0 s
    (λ d u b. is_below-substitute d n (n + 1) (value_at (t ∷ [])) u (λ k lt. below_value n t k ct lt) b)
    (statement_all-at is_below (n + 1) (0 + (n + 1)) s before h) in
    ap (statement_all is_below n) (substitute_statement-with (value_at (t ∷ [])) 0 s) ∙ statement_all-at is_below (0 + n) n made after kept

pub over_below : (c d n : ℕ) (u : Term) → is_below (d + n) u ≡ true → is_below (d + (n + 1)) (term_over c d u) ≡ true
over_below c d n u b =
    let le : d ≤ d + n = omega arith in
    let sum : d + n + 1 ≡ d + (n + 1) = omega arith in
    below_at (d + n + 1) (d + (n + 1)) (term_over c d u) sum (is_below-term_over c d (d + n) u le b)

pub abstraction_below : AbstractionBelow
abstraction_below n c s h =
    let before : n ≡ 0 + n = omega arith in
    let after : 0 + (n + 1) ≡ n + 1 = omega arith in
    let made : Statement = statement_with (abstracts c) 0 s in
    let kept : statement_all is_below (0 + (n + 1)) made ≡ true =
    statement_all-with is_below is_below (abstracts c) n (n + 1) 0 s
    (λ d u b. over_below c d n u b)
    (statement_all-at is_below n (0 + n) s before h) in
    ap (statement_all is_below (n + 1)) (statement_over-with c 0 s) ∙ statement_all-at is_below (0 + (n + 1)) (n + 1) made after kept

-- more in force
mutual
  pub term_in_force-more : (m n : ℕ) (t : Term) → m ≤ n → term_in_force m t ≡ true → term_in_force n t ≡ true
  term_in_force-more m n (Bound index) le h = refl
  term_in_force-more m n (Const number) le h =
      let lt : number < m = ltb-true number m h in
      lt-ltb number n (omega arith)
  term_in_force-more m n (App s ts) le h = args_in_force-more m n ts le h

  args_in_force-more : (m n : ℕ) (ts : Terms) → m ≤ n → args_in_force m ts ≡ true → args_in_force n ts ≡ true
  args_in_force-more m n none le h = refl
  args_in_force-more m n (more t ts) le h =
      let both : (term_in_force m t ≡ true) × (args_in_force m ts ≡ true) = and_parts (term_in_force m t) (args_in_force m ts) h in
      and_from _ _ (term_in_force-more m n t le both.0) (args_in_force-more m n ts le both.1)

-- a change of terms that are in force, of statements
pub in_force_changed : (g : ℕ → Term → Term) (m n d : ℕ) (s : Statement) → ((d : ℕ) (t : Term) → term_in_force m t ≡ true → term_in_force n (g d t) ≡ true) → statement_in_force m s ≡ true → statement_in_force n (statement_with g d s) ≡ true
in_force_changed g m n d s keeps h =
    statement_in_force-all n (d + 0) (statement_with g d s) ∙ statement_all-with (in_force_at m) (in_force_at n) g 0 0 d s (λ e t k. keeps e t k) (sym (statement_in_force-all m (d + 0) s) ∙ h)

abbrev same_term : ℕ → Term → Term
same_term d t = t

map_same : {X : Type 0} (f : X → X) (xs : List X) → ((x : X) → f x ≡ x) → map f xs ≡ xs
map_same f [] same = refl
map_same f (x ∷ xs) same = λ i. same x i ∷ map_same f xs same i

adjective_same : (d : ℕ) (a : Adjective) → adjective_with (same_term d) a ≡ a
adjective_same d a i = record { positive = a.positive; sym = a.sym; args = map_same (same_term d) a.args (λ t. refl) i }

statement_same : (d : ℕ) (s : Statement) → statement_with same_term d s ≡ s
statement_same d Truth = refl
statement_same d (Eq t u) = refl
statement_same d (Atom s ts) = ap (λ us. Atom s us) (map_same (same_term d) ts (λ t. refl))
statement_same d (Not s) = ap Not (statement_same d s)
statement_same d (And s t) = λ i. And (statement_same d s i) (statement_same d t i)
statement_same d (For ty s) = λ i. For (record { adjectives = map_same (adjective_with (same_term d)) ty.adjectives (adjective_same d) i; radix = record { sym = ty.radix.sym; args = map_same (same_term d) ty.radix.args (λ t. refl) i } }) (statement_same (d + 1) s i)

pub more_in_force : MoreInForce
more_in_force m n s le h =
    ap (statement_in_force n) (sym (statement_same 0 s)) ∙ in_force_changed same_term m n 0 s (λ d t k. term_in_force-more m n t le k) h

index_in_force_at : (next depth : ℕ) (v : ℕ → Term) (index place : ℕ) (b : Bool) → ((k : ℕ) → term_in_force next (v k) ≡ true) → term_in_force next (if b then Bound index else shift 0 depth (v place)) ≡ true
index_in_force_at next depth v index place true vs = refl
index_in_force_at next depth v index place false vs = term_in_force-shift next 0 depth (v place) ∙ vs place

mutual
  pub term_in_force-substitute : (next depth : ℕ) (v : ℕ → Term) (t : Term) → ((k : ℕ) → term_in_force next (v k) ≡ true) → term_in_force next t ≡ true → term_in_force next (substitute depth v t) ≡ true
  term_in_force-substitute next depth v (Bound index) vs h = index_in_force_at next depth v index (index - depth) (nat_lt index depth) vs
  term_in_force-substitute next depth v (Const number) vs h = h
  term_in_force-substitute next depth v (App s ts) vs h = args_in_force-substitute next depth v ts vs h

  args_in_force-substitute : (next depth : ℕ) (v : ℕ → Term) (ts : Terms) → ((k : ℕ) → term_in_force next (v k) ≡ true) → args_in_force next ts ≡ true → args_in_force next (substitute_args depth v ts) ≡ true
  args_in_force-substitute next depth v none vs h = refl
  args_in_force-substitute next depth v (more t ts) vs h =
      let both : (term_in_force next t ≡ true) × (args_in_force next ts ≡ true) = and_parts (term_in_force next t) (args_in_force next ts) h in
      and_from _ _ (term_in_force-substitute next depth v t vs both.0) (args_in_force-substitute next depth v ts vs both.1)

value_in_force : (next : ℕ) (t : Term) (k : ℕ) → term_in_force next t ≡ true → term_in_force next (value_at (t ∷ []) k) ≡ true
value_in_force next t zero h = h
value_in_force next t (suc k) h = refl

pub body_in_force : BodyInForce
body_in_force next s t ht h =
    ap (statement_in_force next) (substitute_statement-with (value_at (t ∷ [])) 0 s) ∙
    in_force_changed (substitutes (value_at (t ∷ []))) next next 0 s (λ d u k. term_in_force-substitute next d (value_at (t ∷ [])) u (λ j. value_in_force next t j ht) k) h

constant_in_force_over : (c d number : ℕ) (b : Bool) → nat_eq number c ≡ b → number < c + 1 → term_in_force c (if b then Bound d else Const number) ≡ true
constant_in_force_over c d number true e lt = refl
constant_in_force_over c d number false e lt =
    let ne : number ≡ c → ⊥ = eqb-false number c e in
    lt-ltb number c (elim (cases_lt number c) [ inl less ↦ less | inr le ↦ absurd (ne (omega arith)) ])

mutual
  pub term_in_force-over : (c d : ℕ) (t : Term) → term_in_force (c + 1) t ≡ true → term_in_force c (term_over c d t) ≡ true
  term_in_force-over c d (Bound index) h = refl
  term_in_force-over c d (Const number) h = constant_in_force_over c d number (nat_eq number c) refl (ltb-true number (c + 1) h)
  term_in_force-over c d (App s ts) h = args_in_force-over c d ts h

  args_in_force-over : (c d : ℕ) (ts : Terms) → args_in_force (c + 1) ts ≡ true → args_in_force c (args_over c d ts) ≡ true
  args_in_force-over c d none h = refl
  args_in_force-over c d (more t ts) h =
      let both : (term_in_force (c + 1) t ≡ true) × (args_in_force (c + 1) ts ≡ true) = and_parts (term_in_force (c + 1) t) (args_in_force (c + 1) ts) h in
      and_from _ _ (term_in_force-over c d t both.0) (args_in_force-over c d ts both.1)

pub abstraction_in_force : AbstractionInForce
abstraction_in_force c s h =
    ap (statement_in_force c) (statement_over-with c 0 s) ∙ in_force_changed (abstracts c) (c + 1) c 0 s (λ d t k. term_in_force-over c d t k) h

-- forms
pub negation_in_force : NegationInForce
negation_in_force next s = statement_in_force-all next 0 (opposite s) ∙ opposite_all (in_force_at next) 0 s ∙ sym (statement_in_force-all next 0 s)

pub all_is : {X : Type 0} (p q : X → Bool) (xs : List X) → ((x : X) → p x ≡ q x) → list_all p xs ≡ list_all q xs
all_is p q [] same = refl
all_is p q (x ∷ xs) same = λ i. same x i && all_is p q xs same i

pub parts_in_force : PartsInForce
parts_in_force next s h =
    all_is (statement_in_force next) (statement_all (in_force_at next) 0) (parts s) (statement_in_force-all next 0) ∙ parts_all (in_force_at next) 0 s (sym (statement_in_force-all next 0 s) ∙ h)

pub conjunction_in_force : ConjunctionInForce
conjunction_in_force next ss h =
    statement_in_force-all next 0 (conjunction ss) ∙
    conjunction_all (in_force_at next) 0 ss (sym (all_is (statement_in_force next) (statement_all (in_force_at next) 0) ss (statement_in_force-all next 0)) ∙ h)

pub guard_in_force : GuardInForce
guard_in_force next ty t h k =
    all_is (formula_in_force next) (formula_all (in_force_at next) 0) (guard ty t) (formula_in_force-all next 0) ∙ guard_all (in_force_at next) 0 ty t h k

pub erasure_in_force : ErasureInForce
erasure_in_force next s h =
    formula_in_force-all next 0 (erase s) ∙ erase_all (in_force_at next) 0 s (in_force_persists next) (sym (statement_in_force-all next 0 s) ∙ h)
