-- A constant made an index, and the body of the quantifier at a term again.
use Rattle.std.proofs.Common.{◌≡◌, ◌<◌, ◌≤◌, inl, inr, ℕ, ◌+◌, ◌-◌, List, [], ◌∷◌, map, refl, sym, ap, ◌∙◌, arith, Bool, true, false}
use Rattle.std.specs.Prelude.{nat_eq, if◌then◌else◌}
use Rattle.std.specs.List.{list_any}
use Rattle.std.proofs.lemmas.Bool.{lt-ltb, eqb-true, eq-eqb, cases_order, and_parts, and_from, or_parts, or_from}
use Rattle.mz_logic.specs.Term.{Term, Terms, Bound, Const, App, none, more, terms_of}
use Rattle.mz_logic.specs.Formula.{Formula, Truth, Eq, Atom, Not, And, All}
use Rattle.mz_logic.specs.Indices.{is_below, args_below, formula_below, closed}
use Rattle.mz_logic.specs.Constants.{occurs, occurs_in_args, occurs_in_formula}
use Rattle.mz_logic.specs.Substitution.{substitute, substitute_args, substitute_formula, value_at}
use Rattle.mz_logic.specs.Abstraction.{term_over, args_over, formula_over}
use Rattle.mz_logic.specs.ConstantTerm.{term_with, args_with, formula_with}
use Rattle.mz_logic.proofs.BoolLemmas.{if-true, if-false}
use Rattle.mz_logic.proofs.ListLemmas.{map-map, list_all-map_where}
use Rattle.mz_logic.proofs.ShiftLaws.{shift-inside, shift-outside, shift-closed, is_below-shift}
use Rattle.mz_logic.proofs.SubstitutionLaws.{substitute-inside}
use Rattle.mz_logic.proofs.ValueLaws.{substitute-past, substitute-one_equal, substitute-one_above}

-- arguments as a list
pub args_over-terms_of : (c depth : ℕ) (ts : List Term) → args_over c depth (terms_of ts) ≡ terms_of (map (term_over c depth) ts)
args_over-terms_of c depth [] = refl
args_over-terms_of c depth (t ∷ ts) = ap (λ us. more (term_over c depth t) us) (args_over-terms_of c depth ts)

pub ruleset over_rules = (args_over-terms_of)

-- the body at a closed term: the term for the constant
depth_at : (depth : ℕ) (t : Term) → closed t ≡ true → substitute depth (value_at (t ∷ [])) (Bound depth) ≡ t
depth_at depth t ct = substitute-one_equal depth t depth refl ∙ shift-closed 0 depth t ct

constant_at : (depth : ℕ) (t : Term) (number : ℕ) (b : Bool) → closed t ≡ true → substitute depth (value_at (t ∷ [])) (if b then Bound depth else Const number) ≡ (if b then t else Const number)
constant_at depth t number true ct = depth_at depth t ct
constant_at depth t number false ct = refl

mutual
  pub substitute-term_over : (c depth : ℕ) (t u : Term) → closed t ≡ true → substitute depth (value_at (t ∷ [])) (term_over c depth u) ≡ term_with c t u
  substitute-term_over c depth t (Bound index) ct = substitute-past depth (t ∷ []) (Bound index)
  substitute-term_over c depth t (Const number) ct = constant_at depth t number (nat_eq number c) ct
  substitute-term_over c depth t (App s us) ct = ap (λ vs. App s vs) (substitute_args-args_over c depth t us ct)

  pub substitute_args-args_over : (c depth : ℕ) (t : Term) (us : Terms) → closed t ≡ true → substitute_args depth (value_at (t ∷ [])) (args_over c depth us) ≡ args_with c t us
  substitute_args-args_over c depth t none ct = refl
  substitute_args-args_over c depth t (more u us) ct = λ i. more (substitute-term_over c depth t u ct i) (substitute_args-args_over c depth t us ct i)

pub substitute_formula-formula_over : (c depth : ℕ) (t : Term) (f : Formula) → closed t ≡ true → substitute_formula depth (value_at (t ∷ [])) (formula_over c depth f) ≡ formula_with c t f
substitute_formula-formula_over c depth t Truth ct = refl
substitute_formula-formula_over c depth t (Eq u v) ct = λ i. Eq (substitute-term_over c depth t u ct i) (substitute-term_over c depth t v ct i)
substitute_formula-formula_over c depth t (Atom s us) ct = ap (λ vs. Atom s vs) (map-map (substitute depth (value_at (t ∷ []))) (term_over c depth) (term_with c t) (λ u. substitute-term_over c depth t u ct) us)
substitute_formula-formula_over c depth t (Not f) ct = ap Not (substitute_formula-formula_over c depth t f ct)
substitute_formula-formula_over c depth t (And f g) ct = λ i. And (substitute_formula-formula_over c depth t f ct i) (substitute_formula-formula_over c depth t g ct i)
substitute_formula-formula_over c depth t (All f) ct = ap All (substitute_formula-formula_over c (depth + 1) t f ct)

-- and back: a body without the constant, at the constant
over_index : (c depth index : ℕ) → term_over c depth (substitute depth (value_at (Const c ∷ [])) (Bound index)) ≡ Bound index
over_index c depth index = elim (cases_order index depth) [
  | inl e ↦ ap (term_over c depth) (substitute-one_equal depth (Const c) index e) ∙ if-true (nat_eq c c) (Bound depth) (Const c) (eq-eqb c c refl) ∙ ap Bound (sym e)
  | inr o ↦ elim o [
    | inl lt ↦ ap (term_over c depth) (substitute-inside depth (value_at (Const c ∷ [])) index lt) ∙ shift-inside depth 1 index lt
    | inr gt ↦
        let le : depth ≤ index - 1 = omega arith in
        let up : (index - 1) + 1 ≡ index = omega arith in
        ap (term_over c depth) (substitute-one_above depth (Const c) index gt) ∙ shift-outside depth 1 (index - 1) le ∙ ap Bound up
  ]
]

mutual
  pub term_over-substitute : (c depth : ℕ) (u : Term) → occurs c u ≡ false → term_over c depth (substitute depth (value_at (Const c ∷ [])) u) ≡ u
  term_over-substitute c depth (Bound index) h = over_index c depth index
  term_over-substitute c depth (Const number) h = if-false (nat_eq number c) (Bound depth) (Const number) h
  term_over-substitute c depth (App s us) h = ap (λ vs. App s vs) (args_over-substitute c depth us h)

  pub args_over-substitute : (c depth : ℕ) (us : Terms) → occurs_in_args c us ≡ false → args_over c depth (substitute_args depth (value_at (Const c ∷ [])) us) ≡ us
  args_over-substitute c depth none h = refl
  args_over-substitute c depth (more u us) h =
      let p : (occurs c u ≡ false) × (occurs_in_args c us ≡ false) = or_parts (occurs c u) (occurs_in_args c us) h in
      λ i. more (term_over-substitute c depth u p.0 i) (args_over-substitute c depth us p.1 i)

list_over-substitute : (c depth : ℕ) (us : List Term) → list_any (occurs c) us ≡ false → map (term_over c depth) (map (substitute depth (value_at (Const c ∷ []))) us) ≡ us
list_over-substitute c depth [] h = refl
list_over-substitute c depth (u ∷ us) h =
    let p : (occurs c u ≡ false) × (list_any (occurs c) us ≡ false) = or_parts (occurs c u) (list_any (occurs c) us) h in
    λ i. term_over-substitute c depth u p.0 i ∷ list_over-substitute c depth us p.1 i

pub formula_over-substitute : (c depth : ℕ) (f : Formula) → occurs_in_formula c f ≡ false → formula_over c depth (substitute_formula depth (value_at (Const c ∷ [])) f) ≡ f
formula_over-substitute c depth Truth h = refl
formula_over-substitute c depth (Eq u v) h =
    let p : (occurs c u ≡ false) × (occurs c v ≡ false) = or_parts (occurs c u) (occurs c v) h in
    λ i. Eq (term_over-substitute c depth u p.0 i) (term_over-substitute c depth v p.1 i)
formula_over-substitute c depth (Atom s us) h = ap (λ vs. Atom s vs) (list_over-substitute c depth us h)
formula_over-substitute c depth (Not f) h = ap Not (formula_over-substitute c depth f h)
formula_over-substitute c depth (And f g) h =
    let p : (occurs_in_formula c f ≡ false) × (occurs_in_formula c g ≡ false) = or_parts (occurs_in_formula c f) (occurs_in_formula c g) h in
    λ i. And (formula_over-substitute c depth f p.0 i) (formula_over-substitute c depth g p.1 i)
formula_over-substitute c depth (All f) h = ap All (formula_over-substitute c (depth + 1) f h)

-- one index more
constant_below : (depth n number : ℕ) (b : Bool) → depth ≤ n → is_below (n + 1) (if b then Bound depth else Const number) ≡ true
constant_below depth n number true le =
    let lt : depth < n + 1 = omega arith in
    lt-ltb depth (n + 1) lt
constant_below depth n number false le = refl

mutual
  pub is_below-term_over : (c depth n : ℕ) (u : Term) → depth ≤ n → is_below n u ≡ true → is_below (n + 1) (term_over c depth u) ≡ true
  is_below-term_over c depth n (Bound index) le h = is_below-shift depth 1 n (Bound index) h
  is_below-term_over c depth n (Const number) le h = constant_below depth n number (nat_eq number c) le
  is_below-term_over c depth n (App s us) le h = args_below-args_over c depth n us le h

  pub args_below-args_over : (c depth n : ℕ) (us : Terms) → depth ≤ n → args_below n us ≡ true → args_below (n + 1) (args_over c depth us) ≡ true
  args_below-args_over c depth n none le h = refl
  args_below-args_over c depth n (more u us) le h =
      let p : (is_below n u ≡ true) × (args_below n us ≡ true) = and_parts (is_below n u) (args_below n us) h in
      and_from _ _ (is_below-term_over c depth n u le p.0) (args_below-args_over c depth n us le p.1)

pub formula_below-formula_over : (c depth n : ℕ) (f : Formula) → depth ≤ n → formula_below n f ≡ true → formula_below (n + 1) (formula_over c depth f) ≡ true
formula_below-formula_over c depth n Truth le h = refl
formula_below-formula_over c depth n (Eq u v) le h =
    let p : (is_below n u ≡ true) × (is_below n v ≡ true) = and_parts (is_below n u) (is_below n v) h in
    and_from _ _ (is_below-term_over c depth n u le p.0) (is_below-term_over c depth n v le p.1)
formula_below-formula_over c depth n (Atom s us) le h = list_all-map_where (is_below n) (is_below (n + 1)) (term_over c depth) (λ u. is_below-term_over c depth n u le) us h
formula_below-formula_over c depth n (Not f) le h = formula_below-formula_over c depth n f le h
formula_below-formula_over c depth n (And f g) le h =
    let p : (formula_below n f ≡ true) × (formula_below n g ≡ true) = and_parts (formula_below n f) (formula_below n g) h in
    and_from _ _ (formula_below-formula_over c depth n f le p.0) (formula_below-formula_over c depth n g le p.1)
formula_below-formula_over c depth n (All f) le h =
    let up : depth + 1 ≤ n + 1 = omega arith in
    formula_below-formula_over c (depth + 1) (n + 1) f up h

-- the constant is no more in the body
constant_gone : (c depth number : ℕ) (b : Bool) → nat_eq number c ≡ b → occurs c (if b then Bound depth else Const number) ≡ false
constant_gone c depth number true e = refl
constant_gone c depth number false e = e

mutual
  pub occurs-term_over : (c depth : ℕ) (u : Term) → occurs c (term_over c depth u) ≡ false
  occurs-term_over c depth (Bound index) = refl
  occurs-term_over c depth (Const number) = constant_gone c depth number (nat_eq number c) refl
  occurs-term_over c depth (App s us) = occurs_in_args-args_over c depth us

  pub occurs_in_args-args_over : (c depth : ℕ) (us : Terms) → occurs_in_args c (args_over c depth us) ≡ false
  occurs_in_args-args_over c depth none = refl
  occurs_in_args-args_over c depth (more u us) = or_from _ _ (occurs-term_over c depth u) (occurs_in_args-args_over c depth us)

occurs_in_list-list_over : (c depth : ℕ) (us : List Term) → list_any (occurs c) (map (term_over c depth) us) ≡ false
occurs_in_list-list_over c depth [] = refl
occurs_in_list-list_over c depth (u ∷ us) = or_from _ _ (occurs-term_over c depth u) (occurs_in_list-list_over c depth us)

pub occurs_in_formula-formula_over : (c depth : ℕ) (f : Formula) → occurs_in_formula c (formula_over c depth f) ≡ false
occurs_in_formula-formula_over c depth Truth = refl
occurs_in_formula-formula_over c depth (Eq u v) = or_from _ _ (occurs-term_over c depth u) (occurs-term_over c depth v)
occurs_in_formula-formula_over c depth (Atom s us) = occurs_in_list-list_over c depth us
occurs_in_formula-formula_over c depth (Not f) = occurs_in_formula-formula_over c depth f
occurs_in_formula-formula_over c depth (And f g) = or_from _ _ (occurs_in_formula-formula_over c depth f) (occurs_in_formula-formula_over c depth g)
occurs_in_formula-formula_over c depth (All f) = occurs_in_formula-formula_over c (depth + 1) f

-- a constant in place of itself
if-itself_or : (c number : ℕ) (b : Bool) → nat_eq number c ≡ b → (if b then Const c else Const number) ≡ Const number
if-itself_or c number true e = ap Const (sym (eqb-true number c e))
if-itself_or c number false e = refl

mutual
  term_with-itself : (c : ℕ) (u : Term) → term_with c (Const c) u ≡ u
  term_with-itself c (Bound index) = refl
  term_with-itself c (Const number) = if-itself_or c number (nat_eq number c) refl
  term_with-itself c (App s us) = ap (λ vs. App s vs) (args_with-itself c us)

  args_with-itself : (c : ℕ) (us : Terms) → args_with c (Const c) us ≡ us
  args_with-itself c none = refl
  args_with-itself c (more u us) = λ i. more (term_with-itself c u i) (args_with-itself c us i)

list_with-itself : (c : ℕ) (us : List Term) → map (term_with c (Const c)) us ≡ us
list_with-itself c [] = refl
list_with-itself c (u ∷ us) = λ i. term_with-itself c u i ∷ list_with-itself c us i

pub formula_with-itself : (c : ℕ) (f : Formula) → formula_with c (Const c) f ≡ f
formula_with-itself c Truth = refl
formula_with-itself c (Eq u v) = λ i. Eq (term_with-itself c u i) (term_with-itself c v i)
formula_with-itself c (Atom s us) = ap (λ vs. Atom s vs) (list_with-itself c us)
formula_with-itself c (Not f) = ap Not (formula_with-itself c f)
formula_with-itself c (And f g) = λ i. And (formula_with-itself c f i) (formula_with-itself c g i)
formula_with-itself c (All f) = ap All (formula_with-itself c f)

-- a term for a constant that does not occur
mutual
  term_with-absent : (c : ℕ) (t u : Term) → occurs c u ≡ false → term_with c t u ≡ u
  term_with-absent c t (Bound index) h = refl
  term_with-absent c t (Const number) h = if-false (nat_eq number c) t (Const number) h
  term_with-absent c t (App s us) h = ap (λ vs. App s vs) (args_with-absent c t us h)

  args_with-absent : (c : ℕ) (t : Term) (us : Terms) → occurs_in_args c us ≡ false → args_with c t us ≡ us
  args_with-absent c t none h = refl
  args_with-absent c t (more u us) h =
      let p : (occurs c u ≡ false) × (occurs_in_args c us ≡ false) = or_parts (occurs c u) (occurs_in_args c us) h in
      λ i. more (term_with-absent c t u p.0 i) (args_with-absent c t us p.1 i)

list_with-absent : (c : ℕ) (t : Term) (us : List Term) → list_any (occurs c) us ≡ false → map (term_with c t) us ≡ us
list_with-absent c t [] h = refl
list_with-absent c t (u ∷ us) h =
    let p : (occurs c u ≡ false) × (list_any (occurs c) us ≡ false) = or_parts (occurs c u) (list_any (occurs c) us) h in
    λ i. term_with-absent c t u p.0 i ∷ list_with-absent c t us p.1 i

pub formula_with-absent : (c : ℕ) (t : Term) (f : Formula) → occurs_in_formula c f ≡ false → formula_with c t f ≡ f
formula_with-absent c t Truth h = refl
formula_with-absent c t (Eq u v) h =
    let p : (occurs c u ≡ false) × (occurs c v ≡ false) = or_parts (occurs c u) (occurs c v) h in
    λ i. Eq (term_with-absent c t u p.0 i) (term_with-absent c t v p.1 i)
formula_with-absent c t (Atom s us) h = ap (λ vs. Atom s vs) (list_with-absent c t us h)
formula_with-absent c t (Not f) h = ap Not (formula_with-absent c t f h)
formula_with-absent c t (And f g) h =
    let p : (occurs_in_formula c f ≡ false) × (occurs_in_formula c g ≡ false) = or_parts (occurs_in_formula c f) (occurs_in_formula c g) h in
    λ i. And (formula_with-absent c t f p.0 i) (formula_with-absent c t g p.1 i)
formula_with-absent c t (All f) h = ap All (formula_with-absent c t f h)
