-- A function of terms, by the number of binders above, on the terms of types, statements and formulas.
use Rattle.std.proofs.Common.{◌≡◌, ℕ, ◌+◌, List, [], ◌∷◌, ◌++◌, map, refl, ap, sym, ◌∙◌, Bool, true, false}
use Rattle.std.specs.Prelude.{if◌then◌else◌}
use Rattle.std.proofs.lemmas.List.{map-append}
use Rattle.mz_logic.specs.Term.{Term, Bound}
use Rattle.mz_logic.specs.Formula as formula
use Rattle.mz_logic.specs.Formula.{Formula}
use Rattle.mz_logic.specs.Literal.{literal_formula}
use Rattle.mz_logic.specs.Literal as signs
use Rattle.mz_logic.specs.Negation.{negated}
use Rattle.mz_logic.specs.Substitution.{shift}
use Rattle.mz_logic.specs.declared.literal.Literal.{Literal}
use Rattle.mz_logic.specs.declared.literal.Literal.TheVariants as literal
use Rattle.mz_core.specs.Statement.{Statement, Truth, Eq, Atom, Not, And, For}
use Rattle.mz_core.specs.StatementForms.{opposite}
use Rattle.mz_core.specs.Parts.{parts, conjunction_to, conjunction}
use Rattle.mz_core.specs.Hidden.{is_of_any_object}
use Rattle.mz_core.specs.Guard.{radix_literals, adjective_literal, guard_literals, guard}
use Rattle.mz_logic.specs.Connectives.{joined_to}
use Rattle.mz_core.specs.Connectives.{where_guard, guard_inside}
use Rattle.mz_core.specs.TypeShift.{shift_adjective, shift_type}
use Rattle.mz_core.specs.Erasure.{erase}
use Rattle.mz_core.specs.declared.radix.Radix.{Radix}
use Rattle.mz_core.specs.declared.adjective.Adjective.{Adjective}
use Rattle.mz_core.specs.declared.soft_type.SoftType.{SoftType}

abbrev pub adjective_with : (Term → Term) → Adjective → Adjective
adjective_with h a = record { positive = a.positive; sym = a.sym; args = map h a.args }

abbrev pub radix_with : (Term → Term) → Radix → Radix
radix_with h r = record { sym = r.sym; args = map h r.args }

abbrev pub type_with : (Term → Term) → SoftType → SoftType
type_with h ty = record { adjectives = map (adjective_with h) ty.adjectives; radix = radix_with h ty.radix }

abbrev pub literal_with : (Term → Term) → Literal → Literal
literal_with h (literal.Atom positive s ts) = literal.Atom positive s (map h ts)
literal_with h (literal.Eq positive t u) = literal.Eq positive (h t) (h u)

abbrev pub statement_with : (ℕ → Term → Term) → ℕ → Statement → Statement
statement_with g d Truth = Truth
statement_with g d (Eq t u) = Eq (g d t) (g d u)
statement_with g d (Atom s ts) = Atom s (map (g d) ts)
statement_with g d (Not s) = Not (statement_with g d s)
statement_with g d (And s t) = And (statement_with g d s) (statement_with g d t)
statement_with g d (For ty s) = For (type_with (g d) ty) (statement_with g (d + 1) s)

abbrev pub formula_with : (ℕ → Term → Term) → ℕ → Formula → Formula
formula_with g d formula.Truth = formula.Truth
formula_with g d (formula.Eq t u) = formula.Eq (g d t) (g d u)
formula_with g d (formula.Atom s ts) = formula.Atom s (map (g d) ts)
formula_with g d (formula.Not f) = formula.Not (formula_with g d f)
formula_with g d (formula.And f k) = formula.And (formula_with g d f) (formula_with g d k)
formula_with g d (formula.All f) = formula.All (formula_with g (d + 1) f)

-- it goes under one more binder, whose index it leaves
pub record GoesUnder (g : ℕ → Term → Term) : Type 0 where
  pub raised : (d : ℕ) (t : Term) → shift 0 1 (g d t) ≡ g (d + 1) (shift 0 1 t)
  pub kept : (d : ℕ) → g (d + 1) (Bound 0) ≡ Bound 0

-- lists
map_map : {X Y W Z : Type 0} (f : Y → Z) (h : X → Y) (p : X → W) (q : W → Z) (xs : List X) → ((x : X) → f (h x) ≡ q (p x)) → map f (map h xs) ≡ map q (map p xs)
map_map f h p q [] same = refl
map_map f h p q (x ∷ xs) same = λ i. same x i ∷ map_map f h p q xs same i

-- literals
signed-with : (g : ℕ → Term → Term) (d : ℕ) (b : Bool) (f : Formula) → formula_with g d (signs.signed b f) ≡ signs.signed b (formula_with g d f)
signed-with g d true f = refl
signed-with g d false f = refl

pub literal_formula-with : (g : ℕ → Term → Term) (d : ℕ) (l : Literal) → formula_with g d (literal_formula l) ≡ literal_formula (literal_with (g d) l)
literal_formula-with g d (literal.Atom positive s ts) = signed-with g d positive (formula.Atom s ts)
literal_formula-with g d (literal.Eq positive t u) = signed-with g d positive (formula.Eq t u)

-- guards
radix_literals-choice : (h : Term → Term) (r : Radix) (t : Term) (b : Bool) → map (literal_with h) (if b then [] else literal.Atom true r.sym (r.args ++ t ∷ []) ∷ []) ≡ (if b then [] else literal.Atom true r.sym (map h r.args ++ h t ∷ []) ∷ [])
radix_literals-choice h r t true = refl
radix_literals-choice h r t false = ap (λ us. literal.Atom true r.sym us ∷ []) (map-append h r.args (t ∷ []))

adjective_literal-with : (h : Term → Term) (t : Term) (a : Adjective) → literal_with h (adjective_literal t a) ≡ adjective_literal (h t) (adjective_with h a)
adjective_literal-with h t a = ap (λ us. literal.Atom a.positive a.sym us) (map-append h a.args (t ∷ []))

pub guard_literals-with : (h : Term → Term) (ty : SoftType) (t : Term) → map (literal_with h) (guard_literals ty t) ≡ guard_literals (type_with h ty) (h t)
guard_literals-with h ty t =
    map-append (literal_with h) (radix_literals ty.radix t) (map (adjective_literal t) ty.adjectives) ∙
    (λ i. radix_literals-choice h ty.radix t (is_of_any_object ty.radix.sym) i ++ map_map (literal_with h) (adjective_literal t) (adjective_with h) (adjective_literal (h t)) ty.adjectives (adjective_literal-with h t) i)

pub guard-with : (g : ℕ → Term → Term) (d : ℕ) (ty : SoftType) (t : Term) → map (formula_with g d) (guard ty t) ≡ guard (type_with (g d) ty) (g d t)
guard-with g d ty t =
    map_map (formula_with g d) literal_formula (literal_with (g d)) literal_formula (guard_literals ty t) (literal_formula-with g d) ∙
    ap (map literal_formula) (guard_literals-with (g d) ty t)

-- types under one more binder
map-args-raised : (g : ℕ → Term → Term) (d : ℕ) (ts : List Term) → GoesUnder g → map (g (d + 1)) (map (shift 0 1) ts) ≡ map (shift 0 1) (map (g d) ts)
map-args-raised g d ts u = map_map (g (d + 1)) (shift 0 1) (g d) (shift 0 1) ts (λ t. sym (u.raised d t))

adjective-raised : (g : ℕ → Term → Term) (d : ℕ) (a : Adjective) → GoesUnder g → adjective_with (g (d + 1)) (shift_adjective 0 1 a) ≡ shift_adjective 0 1 (adjective_with (g d) a)
adjective-raised g d a u i = record { positive = a.positive; sym = a.sym; args = map-args-raised g d a.args u i }

pub type-raised : (g : ℕ → Term → Term) (d : ℕ) (ty : SoftType) → GoesUnder g → type_with (g (d + 1)) (shift_type 0 1 ty) ≡ shift_type 0 1 (type_with (g d) ty)
type-raised g d ty u i =
    record { adjectives = map_map (adjective_with (g (d + 1))) (shift_adjective 0 1) (adjective_with (g d)) (shift_adjective 0 1) ty.adjectives (λ a. adjective-raised g d a u) i; radix = record { sym = ty.radix.sym; args = map-args-raised g d ty.radix.args u i } }

pub guard_inside-with : (g : ℕ → Term → Term) (d : ℕ) (ty : SoftType) → GoesUnder g → map (formula_with g (d + 1)) (guard_inside ty) ≡ guard_inside (type_with (g d) ty)
guard_inside-with g d ty u =
    guard-with g (d + 1) (shift_type 0 1 ty) (Bound 0) ∙ (λ i. guard (type-raised g d ty u i) (u.kept d i))

-- formulas
pub negated-with : (g : ℕ → Term → Term) (d : ℕ) (f : Formula) → formula_with g d (negated f) ≡ negated (formula_with g d f)
negated-with g d formula.Truth = refl
negated-with g d (formula.Eq t u) = refl
negated-with g d (formula.Atom s ts) = refl
negated-with g d (formula.Not f) = refl
negated-with g d (formula.And f k) = refl
negated-with g d (formula.All f) = refl

joined_to-with : (g : ℕ → Term → Term) (d : ℕ) (f : Formula) (fs : List Formula) → formula_with g d (joined_to f fs) ≡ joined_to (formula_with g d f) (map (formula_with g d) fs)
joined_to-with g d f [] = refl
joined_to-with g d f (k ∷ fs) = joined_to-with g d (formula.And f k) fs

pub where_guard-with : (g : ℕ → Term → Term) (d : ℕ) (fs : List Formula) (f : Formula) → formula_with g d (where_guard fs f) ≡ where_guard (map (formula_with g d) fs) (formula_with g d f)
where_guard-with g d [] f = refl
where_guard-with g d (k ∷ fs) f = λ i. formula.Not (formula.And (joined_to-with g d k fs i) (negated-with g d f i))

-- erasure
pub erase-with : (g : ℕ → Term → Term) (d : ℕ) (s : Statement) → GoesUnder g → erase (statement_with g d s) ≡ formula_with g d (erase s)
erase-with g d Truth u = refl
erase-with g d (Eq t v) u = refl
erase-with g d (Atom s ts) u = refl
erase-with g d (Not s) u = ap negated (erase-with g d s u) ∙ sym (negated-with g d (erase s))
erase-with g d (And s t) u = λ i. formula.And (erase-with g d s u i) (erase-with g d t u i)
erase-with g d (For ty s) u =
    (λ i. formula.All (where_guard (sym (guard_inside-with g d ty u) i) (erase-with g (d + 1) s u i))) ∙
    sym (ap formula.All (where_guard-with g (d + 1) (guard_inside ty) (erase s)))

-- forms of statements
pub opposite-with : (g : ℕ → Term → Term) (d : ℕ) (s : Statement) → statement_with g d (opposite s) ≡ opposite (statement_with g d s)
opposite-with g d Truth = refl
opposite-with g d (Eq t u) = refl
opposite-with g d (Atom s ts) = refl
opposite-with g d (Not s) = refl
opposite-with g d (And s t) = refl
opposite-with g d (For ty s) = refl

pub parts-with : (g : ℕ → Term → Term) (d : ℕ) (s : Statement) → parts (statement_with g d s) ≡ map (statement_with g d) (parts s)
parts-with g d Truth = refl
parts-with g d (Eq t u) = refl
parts-with g d (Atom s ts) = refl
parts-with g d (Not s) = refl
parts-with g d (And s t) = (λ i. parts-with g d s i ++ parts-with g d t i) ∙ sym (map-append (statement_with g d) (parts s) (parts t))
parts-with g d (For ty s) = refl

pub conjunction_to-with : (g : ℕ → Term → Term) (d : ℕ) (s : Statement) (ts : List Statement) → statement_with g d (conjunction_to s ts) ≡ conjunction_to (statement_with g d s) (map (statement_with g d) ts)
conjunction_to-with g d s [] = refl
conjunction_to-with g d s (t ∷ ts) = conjunction_to-with g d (And s t) ts

pub conjunction-with : (g : ℕ → Term → Term) (d : ℕ) (ss : List Statement) → statement_with g d (conjunction ss) ≡ conjunction (map (statement_with g d) ss)
conjunction-with g d [] = refl
conjunction-with g d (s ∷ ss) = conjunction_to-with g d s ss
