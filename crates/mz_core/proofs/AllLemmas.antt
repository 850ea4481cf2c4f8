-- What holds of each term, through functions of terms, the forms of statements, guards and erasure.
use Rattle.std.proofs.Common.{◌≡◌, ℕ, ◌+◌, List, [], ◌∷◌, ◌++◌, map, refl, ◌∙◌, subst, arith, Bool, true, false}
use Rattle.std.specs.Prelude.{◌&&◌, if◌then◌else◌}
use Rattle.std.specs.List.{list_all}
use Rattle.std.proofs.lemmas.Bool.{and_parts, and_from}
use Rattle.mz_logic.specs.Term as term
use Rattle.mz_logic.specs.Term.{Term}
use Rattle.mz_logic.specs.Formula as formula
use Rattle.mz_logic.specs.Formula.{Formula}
use Rattle.mz_logic.specs.Connectives.{joined_to}
use Rattle.mz_logic.specs.Literal.{literal_formula}
use Rattle.mz_logic.specs.Literal as signs
use Rattle.mz_logic.specs.Negation.{negated}
use Rattle.mz_logic.specs.Substitution.{shift}
use Rattle.mz_logic.specs.declared.literal.Literal.{Literal}
use Rattle.mz_logic.specs.declared.literal.Literal.TheVariants as literal
use Rattle.mz_core.specs.Statement.{Statement, Truth, Eq, Atom, Not, And, For}
use Rattle.mz_core.specs.StatementForms.{opposite, disjunction, implication, equivalence, for_some}
use Rattle.mz_core.specs.Parts.{parts, conjunction_to, conjunction, where_all}
use Rattle.mz_core.specs.Hidden.{is_of_any_object}
use Rattle.mz_core.specs.Guard.{radix_literals, adjective_literal, guard_literals, guard}
use Rattle.mz_core.specs.Connectives.{where_guard, guard_inside}
use Rattle.mz_core.specs.TypeShift.{shift_type}
use Rattle.mz_core.specs.TypeStatements.{signed, literal_statement, is_of_type, is_of_type_inside}
use Rattle.mz_core.specs.Erasure.{erase}
use Rattle.mz_core.specs.Everywhere.{adjective_all, type_all, literal_all, statement_all, formula_all}
use Rattle.mz_core.specs.declared.radix.Radix.{Radix}
use Rattle.mz_core.specs.declared.adjective.Adjective.{Adjective}
use Rattle.mz_core.specs.declared.soft_type.SoftType.{SoftType}
use Rattle.mz_core.proofs.TermMaps.{adjective_with, type_with, literal_with, statement_with}

-- lists
pub all-map : {X Y : Type 0} (p : X → Bool) (q : Y → Bool) (h : X → Y) (xs : List X) → ((x : X) → p x ≡ true → q (h x) ≡ true) → list_all p xs ≡ true → list_all q (map h xs) ≡ true
all-map p q h [] keeps e = refl
all-map p q h (x ∷ xs) keeps e =
    let both : (p x ≡ true) × (list_all p xs ≡ true) = and_parts (p x) (list_all p xs) e in
    and_from _ _ (keeps x both.0) (all-map p q h xs keeps both.1)

pub all-append : {X : Type 0} (p : X → Bool) (xs ys : List X) → list_all p xs ≡ true → list_all p ys ≡ true → list_all p (xs ++ ys) ≡ true
all-append p [] ys e f = f
all-append p (x ∷ xs) ys e f =
    let both : (p x ≡ true) × (list_all p xs ≡ true) = and_parts (p x) (list_all p xs) e in
    and_from _ _ both.0 (all-append p xs ys both.1 f)

pub all-alone : {X : Type 0} (p : X → Bool) (x : X) → p x ≡ true → list_all p (x ∷ []) ≡ true
all-alone p x e = and_from _ _ e refl

-- types and literals, where a function of terms keeps the property
pub adjective_all-with : (p q : ℕ → Term → Bool) (m n : ℕ) (h : Term → Term) (a : Adjective) → ((t : Term) → p m t ≡ true → q n (h t) ≡ true) → adjective_all p m a ≡ true → adjective_all q n (adjective_with h a) ≡ true
adjective_all-with p q m n h a keeps e = all-map (p m) (q n) h a.args keeps e

pub type_all-with : (p q : ℕ → Term → Bool) (m n : ℕ) (h : Term → Term) (ty : SoftType) → ((t : Term) → p m t ≡ true → q n (h t) ≡ true) → type_all p m ty ≡ true → type_all q n (type_with h ty) ≡ true
type_all-with p q m n h ty keeps e =
    let both : (list_all (adjective_all p m) ty.adjectives ≡ true) × (list_all (p m) ty.radix.args ≡ true) = and_parts (list_all (adjective_all p m) ty.adjectives) (list_all (p m) ty.radix.args) e in
    and_from _ _ (all-map (adjective_all p m) (adjective_all q n) (adjective_with h) ty.adjectives (λ a. adjective_all-with p q m n h a keeps) both.0) (all-map (p m) (q n) h ty.radix.args keeps both.1)

pub literal_all-with : (p q : ℕ → Term → Bool) (m n : ℕ) (h : Term → Term) (l : Literal) → ((t : Term) → p m t ≡ true → q n (h t) ≡ true) → literal_all p m l ≡ true → literal_all q n (literal_with h l) ≡ true
literal_all-with p q m n h (literal.Atom positive s ts) keeps e = all-map (p m) (q n) h ts keeps e
literal_all-with p q m n h (literal.Eq positive t u) keeps e =
    let both : (p m t ≡ true) × (p m u ≡ true) = and_parts (p m t) (p m u) e in
    and_from _ _ (keeps t both.0) (keeps u both.1)

-- statements
pub statement_all-at : (p : ℕ → Term → Bool) (m n : ℕ) (s : Statement) → m ≡ n → statement_all p m s ≡ true → statement_all p n s ≡ true
statement_all-at p m n s e h = let Q : ℕ → Type 0 = λ k. statement_all p k s ≡ true in subst Q e h

pub statement_all-with : (p q : ℕ → Term → Bool) (g : ℕ → Term → Term) (m n d : ℕ) (s : Statement) → ((d : ℕ) (t : Term) → p (d + m) t ≡ true → q (d + n) (g d t) ≡ true) → statement_all p (d + m) s ≡ true → statement_all q (d + n) (statement_with g d s) ≡ true
statement_all-with p q g m n d Truth keeps e = refl
statement_all-with p q g m n d (Eq t u) keeps e =
    let both : (p (d + m) t ≡ true) × (p (d + m) u ≡ true) = and_parts (p (d + m) t) (p (d + m) u) e in
    and_from _ _ (keeps d t both.0) (keeps d u both.1)
statement_all-with p q g m n d (Atom s ts) keeps e = all-map (p (d + m)) (q (d + n)) (g d) ts (keeps d) e
statement_all-with p q g m n d (Not s) keeps e = statement_all-with p q g m n d s keeps e
statement_all-with p q g m n d (And s t) keeps e =
    let both : (statement_all p (d + m) s ≡ true) × (statement_all p (d + m) t ≡ true) = and_parts (statement_all p (d + m) s) (statement_all p (d + m) t) e in
    and_from _ _ (statement_all-with p q g m n d s keeps both.0) (statement_all-with p q g m n d t keeps both.1)
statement_all-with p q g m n d (For ty s) keeps e =
    let both : (type_all p (d + m) ty ≡ true) × (statement_all p (d + m + 1) s ≡ true) = and_parts (type_all p (d + m) ty) (statement_all p (d + m + 1) s) e in
    let before : d + m + 1 ≡ (d + 1) + m = omega arith in
    let after : (d + 1) + n ≡ d + n + 1 = omega arith in
    and_from _ _ (type_all-with p q (d + m) (d + n) (g d) ty (keeps d) both.0)
    (statement_all-at q ((d + 1) + n) (d + n + 1) (statement_with g (d + 1) s) after (statement_all-with p q g m n (d + 1) s keeps (statement_all-at p (d + m + 1) ((d + 1) + m) s before both.1)))

-- forms
pub opposite_all : (p : ℕ → Term → Bool) (n : ℕ) (s : Statement) → statement_all p n (opposite s) ≡ statement_all p n s
opposite_all p n Truth = refl
opposite_all p n (Eq t u) = refl
opposite_all p n (Atom s ts) = refl
opposite_all p n (Not s) = refl
opposite_all p n (And s t) = refl
opposite_all p n (For ty s) = refl

pub implication_all : (p : ℕ → Term → Bool) (n : ℕ) (s t : Statement) → statement_all p n s ≡ true → statement_all p n t ≡ true → statement_all p n (implication s t) ≡ true
implication_all p n s t ha hb = and_from _ _ ha (opposite_all p n t ∙ hb)

pub disjunction_all : (p : ℕ → Term → Bool) (n : ℕ) (s t : Statement) → statement_all p n s ≡ true → statement_all p n t ≡ true → statement_all p n (disjunction s t) ≡ true
disjunction_all p n s t ha hb = and_from _ _ (opposite_all p n s ∙ ha) (opposite_all p n t ∙ hb)

pub equivalence_all : (p : ℕ → Term → Bool) (n : ℕ) (s t : Statement) → statement_all p n s ≡ true → statement_all p n t ≡ true → statement_all p n (equivalence s t) ≡ true
equivalence_all p n s t ha hb = and_from _ _ (implication_all p n s t ha hb) (implication_all p n t s hb ha)

pub for_some_all : (p : ℕ → Term → Bool) (n : ℕ) (ty : SoftType) (s : Statement) → type_all p n ty ≡ true → statement_all p (n + 1) s ≡ true → statement_all p n (for_some ty s) ≡ true
for_some_all p n ty s ha hb = and_from _ _ ha (opposite_all p (n + 1) s ∙ hb)

conjunction_to_all : (p : ℕ → Term → Bool) (n : ℕ) (s : Statement) (ts : List Statement) → statement_all p n s ≡ true → list_all (statement_all p n) ts ≡ true → statement_all p n (conjunction_to s ts) ≡ true
conjunction_to_all p n s [] ha hb = ha
conjunction_to_all p n s (t ∷ ts) ha hb =
    let both : (statement_all p n t ≡ true) × (list_all (statement_all p n) ts ≡ true) = and_parts (statement_all p n t) (list_all (statement_all p n) ts) hb in
    conjunction_to_all p n (And s t) ts (and_from _ _ ha both.0) both.1

pub conjunction_all : (p : ℕ → Term → Bool) (n : ℕ) (ss : List Statement) → list_all (statement_all p n) ss ≡ true → statement_all p n (conjunction ss) ≡ true
conjunction_all p n [] ha = refl
conjunction_all p n (s ∷ ss) ha =
    let both : (statement_all p n s ≡ true) × (list_all (statement_all p n) ss ≡ true) = and_parts (statement_all p n s) (list_all (statement_all p n) ss) ha in
    conjunction_to_all p n s ss both.0 both.1

pub where_all_all : (p : ℕ → Term → Bool) (n : ℕ) (ss : List Statement) (s : Statement) → list_all (statement_all p n) ss ≡ true → statement_all p n s ≡ true → statement_all p n (where_all ss s) ≡ true
where_all_all p n [] s ha hb = hb
where_all_all p n (t ∷ ts) s ha hb = implication_all p n (conjunction_to t ts) s (conjunction_all p n (t ∷ ts) ha) hb

-- types of terms
with_last_all : (p : ℕ → Term → Bool) (n : ℕ) (ts : List Term) (t : Term) → list_all (p n) ts ≡ true → p n t ≡ true → list_all (p n) (ts ++ t ∷ []) ≡ true
with_last_all p n ts t ha hb = all-append (p n) ts (t ∷ []) ha (all-alone (p n) t hb)

radix_choice_all : (p : ℕ → Term → Bool) (n : ℕ) (r : Radix) (t : Term) (b : Bool) → list_all (p n) r.args ≡ true → p n t ≡ true → list_all (literal_all p n) (if b then [] else literal.Atom true r.sym (r.args ++ t ∷ []) ∷ []) ≡ true
radix_choice_all p n r t true ha hb = refl
radix_choice_all p n r t false ha hb = all-alone (literal_all p n) (literal.Atom true r.sym (r.args ++ t ∷ [])) (with_last_all p n r.args t ha hb)

pub adjective_literal_all : (p : ℕ → Term → Bool) (n : ℕ) (t : Term) (a : Adjective) → p n t ≡ true → adjective_all p n a ≡ true → literal_all p n (adjective_literal t a) ≡ true
adjective_literal_all p n t a ha hb = with_last_all p n a.args t hb ha

pub guard_literals_all : (p : ℕ → Term → Bool) (n : ℕ) (ty : SoftType) (t : Term) → type_all p n ty ≡ true → p n t ≡ true → list_all (literal_all p n) (guard_literals ty t) ≡ true
guard_literals_all p n ty t ha hb =
    let both : (list_all (adjective_all p n) ty.adjectives ≡ true) × (list_all (p n) ty.radix.args ≡ true) = and_parts (list_all (adjective_all p n) ty.adjectives) (list_all (p n) ty.radix.args) ha in
    all-append (literal_all p n) (radix_literals ty.radix t) (map (adjective_literal t) ty.adjectives) (radix_choice_all p n ty.radix t (is_of_any_object ty.radix.sym) both.1 hb)
    (all-map (adjective_all p n) (literal_all p n) (adjective_literal t) ty.adjectives (λ a. adjective_literal_all p n t a hb) both.0)

signed_all : (p : ℕ → Term → Bool) (n : ℕ) (b : Bool) (s : Statement) → statement_all p n (signed b s) ≡ statement_all p n s
signed_all p n true s = refl
signed_all p n false s = refl

pub literal_statement_all : (p : ℕ → Term → Bool) (n : ℕ) (l : Literal) → literal_all p n l ≡ true → statement_all p n (literal_statement l) ≡ true
literal_statement_all p n (literal.Atom positive s ts) ha = signed_all p n positive (Atom s ts) ∙ ha
literal_statement_all p n (literal.Eq positive t u) ha = signed_all p n positive (Eq t u) ∙ ha

pub literal_statements_all : (p : ℕ → Term → Bool) (n : ℕ) (ls : List Literal) → list_all (literal_all p n) ls ≡ true → list_all (statement_all p n) (map literal_statement ls) ≡ true
literal_statements_all p n ls ha = all-map (literal_all p n) (statement_all p n) literal_statement ls (literal_statement_all p n) ha

pub is_of_type_all : (p : ℕ → Term → Bool) (n : ℕ) (ty : SoftType) (t : Term) → type_all p n ty ≡ true → p n t ≡ true → statement_all p n (is_of_type ty t) ≡ true
is_of_type_all p n ty t ha hb =
    conjunction_all p n (map literal_statement (guard_literals ty t)) (literal_statements_all p n (guard_literals ty t) (guard_literals_all p n ty t ha hb))

-- a property of terms that goes under one more binder, whose index has it
pub record Persists (p : ℕ → Term → Bool) : Type 0 where
  pub raised : (n : ℕ) (t : Term) → p n t ≡ true → p (n + 1) (shift 0 1 t) ≡ true
  pub zero : (n : ℕ) → p (n + 1) (term.Bound 0) ≡ true

pub type_all-raised : (p : ℕ → Term → Bool) (n : ℕ) (ty : SoftType) → Persists p → type_all p n ty ≡ true → type_all p (n + 1) (shift_type 0 1 ty) ≡ true
type_all-raised p n ty u ha = type_all-with p p n (n + 1) (shift 0 1) ty (u.raised n) ha

pub is_of_type_inside_all : (p : ℕ → Term → Bool) (n : ℕ) (ty : SoftType) → Persists p → type_all p n ty ≡ true → statement_all p (n + 1) (is_of_type_inside ty) ≡ true
is_of_type_inside_all p n ty u ha = is_of_type_all p (n + 1) (shift_type 0 1 ty) (term.Bound 0) (type_all-raised p n ty u ha) (u.zero n)

-- erasure
formula_signed_all : (p : ℕ → Term → Bool) (n : ℕ) (b : Bool) (f : Formula) → formula_all p n (signs.signed b f) ≡ formula_all p n f
formula_signed_all p n true f = refl
formula_signed_all p n false f = refl

pub literal_formula_all : (p : ℕ → Term → Bool) (n : ℕ) (l : Literal) → literal_all p n l ≡ true → formula_all p n (literal_formula l) ≡ true
literal_formula_all p n (literal.Atom positive s ts) ha = formula_signed_all p n positive (formula.Atom s ts) ∙ ha
literal_formula_all p n (literal.Eq positive t u) ha = formula_signed_all p n positive (formula.Eq t u) ∙ ha

pub guard_all : (p : ℕ → Term → Bool) (n : ℕ) (ty : SoftType) (t : Term) → type_all p n ty ≡ true → p n t ≡ true → list_all (formula_all p n) (guard ty t) ≡ true
guard_all p n ty t ha hb = all-map (literal_all p n) (formula_all p n) literal_formula (guard_literals ty t) (literal_formula_all p n) (guard_literals_all p n ty t ha hb)

pub negated_all : (p : ℕ → Term → Bool) (n : ℕ) (f : Formula) → formula_all p n (negated f) ≡ formula_all p n f
negated_all p n formula.Truth = refl
negated_all p n (formula.Eq t u) = refl
negated_all p n (formula.Atom s ts) = refl
negated_all p n (formula.Not f) = refl
negated_all p n (formula.And f g) = refl
negated_all p n (formula.All f) = refl

joined_to_all : (p : ℕ → Term → Bool) (n : ℕ) (f : Formula) (gs : List Formula) → formula_all p n f ≡ true → list_all (formula_all p n) gs ≡ true → formula_all p n (joined_to f gs) ≡ true
joined_to_all p n f [] ha hb = ha
joined_to_all p n f (g ∷ gs) ha hb =
    let both : (formula_all p n g ≡ true) × (list_all (formula_all p n) gs ≡ true) = and_parts (formula_all p n g) (list_all (formula_all p n) gs) hb in
    joined_to_all p n (formula.And f g) gs (and_from _ _ ha both.0) both.1

pub where_guard_all : (p : ℕ → Term → Bool) (n : ℕ) (gs : List Formula) (f : Formula) → list_all (formula_all p n) gs ≡ true → formula_all p n f ≡ true → formula_all p n (where_guard gs f) ≡ true
where_guard_all p n [] f ha hb = hb
where_guard_all p n (g ∷ gs) f ha hb =
    let both : (formula_all p n g ≡ true) × (list_all (formula_all p n) gs ≡ true) = and_parts (formula_all p n g) (list_all (formula_all p n) gs) ha in
    and_from _ _ (joined_to_all p n g gs both.0 both.1) (negated_all p n f ∙ hb)

pub erase_all : (p : ℕ → Term → Bool) (n : ℕ) (s : Statement) → Persists p → statement_all p n s ≡ true → formula_all p n (erase s) ≡ true
erase_all p n Truth u ha = refl
erase_all p n (Eq t v) u ha = ha
erase_all p n (Atom s ts) u ha = ha
erase_all p n (Not s) u ha = negated_all p n (erase s) ∙ erase_all p n s u ha
erase_all p n (And s t) u ha =
    let both : (statement_all p n s ≡ true) × (statement_all p n t ≡ true) = and_parts (statement_all p n s) (statement_all p n t) ha in
    and_from _ _ (erase_all p n s u both.0) (erase_all p n t u both.1)
erase_all p n (For ty s) u ha =
    let both : (type_all p n ty ≡ true) × (statement_all p (n + 1) s ≡ true) = and_parts (type_all p n ty) (statement_all p (n + 1) s) ha in
    where_guard_all p (n + 1) (guard_inside ty) (erase s) (guard_all p (n + 1) (shift_type 0 1 ty) (term.Bound 0) (type_all-raised p n ty u both.0) (u.zero n)) (erase_all p (n + 1) s u both.1)

-- parts
pub parts_all : (p : ℕ → Term → Bool) (n : ℕ) (s : Statement) → statement_all p n s ≡ true → list_all (statement_all p n) (parts s) ≡ true
parts_all p n Truth ha = refl
parts_all p n (Eq t u) ha = all-alone (statement_all p n) (Eq t u) ha
parts_all p n (Atom s ts) ha = all-alone (statement_all p n) (Atom s ts) ha
parts_all p n (Not s) ha = all-alone (statement_all p n) (Not s) ha
parts_all p n (And s t) ha =
    let both : (statement_all p n s ≡ true) × (statement_all p n t ≡ true) = and_parts (statement_all p n s) (statement_all p n t) ha in
    all-append (statement_all p n) (parts s) (parts t) (parts_all p n s both.0) (parts_all p n t both.1)
parts_all p n (For ty s) ha = all-alone (statement_all p n) (For ty s) ha
