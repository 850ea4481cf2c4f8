-- Terms and formulas of a property at values for two of its loci.
use Rattle.std.proofs.Common.{◌≡◌, ℕ, zero, suc, ◌+◌, ◌-◌, ◌<◌, ◌≤◌, ◌⊎◌, inl, inr, List, [], ◌∷◌, ◌++◌, map, length, get_or, drop, refl, sym, ap, ◌∙◌, subst, arith, Bool, true, false}
use Rattle.std.specs.Prelude.{nat_eq, if◌then◌else◌}
use Rattle.std.specs.List.{list_all}
use Rattle.std.proofs.lemmas.Bool.{cases_lt, eqb-true, and_parts, and_from}
use Rattle.std.proofs.lemmas.List.{get_or_append_left, get_or_push, length-append}
use Rattle.mz_logic.specs.Term.{Term, Terms, Bound, Const, App, none, more}
use Rattle.mz_logic.specs.Formula.{Formula}
use Rattle.mz_logic.specs.Indices.{closed, is_below, args_below, formula_below}
use Rattle.mz_logic.specs.Literal.{literal_formula}
use Rattle.mz_logic.specs.Substitution.{shift, substitute, substitute_formula, value_at}
use Rattle.mz_logic.specs.declared.literal.Literal.{Literal}
use Rattle.mz_logic.specs.declared.literal.Literal.TheVariants as literal
use Rattle.mz_logic.proofs.SubstitutionLaws.{substitute-agree, substitute_formula-agree, substitute-substitute, substitute_formula-substitute, substitute-unused, substitute-closed}
use Rattle.mz_logic.proofs.ValueLaws.{value_at-within, substitute-value_at}
use Rattle.mz_core.specs.TypeShift.{shift_adjective, shift_type}
use Rattle.mz_core.specs.TypeSubstitution.{substitute_adjective, substitute_type, substitute_literal}
use Rattle.mz_core.specs.Closed.{term_under, args_under, literal_under}
use Rattle.mz_core.specs.declared.adjective.Adjective.{Adjective}
use Rattle.mz_core.specs.declared.soft_type.SoftType.{SoftType}
use Rattle.mz_items.specs.PropertyRows.{locus_value, locus_values}
use Rattle.mz_clause_laws.proofs.Instances.{value_at-drop, closed_at}

lt_or_eq : (k n : ℕ) → k < suc n → (k < n) ⊎ (k ≡ n)
lt_or_eq k n lt = elim (cases_lt k n) [ inl less ↦ inl less | inr le ↦ inr (omega arith) ]

sum-next : (k : ℕ) → k + 1 ≡ suc k
sum-next k = omega arith

-- indices of what has no constant
mutual
  under_below : (n : ℕ) (t : Term) → term_under n t ≡ true → is_below n t ≡ true
  under_below n (Bound index) h = h
  under_below n (Const number) h = refl
  under_below n (App s ts) h = args_under_below n ts h

  args_under_below : (n : ℕ) (ts : Terms) → args_under n ts ≡ true → args_below n ts ≡ true
  args_under_below n none h = refl
  args_under_below n (more t ts) h =
      let both : (term_under n t ≡ true) × (args_under n ts ≡ true) = and_parts (term_under n t) (args_under n ts) h in
      and_from _ _ (under_below n t both.0) (args_under_below n ts both.1)

list_under_below : (n : ℕ) (ts : List Term) → list_all (term_under n) ts ≡ true → list_all (is_below n) ts ≡ true
list_under_below n [] h = refl
list_under_below n (t ∷ ts) h =
    let both : (term_under n t ≡ true) × (list_all (term_under n) ts ≡ true) = and_parts (term_under n t) (list_all (term_under n) ts) h in
    and_from _ _ (under_below n t both.0) (list_under_below n ts both.1)

pub term_within : (n : ℕ) (t : Term) → term_under n t ≡ true → is_below (0 + n) t ≡ true
term_within n t h = let e : n ≡ 0 + n = omega arith in subst (λ m. is_below m t ≡ true) e (under_below n t h)

literal_below : (n : ℕ) (l : Literal) → literal_under n l ≡ true → formula_below n (literal_formula l) ≡ true
literal_below n (literal.Atom true s ts) h = list_under_below n ts h
literal_below n (literal.Atom false s ts) h = list_under_below n ts h
literal_below n (literal.Eq true t u) h =
    let both : (term_under n t ≡ true) × (term_under n u ≡ true) = and_parts (term_under n t) (term_under n u) h in
    and_from _ _ (under_below n t both.0) (under_below n u both.1)
literal_below n (literal.Eq false t u) h =
    let both : (term_under n t ≡ true) × (term_under n u ≡ true) = and_parts (term_under n t) (term_under n u) h in
    and_from _ _ (under_below n t both.0) (under_below n u both.1)

pub literal_within : (n : ℕ) (l : Literal) → literal_under n l ≡ true → formula_below (0 + n) (literal_formula l) ≡ true
literal_within n l h = let e : n ≡ 0 + n = omega arith in subst (λ m. formula_below m (literal_formula l) ≡ true) e (literal_below n l h)

-- a for the locus with the index left, b for that with the index right, and the values for the others
abbrev pub choose : List Term → ℕ → Term → ℕ → Term → ℕ → Term
choose ts left a right b k = if nat_eq k left then a else (if nat_eq k right then b else value_at ts k)

chosen : (x y : Bool) (a b c d : Term) → (x ≡ true → d ≡ a) → (y ≡ true → d ≡ b) → d ≡ c → d ≡ (if x then a else (if y then b else c))
chosen true y a b c d p q r = p refl
chosen false true a b c d p q r = q refl
chosen false false a b c d p q r = r

-- the values themselves
pub value_at-choose-same : (ts : List Term) (left right k : ℕ) → value_at ts k ≡ choose ts left (value_at ts left) right (value_at ts right) k
value_at-choose-same ts left right k =
    chosen (nat_eq k left) (nat_eq k right) (value_at ts left) (value_at ts right) (value_at ts k) (value_at ts k)
    (λ e. ap (value_at ts) (eqb-true k left e)) (λ e. ap (value_at ts) (eqb-true k right e)) refl

-- the values of loci, in a list
length-locus_values : (by left right count : ℕ) (t u : Term) → length (locus_values by left t right u count) ≡ count
length-locus_values by left right zero t u = refl
length-locus_values by left right (suc count) t u =
    let e : length (locus_values by left t right u count ++ locus_value by left t right u count ∷ []) ≡ length (locus_values by left t right u count) + 1 = length-append (locus_values by left t right u count) (locus_value by left t right u count ∷ []) in
    let ih : length (locus_values by left t right u count) ≡ count = length-locus_values by left right count t u in
    omega (arith, e, ih)

get_or-locus_values : (by left right count : ℕ) (t u : Term) (k : ℕ) (d : Term) → k < count → get_or (locus_values by left t right u count) k d ≡ locus_value by left t right u k
get_or-locus_values by left right zero t u k d lt = absurd (omega arith)
get_or-locus_values by left right (suc count) t u k d lt =
    let long : length (locus_values by left t right u count) ≡ count = length-locus_values by left right count t u in
    elim (lt_or_eq k count lt) [
      | inl less ↦
          let within : k < length (locus_values by left t right u count) = omega arith in
          get_or_append_left (locus_values by left t right u count) (locus_value by left t right u count ∷ []) d k within ∙ get_or-locus_values by left right count t u k d less
      | inr e ↦
          let at_end : length (locus_values by left t right u count) ≡ k = omega arith in
          get_or_push (locus_values by left t right u count) (locus_value by left t right u count) d k at_end ∙ ap (locus_value by left t right u) (sym e)
    ]

pub value_at-locus_values : (by left right count : ℕ) (t u : Term) (k : ℕ) → k < count → value_at (locus_values by left t right u count) k ≡ locus_value by left t right u k
value_at-locus_values by left right count t u k lt =
    let long : length (locus_values by left t right u count) ≡ count = length-locus_values by left right count t u in
    let within : k < length (locus_values by left t right u count) = omega arith in
    value_at-within (locus_values by left t right u count) k (Const 0) within ∙ get_or-locus_values by left right count t u k (Const 0) lt

-- the value of a locus at terms
substitute-choice_at : (v : ℕ → Term) (x y : Bool) (t u w a b c : Term) → substitute 0 v t ≡ a → substitute 0 v u ≡ b → substitute 0 v w ≡ c → substitute 0 v (if x then t else (if y then u else w)) ≡ (if x then a else (if y then b else c))
substitute-choice_at v true y t u w a b c p q r = p
substitute-choice_at v false true t u w a b c p q r = q
substitute-choice_at v false false t u w a b c p q r = r

pub locus_value_at : (by left right : ℕ) (us ts : List Term) (t u a b : Term) (k : ℕ) → by ≤ length us → drop by us ≡ ts → substitute 0 (value_at us) t ≡ a → substitute 0 (value_at us) u ≡ b → substitute 0 (value_at us) (locus_value by left t right u k) ≡ choose ts left a right b k
locus_value_at by left right us ts t u a b k le rest p q =
    substitute-choice_at (value_at us) (nat_eq k left) (nat_eq k right) t u (Bound (k + by)) a b (value_at ts k) p q
    (substitute-value_at us (k + by) ∙ (value_at-drop by us k le ∙ ap (λ vs. value_at vs k) rest))

-- a term with values for the loci, at terms
pub term_at_loci : (by left right n : ℕ) (us ts : List Term) (t u a b w : Term) → is_below (0 + n) w ≡ true → by ≤ length us → drop by us ≡ ts → substitute 0 (value_at us) t ≡ a → substitute 0 (value_at us) u ≡ b → substitute 0 (value_at us) (substitute 0 (value_at (locus_values by left t right u n)) w) ≡ substitute 0 (choose ts left a right b) w
term_at_loci by left right n us ts t u a b w below le rest p q =
    substitute-substitute 0 (value_at (locus_values by left t right u n)) (value_at us) w ∙
    substitute-agree 0 n (λ k. substitute 0 (value_at us) (value_at (locus_values by left t right u n) k)) (choose ts left a right b) w
    (λ k lt. ap (substitute 0 (value_at us)) (value_at-locus_values by left right n t u k lt) ∙ locus_value_at by left right us ts t u a b k le rest p q) below

pub formula_at_loci : (by left right n : ℕ) (us ts : List Term) (t u a b : Term) (f : Formula) → formula_below (0 + n) f ≡ true → by ≤ length us → drop by us ≡ ts → substitute 0 (value_at us) t ≡ a → substitute 0 (value_at us) u ≡ b → substitute_formula 0 (value_at us) (substitute_formula 0 (value_at (locus_values by left t right u n)) f) ≡ substitute_formula 0 (choose ts left a right b) f
formula_at_loci by left right n us ts t u a b f below le rest p q =
    substitute_formula-substitute 0 (value_at (locus_values by left t right u n)) (value_at us) f ∙
    substitute_formula-agree 0 n (λ k. substitute 0 (value_at us) (value_at (locus_values by left t right u n) k)) (choose ts left a right b) f
    (λ k lt. ap (substitute 0 (value_at us)) (value_at-locus_values by left right n t u k lt) ∙ locus_value_at by left right us ts t u a b k le rest p q) below

-- a substituted literal as a formula
pub literal_at : (v : ℕ → Term) (l : Literal) → literal_formula (substitute_literal 0 v l) ≡ substitute_formula 0 v (literal_formula l)
literal_at v (literal.Atom true s ts) = refl
literal_at v (literal.Atom false s ts) = refl
literal_at v (literal.Eq true t u) = refl
literal_at v (literal.Eq false t u) = refl

-- types under a further variable
map-args_past : (w : Term) (ts us : List Term) → map (substitute 0 (value_at (w ∷ ts))) (map (shift 0 1) us) ≡ map (substitute 0 (value_at ts)) us
map-args_past w ts [] = refl
map-args_past w ts (u ∷ us) =
    λ i. (substitute-unused 0 1 (value_at (w ∷ ts)) u ∙ (λ j. substitute 0 (λ k. value_at (w ∷ ts) (sum-next k j)) u)) i ∷ map-args_past w ts us i

adjectives_past : (w : Term) (ts : List Term) (xs : List Adjective) → map (substitute_adjective 0 (value_at (w ∷ ts))) (map (shift_adjective 0 1) xs) ≡ map (substitute_adjective 0 (value_at ts)) xs
adjectives_past w ts [] = refl
adjectives_past w ts (a ∷ xs) = λ i. record { positive = a.positive; sym = a.sym; args = map-args_past w ts a.args i } ∷ adjectives_past w ts xs i

pub type_past : (w : Term) (ts : List Term) (ty : SoftType) → substitute_type 0 (value_at (w ∷ ts)) (shift_type 0 1 ty) ≡ substitute_type 0 (value_at ts) ty
type_past w ts ty i = record { adjectives = adjectives_past w ts ty.adjectives i; radix = record { sym = ty.radix.sym; args = map-args_past w ts ty.radix.args i } }

-- closed values
pub value_closed : (ts : List Term) (k : ℕ) → list_all closed ts ≡ true → k < length ts → closed (value_at ts k) ≡ true
value_closed ts k h lt = subst (λ t. closed t ≡ true) (sym (value_at-within ts k (Const 0) lt)) (closed_at ts k h lt)

-- the valuation with the innermost variable for the second of the loci, at a term for this
pub choose-last : (ts : List Term) (left right : ℕ) (a w : Term) (k : ℕ) → list_all closed ts ≡ true → closed a ≡ true → k < length ts → substitute 0 (value_at (w ∷ [])) (choose ts left a right (Bound 0) k) ≡ choose ts left a right w k
choose-last ts left right a w k h ca lt =
    substitute-choice_at (value_at (w ∷ [])) (nat_eq k left) (nat_eq k right) a (Bound 0) (value_at ts k) a w (value_at ts k)
    (substitute-closed 0 (value_at (w ∷ [])) a ca) (substitute-value_at (w ∷ []) 0) (substitute-closed 0 (value_at (w ∷ [])) (value_at ts k) (value_closed ts k h lt))
