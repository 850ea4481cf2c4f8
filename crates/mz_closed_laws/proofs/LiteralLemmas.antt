-- Guards and literals under loci and further variables.
use Rattle.std.proofs.Common.{◌≡◌, ◌<◌, ℕ, ◌+◌, List, [], ◌∷◌, ◌++◌, map, length, refl, subst, arith, Bool, true, false}
use Rattle.std.specs.Prelude.{flat_map, if◌then◌else◌, Option, Some, None}
use Rattle.std.specs.List.{list_all}
use Rattle.std.proofs.lemmas.Bool.{lt-ltb, and_parts, and_from}
use Rattle.mz_logic.specs.Term.{Term, Bound}
use Rattle.mz_logic.specs.Substitution.{shift, substitute, value_at}
use Rattle.mz_logic.specs.declared.sym.Sym.{Sym}
use Rattle.mz_logic.specs.declared.literal.Literal.{Literal}
use Rattle.mz_logic.specs.declared.literal.Literal.TheVariants as literal
use Rattle.mz_core.specs.Hidden.{is_of_any_object}
use Rattle.mz_core.specs.TypeShift.{shift_adjective, shift_radix, shift_type}
use Rattle.mz_core.specs.TypeSubstitution.{substitute_literal}
use Rattle.mz_core.specs.Guard.{radix_literals, guard_literals, adjective_literal}
use Rattle.mz_core.specs.Closed.{term_under, literal_under, adjective_under, type_under, loci_under, loci_closed}
use Rattle.mz_core.specs.declared.radix.Radix.{Radix}
use Rattle.mz_core.specs.declared.adjective.Adjective.{Adjective}
use Rattle.mz_core.specs.declared.soft_type.SoftType.{SoftType}
use Rattle.mz_core.proofs.UnderTerms.{term_under-shift}
use Rattle.mz_core.proofs.AllLemmas.{all-map, all-append, all-alone, adjective_all-with, adjective_literal_all, guard_literals_all}
use Rattle.mz_ground.specs.ClauseFormula.{complement}
use Rattle.mz_items.specs.Closed.{type_if_any_under}
use Rattle.mz_items.proofs.RowLemmas.{shift_type_under}
use Rattle.mz_items.proofs.ItemLemmas.{filled_under}
use Rattle.mz_clauses.specs.Guards.{loci_guards, guard_at_object, guard_if_any, adjective_literals, adjectives_at_object}

-- lists
pub all-flat : {X Y : Type 0} (p : X → Bool) (q : Y → Bool) (f : X → List Y) (xs : List X) → ((x : X) → p x ≡ true → list_all q (f x) ≡ true) → list_all p xs ≡ true → list_all q (flat_map f xs) ≡ true
all-flat p q f [] each h = refl
all-flat p q f (x ∷ xs) each h =
    let both : (p x ≡ true) × (list_all p xs ≡ true) = and_parts (p x) (list_all p xs) h in
    all-append q (f x) (flat_map f xs) (each x both.0) (all-flat p q f xs each both.1)

pub last_under : (n : ℕ) (ts : List Term) (t : Term) → list_all (term_under n) ts ≡ true → term_under n t ≡ true → list_all (term_under n) (ts ++ t ∷ []) ≡ true
last_under n ts t h k = all-append (term_under n) ts (t ∷ []) h (all-alone (term_under n) t k)

-- numbers of binders
pub type_at : (m n : ℕ) (ty : SoftType) → m ≡ n → type_under m ty ≡ true → type_under n ty ≡ true
type_at m n ty e h = let Q : ℕ → Type 0 = λ k. type_under k ty ≡ true in subst Q e h

pub index_0 : (n : ℕ) → term_under (n + 1) (Bound 0) ≡ true
index_0 n = let lt : 0 < n + 1 = omega arith in lt-ltb 0 (n + 1) lt

pub raised_under : (n : ℕ) (ts : List Term) → list_all (term_under n) ts ≡ true → list_all (term_under (n + 1)) (map (shift 0 1) ts) ≡ true
raised_under n ts h = all-map (term_under n) (term_under (n + 1)) (shift 0 1) ts (λ t k. term_under-shift 0 1 n t k) h

pub radix_args : (n : ℕ) (ty : SoftType) → type_under n ty ≡ true → list_all (term_under n) ty.radix.args ≡ true
radix_args n ty h = (and_parts (list_all (adjective_under n) ty.adjectives) (list_all (term_under n) ty.radix.args) h).1

-- the guards of loci under k binders
loci_guards_under : (k by n : ℕ) (loci : List SoftType) → n ≡ k + length loci + by → loci_under k loci ≡ true → list_all (literal_under n) (loci_guards by loci) ≡ true
loci_guards_under k by n [] e h = refl
loci_guards_under k by n (ty ∷ tys) e h =
    let both : (type_under k ty ≡ true) × (loci_under (k + 1) tys ≡ true) = and_parts (type_under k ty) (loci_under (k + 1) tys) h in
    let sum : k + (length tys + 1 + by) ≡ n = omega arith in
    let rest : n ≡ k + 1 + length tys + by = omega arith in
    let lt : length tys + by < n = omega arith in
    all-append (literal_under n) (guard_literals (shift_type 0 (length tys + 1 + by) ty) (Bound (length tys + by))) (loci_guards by tys)
    (guard_literals_all term_under n (shift_type 0 (length tys + 1 + by) ty) (Bound (length tys + by))
    (type_at (k + (length tys + 1 + by)) n (shift_type 0 (length tys + 1 + by) ty) sum (shift_type_under 0 (length tys + 1 + by) k ty both.0))
    (lt-ltb (length tys + by) n lt))
    (loci_guards_under (k + 1) by n tys rest both.1)

pub guards_under : (by : ℕ) (loci : List SoftType) → loci_closed loci ≡ true → list_all (literal_under (length loci + by)) (loci_guards by loci) ≡ true
guards_under by loci h =
    let e : length loci + by ≡ 0 + length loci + by = omega arith in
    loci_guards_under 0 by (length loci + by) loci e h

pub guards_alone_under : (loci : List SoftType) → loci_closed loci ≡ true → list_all (literal_under (length loci)) (loci_guards 0 loci) ≡ true
guards_alone_under loci h =
    let e : length loci ≡ 0 + length loci + 0 = omega arith in
    loci_guards_under 0 0 (length loci) loci e h

-- types and adjectives at terms
pub guard_under : (n : ℕ) (ty : SoftType) (t : Term) → type_under n ty ≡ true → term_under n t ≡ true → list_all (literal_under n) (guard_literals ty t) ≡ true
guard_under n ty t h k = guard_literals_all term_under n ty t h k

pub object_guard_under : (n : ℕ) (ty : SoftType) → type_under n ty ≡ true → list_all (literal_under (n + 1)) (guard_at_object ty) ≡ true
object_guard_under n ty h = guard_under (n + 1) (shift_type 0 1 ty) (Bound 0) (shift_type_under 0 1 n ty h) (index_0 n)

pub guard_if_any_under : (n : ℕ) (ty : Option SoftType) (t : Term) → type_if_any_under n ty ≡ true → term_under n t ≡ true → list_all (literal_under n) (guard_if_any ty t) ≡ true
guard_if_any_under n None t h k = refl
guard_if_any_under n (Some ty) t h k = guard_under n ty t h k

pub adjectives_under : (n : ℕ) (xs : List Adjective) (t : Term) → list_all (adjective_under n) xs ≡ true → term_under n t ≡ true → list_all (literal_under n) (adjective_literals xs t) ≡ true
adjectives_under n xs t h k =
    all-map (adjective_under n) (literal_under n) (adjective_literal t) xs (λ a l. adjective_literal_all term_under n t a k l) h

adjective_raised : (n : ℕ) (a : Adjective) → adjective_under n a ≡ true → adjective_under (n + 1) (shift_adjective 0 1 a) ≡ true
adjective_raised n a h = adjective_all-with term_under term_under n (n + 1) (shift 0 1) a (λ t k. term_under-shift 0 1 n t k) h

pub object_adjectives_under : (n : ℕ) (xs : List Adjective) → list_all (adjective_under n) xs ≡ true → list_all (literal_under (n + 1)) (adjectives_at_object xs) ≡ true
object_adjectives_under n xs h =
    adjectives_under (n + 1) (map (shift_adjective 0 1) xs) (Bound 0) (all-map (adjective_under n) (adjective_under (n + 1)) (shift_adjective 0 1) xs (adjective_raised n) h) (index_0 n)

radix_choice_under : (n : ℕ) (b : Bool) (s : Sym) (ts : List Term) → list_all (term_under n) ts ≡ true → list_all (literal_under n) (if b then [] else literal.Atom true s ts ∷ []) ≡ true
radix_choice_under n true s ts h = refl
radix_choice_under n false s ts h = and_from _ _ h refl

pub object_radix_under : (n : ℕ) (r : Radix) → list_all (term_under n) r.args ≡ true → list_all (literal_under (n + 1)) (radix_literals (shift_radix 0 1 r) (Bound 0)) ≡ true
object_radix_under n r h =
    radix_choice_under (n + 1) (is_of_any_object r.sym) r.sym (map (shift 0 1) r.args ++ Bound 0 ∷ [])
    (last_under (n + 1) (map (shift 0 1) r.args) (Bound 0) (raised_under n r.args h) (index_0 n))

-- literals
pub complement_under : (n : ℕ) (l : Literal) → literal_under n (complement l) ≡ literal_under n l
complement_under n (literal.Atom positive s ts) = refl
complement_under n (literal.Eq positive t u) = refl

pub literal_filled_under : (m : ℕ) (vs : List Term) (n : ℕ) (l : Literal) → length vs ≡ n → list_all (term_under m) vs ≡ true → literal_under n l ≡ true → literal_under m (substitute_literal 0 (value_at vs) l) ≡ true
literal_filled_under m vs n (literal.Atom positive s ts) e hv h =
    all-map (term_under n) (term_under m) (substitute 0 (value_at vs)) ts (λ t k. filled_under m vs n t e hv k) h
literal_filled_under m vs n (literal.Eq positive t u) e hv h =
    let both : (term_under n t ≡ true) × (term_under n u ≡ true) = and_parts (term_under n t) (term_under n u) h in
    and_from _ _ (filled_under m vs n t e hv both.0) (filled_under m vs n u e hv both.1)
