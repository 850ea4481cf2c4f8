-- Types, literals and statements of known constants.
use Rattle.std.proofs.Common.{◌≡◌, ◌≤◌, ℕ, zero, ◌+◌, List, map, length, refl, ap, ◌∙◌, subst, arith, Bool, true, false}
use Rattle.std.specs.Prelude.{nat_eq}
use Rattle.std.specs.List.{list_all}
use Rattle.std.proofs.lemmas.Bool.{and_parts, and_from}
use Rattle.mz_logic.specs.Term.{Term}
use Rattle.mz_logic.specs.declared.literal.Literal.{Literal}
use Rattle.mz_logic.specs.declared.literal.Literal.TheVariants as literal
use Rattle.mz_logic.specs.Substitution.{substitute, value_at, argument_at}
use Rattle.mz_logic.specs.Abstraction.{term_over}
use Rattle.mz_logic.proofs.ListLemmas.{list_all-where, list_all-map_where}
use Rattle.mz_core.specs.Closed.{term_under, literal_under, type_under}
use Rattle.mz_core.specs.Abstraction.{statement_over}
use Rattle.mz_core.specs.Everywhere.{adjective_all, type_all, statement_all}
use Rattle.mz_core.specs.Statement.{Statement, Truth, Eq, Atom, Not, And, For}
use Rattle.mz_core.specs.TypeSubstitution.{substitute_type, substitute_literal, substitute_statement}
use Rattle.mz_core.specs.declared.soft_type.SoftType.{SoftType}
use Rattle.mz_core.proofs.AllLemmas.{type_all-with, statement_all-with, statement_all-at}
use Rattle.mz_core.proofs.MapInstances.{substitutes, abstracts, substitute_statement-with, statement_over-with}
use Rattle.mz_core.proofs.TermMaps.{statement_with}
use Rattle.mz_choice_laws.specs.Known.{term_known, type_known, literal_known, statement_known}
use Rattle.mz_choice_laws.proofs.KnownTerms.{known_at, term_known-where, term_known-under, term_known-substitute, term_known-over, value_known, argument_known}

-- another property of each term
pub type_all-where : (p q : ℕ → Term → Bool) (n : ℕ) (ty : SoftType) → ((t : Term) → p n t ≡ true → q n t ≡ true) → type_all p n ty ≡ true → type_all q n ty ≡ true
type_all-where p q n ty f h =
    let both : (list_all (adjective_all p n) ty.adjectives ≡ true) × (list_all (p n) ty.radix.args ≡ true) = and_parts (list_all (adjective_all p n) ty.adjectives) (list_all (p n) ty.radix.args) h in
    and_from (list_all (adjective_all q n) ty.adjectives) (list_all (q n) ty.radix.args)
    (list_all-where (adjective_all p n) (adjective_all q n) (λ a k. list_all-where (p n) (q n) f a.args k) ty.adjectives both.0) (list_all-where (p n) (q n) f ty.radix.args both.1)

pub statement_all-where : (p q : ℕ → Term → Bool) (n : ℕ) (s : Statement) → ((m : ℕ) (t : Term) → p m t ≡ true → q m t ≡ true) → statement_all p n s ≡ true → statement_all q n s ≡ true
statement_all-where p q n Truth f h = refl
statement_all-where p q n (Eq t u) f h =
    let both : (p n t ≡ true) × (p n u ≡ true) = and_parts (p n t) (p n u) h in
    and_from (q n t) (q n u) (f n t both.0) (f n u both.1)
statement_all-where p q n (Atom s ts) f h = list_all-where (p n) (q n) (f n) ts h
statement_all-where p q n (Not s) f h = statement_all-where p q n s f h
statement_all-where p q n (And s t) f h =
    let both : (statement_all p n s ≡ true) × (statement_all p n t ≡ true) = and_parts (statement_all p n s) (statement_all p n t) h in
    and_from (statement_all q n s) (statement_all q n t) (statement_all-where p q n s f both.0) (statement_all-where p q n t f both.1)
statement_all-where p q n (For ty s) f h =
    let both : (type_all p n ty ≡ true) × (statement_all p (n + 1) s ≡ true) = and_parts (type_all p n ty) (statement_all p (n + 1) s) h in
    and_from (type_all q n ty) (statement_all q (n + 1) s) (type_all-where p q n ty (f n) both.0) (statement_all-where p q (n + 1) s f both.1)

-- another test
pub type_known-where : (p q : ℕ → Bool) → ((c : ℕ) → p c ≡ true → q c ≡ true) → (n : ℕ) (ty : SoftType) → type_known p n ty ≡ true → type_known q n ty ≡ true
type_known-where p q f n ty h = type_all-where (term_known p) (term_known q) n ty (λ t k. term_known-where p q f n t k) h

pub statement_known-where : (p q : ℕ → Bool) → ((c : ℕ) → p c ≡ true → q c ≡ true) → (n : ℕ) (s : Statement) → statement_known p n s ≡ true → statement_known q n s ≡ true
statement_known-where p q f n s h = statement_all-where (term_known p) (term_known q) n s (λ m t k. term_known-where p q f m t k) h

pub all_known-where : (p q : ℕ → Bool) → ((c : ℕ) → p c ≡ true → q c ≡ true) → (n : ℕ) (ts : List Term) → list_all (term_known p n) ts ≡ true → list_all (term_known q n) ts ≡ true
all_known-where p q f n ts h = list_all-where (term_known p n) (term_known q n) (λ t k. term_known-where p q f n t k) ts h

-- terms for the loci: what stands under the loci alone, at values of known constants
pub term_at_values : (known : ℕ → Bool) (vs : List Term) (n : ℕ) → list_all (term_known known 0) vs ≡ true → length vs ≡ n → (t : Term) → term_under n t ≡ true → term_known known 0 (substitute 0 (value_at vs) t) ≡ true
term_at_values known vs n hv long t h =
    let zero : n ≡ 0 + n = omega arith in
    term_known-substitute known 0 0 n (value_at vs) t (λ k lt. value_known known vs k hv (omega (arith, lt, long))) (known_at known n (0 + n) t zero (term_known-under known n t h))

pub terms_at_values : (known : ℕ → Bool) (vs : List Term) (n : ℕ) → list_all (term_known known 0) vs ≡ true → length vs ≡ n → (ts : List Term) → list_all (term_under n) ts ≡ true → list_all (term_known known 0) (map (substitute 0 (value_at vs)) ts) ≡ true
terms_at_values known vs n hv long ts h = list_all-map_where (term_under n) (term_known known 0) (substitute 0 (value_at vs)) (λ t k. term_at_values known vs n hv long t k) ts h

pub type_at_values : (known : ℕ → Bool) (vs : List Term) (n : ℕ) → list_all (term_known known 0) vs ≡ true → length vs ≡ n → (ty : SoftType) → type_under n ty ≡ true → type_known known 0 (substitute_type 0 (value_at vs) ty) ≡ true
type_at_values known vs n hv long ty h = type_all-with term_under (term_known known) n 0 (substitute 0 (value_at vs)) ty (λ t k. term_at_values known vs n hv long t k) h

pub literal_at_values : (known : ℕ → Bool) (vs : List Term) (n : ℕ) → list_all (term_known known 0) vs ≡ true → length vs ≡ n → (l : Literal) → literal_under n l ≡ true → literal_known known 0 (substitute_literal 0 (value_at vs) l) ≡ true
literal_at_values known vs n hv long (literal.Atom positive s ts) h = terms_at_values known vs n hv long ts h
literal_at_values known vs n hv long (literal.Eq positive t u) h =
    let both : (term_under n t ≡ true) × (term_under n u ≡ true) = and_parts (term_under n t) (term_under n u) h in
    and_from (term_known known 0 (substitute 0 (value_at vs) t)) (term_known known 0 (substitute 0 (value_at vs) u)) (term_at_values known vs n hv long t both.0) (term_at_values known vs n hv long u both.1)

-- arguments for the places of a private functor or predicate
pub term_at_arguments : (known : ℕ → Bool) (ts : List Term) (n : ℕ) → list_all (term_known known 0) ts ≡ true → length ts ≡ n → (t : Term) → term_known known n t ≡ true → term_known known 0 (substitute 0 (argument_at ts) t) ≡ true
term_at_arguments known ts n ht long t h =
    let zero : n ≡ 0 + n = omega arith in
    term_known-substitute known 0 0 n (argument_at ts) t (λ k lt. argument_known known ts k ht (omega (arith, lt, long))) (known_at known n (0 + n) t zero h)

statement_below_binders : (known : ℕ → Bool) (ts : List Term) (n d : ℕ) → list_all (term_known known 0) ts ≡ true → length ts ≡ n → (t : Term) → term_known known (d + n) t ≡ true → term_known known (d + 0) (substitute d (argument_at ts) t) ≡ true
statement_below_binders known ts n d ht long t h = term_known-substitute known d 0 n (argument_at ts) t (λ k lt. argument_known known ts k ht (omega (arith, lt, long))) h

pub statement_at_arguments : (known : ℕ → Bool) (ts : List Term) (n : ℕ) → list_all (term_known known 0) ts ≡ true → length ts ≡ n → (s : Statement) → statement_known known n s ≡ true → statement_known known 0 (substitute_statement 0 (argument_at ts) s) ≡ true
statement_at_arguments known ts n ht long s h =
    let before : n ≡ 0 + n = omega arith in
    let after : 0 + 0 ≡ 0 = omega arith in
    let made : Statement = statement_with (substitutes (argument_at ts)) 0 s in
    let kept : statement_all (term_known known) (0 + 0) made ≡ true =
    statement_all-with (term_known known) (term_known known) (substitutes (argument_at ts)) n 0 0 s (λ d t k. statement_below_binders known ts n d ht long t k) (statement_all-at (term_known known) n (0 + n) s before h) in
    ap (statement_all (term_known known) 0) (substitute_statement-with (argument_at ts) 0 s) ∙ statement_all-at (term_known known) (0 + 0) 0 made after kept

-- a constant made an index
over_binders : (p q : ℕ → Bool) (c d n : ℕ) → ((m : ℕ) → p m ≡ true → nat_eq m c ≡ false → q m ≡ true) → (t : Term) → term_known p (d + n) t ≡ true → term_known q (d + (n + 1)) (term_over c d t) ≡ true
over_binders p q c d n f t h =
    let le : d ≤ d + n = omega arith in
    let sum : d + n + 1 ≡ d + (n + 1) = omega arith in
    let P : ℕ → Type 0 = λ k. term_known q k (term_over c d t) ≡ true in
    subst P sum (term_known-over p q c f d (d + n) t le h)

pub statement_known-over : (p q : ℕ → Bool) (c n : ℕ) → ((m : ℕ) → p m ≡ true → nat_eq m c ≡ false → q m ≡ true) → (s : Statement) → statement_known p n s ≡ true → statement_known q (n + 1) (statement_over c 0 s) ≡ true
statement_known-over p q c n f s h =
    let before : n ≡ 0 + n = omega arith in
    let after : 0 + (n + 1) ≡ n + 1 = omega arith in
    let made : Statement = statement_with (abstracts c) 0 s in
    let kept : statement_all (term_known q) (0 + (n + 1)) made ≡ true =
    statement_all-with (term_known p) (term_known q) (abstracts c) n (n + 1) 0 s (λ d t k. over_binders p q c d n f t k) (statement_all-at (term_known p) n (0 + n) s before h) in
    ap (statement_all (term_known q) (n + 1)) (statement_over-with c 0 s) ∙ statement_all-at (term_known q) (0 + (n + 1)) (n + 1) made after kept
