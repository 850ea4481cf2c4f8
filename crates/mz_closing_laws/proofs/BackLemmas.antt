-- Constants that were put for indices, made indices again.
use Rattle.std.proofs.Common.{◌≡◌, ◌≤◌, ◌<◌, ℕ, zero, suc, ◌+◌, ◌-◌, List, [], ◌∷◌, map, length, refl, sym, ap, ◌∙◌, subst, arith, Bool, true, false, inl, inr}
use Rattle.std.specs.Prelude.{nat_eq, nat_lt, if◌then◌else◌}
use Rattle.std.specs.List.{list_all}
use Rattle.std.proofs.lemmas.Bool.{ne_eqb, eq-eqb, ltb-true, and_parts, cases_lt, true≢false}
use Rattle.mz_logic.specs.Term.{Term, Terms, Bound, Const, App, none, more, terms_of}
use Rattle.mz_logic.specs.declared.sym.Sym.{Sym}
use Rattle.mz_logic.specs.Abstraction.{term_over, args_over}
use Rattle.mz_logic.specs.Substitution.{substitute, substitute_args, value_at, shift}
use Rattle.mz_logic.proofs.BoolLemmas.{if-true, if-false}
use Rattle.mz_logic.proofs.ShiftLaws.{shift-inside, shift-outside}
use Rattle.mz_logic.proofs.SubstitutionLaws.{substitute-inside, substitute-outside}
use Rattle.mz_core.specs.Closed.{term_under, args_under, adjective_under, type_under, statement_under}
use Rattle.mz_core.specs.Everywhere.{adjective_all, type_all, statement_all}
use Rattle.mz_core.specs.Statement.{Statement, Truth, Eq, Atom, Not, And, For}
use Rattle.mz_core.specs.Abstraction.{statement_over}
use Rattle.mz_core.specs.TypeSubstitution.{substitute_statement}
use Rattle.mz_core.specs.declared.adjective.Adjective.{Adjective}
use Rattle.mz_core.specs.declared.soft_type.SoftType.{SoftType}
use Rattle.mz_core.proofs.AllLemmas.{statement_all-at}
use Rattle.mz_core.proofs.MapInstances.{substitutes, abstracts, substitute_statement-with, statement_over-with}
use Rattle.mz_core.proofs.TermMaps.{adjective_with, radix_with, type_with, statement_with}
use Rattle.mz_loci.specs.Loci.{statement_over_loci, locus_constants, statement_at_loci}

-- constants made indices one by one, under d binders
abbrev pub each_over : ℕ → ℕ → ℕ → Term → Term
each_over least zero d t = t
each_over least (suc k) d t = term_over (least + k) d (each_over least k d t)

abbrev args_each : ℕ → ℕ → ℕ → Terms → Terms
args_each least zero d ts = ts
args_each least (suc k) d ts = args_over (least + k) d (args_each least k d ts)

each-app : (least k d : ℕ) (s : Sym) (ts : Terms) → each_over least k d (App s ts) ≡ App s (args_each least k d ts)
each-app least zero d s ts = refl
each-app least (suc k) d s ts = ap (term_over (least + k) d) (each-app least k d s ts)

args_each-none : (least k d : ℕ) → args_each least k d none ≡ none
args_each-none least zero d = refl
args_each-none least (suc k) d = ap (args_over (least + k) d) (args_each-none least k d)

args_each-more : (least k d : ℕ) (t : Term) (ts : Terms) → args_each least k d (more t ts) ≡ more (each_over least k d t) (args_each least k d ts)
args_each-more least zero d t ts = refl
args_each-more least (suc k) d t ts = ap (args_over (least + k) d) (args_each-more least k d t ts)

-- an index that is bound inside stays
each-inside : (least k d index : ℕ) → index < d → each_over least k d (Bound index) ≡ Bound index
each-inside least zero d index lt = refl
each-inside least (suc k) d index lt = ap (term_over (least + k) d) (each-inside least k d index lt) ∙ shift-inside d 1 index lt

-- a constant further on stays, and one of these becomes its index
each-ahead : (least k d j : ℕ) → k ≤ j → each_over least k d (Const (least + j)) ≡ Const (least + j)
each-ahead least zero d j le = refl
each-ahead least (suc k) d j le =
    let apart : (least + j) ≡ (least + k) → ⊥ = λ e. omega (arith, le, e) in
    ap (term_over (least + k) d) (each-ahead least k d j (omega (arith, le))) ∙ if-false (nat_eq (least + j) (least + k)) (Bound d) (Const (least + j)) (ne_eqb (least + j) (least + k) apart)

each-constant : (least k d j : ℕ) → j < k → each_over least k d (Const (least + j)) ≡ Bound (d + (k - 1 - j))
each-constant least zero d j lt = absurd (omega (arith, lt))
each-constant least (suc k) d j lt = elim (cases_lt j k) [
  | inl before ↦
      let le : d ≤ d + (k - 1 - j) = omega arith in
      let up : (d + (k - 1 - j)) + 1 ≡ d + (suc k - 1 - j) = omega (arith, before) in
      ap (term_over (least + k) d) (each-constant least k d j before) ∙ (shift-outside d 1 (d + (k - 1 - j)) le ∙ ap Bound up)
  | inr after ↦
      let is : j ≡ k = omega (arith, lt, after) in
      let here : least + j ≡ least + k = ap (λ m. least + m) is in
      let place : d ≡ d + (suc k - 1 - j) = omega (arith, is) in
      ap (term_over (least + k) d) (each-ahead least k d j after) ∙ (if-true (nat_eq (least + j) (least + k)) (Bound d) (Const (least + j)) (eq-eqb (least + j) (least + k) here) ∙ ap Bound place)
]

-- the values
value-locus : (least n j : ℕ) → j < n → value_at (locus_constants least n) j ≡ Const (least + (n - 1 - j))
value-locus least zero j lt = absurd (omega (arith, lt))
value-locus least (suc n) zero lt = let same : least + n ≡ least + (suc n - 1 - 0) = omega arith in ap Const same
value-locus least (suc n) (suc j) lt =
    let same : least + (n - 1 - j) ≡ least + (suc n - 1 - suc j) = omega (arith, lt) in
    value-locus least n j (omega (arith, lt)) ∙ ap Const same

-- terms
index-back : (least n d index : ℕ) → index < d + n → each_over least n d (substitute d (value_at (locus_constants least n)) (Bound index)) ≡ Bound index
index-back least n d index lt = elim (cases_lt index d) [
  | inl inside ↦
      ap (each_over least n d) (substitute-inside d (value_at (locus_constants least n)) index inside) ∙ each-inside least n d index inside
  | inr outside ↦
      let within : index - d < n = omega (arith, lt, outside) in
      let small : n - 1 - (index - d) < n = omega (arith, within) in
      let place : d + (n - 1 - (n - 1 - (index - d))) ≡ index = omega (arith, within, outside) in
      ap (each_over least n d) (substitute-outside d (value_at (locus_constants least n)) index outside ∙ ap (shift 0 d) (value-locus least n (index - d) within)) ∙
      (each-constant least n d (n - 1 - (index - d)) small ∙ ap Bound place)
]

mutual
  term-back : (least n d : ℕ) (t : Term) → term_under (d + n) t ≡ true → each_over least n d (substitute d (value_at (locus_constants least n)) t) ≡ t
  term-back least n d (Bound index) h = index-back least n d index (ltb-true index (d + n) h)
  term-back least n d (Const number) h = absurd (true≢false (sym h))
  term-back least n d (App s ts) h = each-app least n d s (substitute_args d (value_at (locus_constants least n)) ts) ∙ ap (λ us. App s us) (args-back least n d ts h)

  args-back : (least n d : ℕ) (ts : Terms) → args_under (d + n) ts ≡ true → args_each least n d (substitute_args d (value_at (locus_constants least n)) ts) ≡ ts
  args-back least n d none h = args_each-none least n d
  args-back least n d (more t ts) h =
      let p : (term_under (d + n) t ≡ true) × (args_under (d + n) ts ≡ true) = and_parts (term_under (d + n) t) (args_under (d + n) ts) h in
      args_each-more least n d (substitute d (value_at (locus_constants least n)) t) (substitute_args d (value_at (locus_constants least n)) ts) ∙
      (λ i. more (term-back least n d t p.0 i) (args-back least n d ts p.1 i))

-- two functions of terms, one after the other
list_with-after : (g h : Term → Term) (ts : List Term) → map g (map h ts) ≡ map (λ t. g (h t)) ts
list_with-after g h [] = refl
list_with-after g h (t ∷ ts) = ap (λ us. g (h t) ∷ us) (list_with-after g h ts)

adjectives_with-after : (g h : Term → Term) (xs : List Adjective) → map (adjective_with g) (map (adjective_with h) xs) ≡ map (adjective_with (λ t. g (h t))) xs
adjectives_with-after g h [] = refl
adjectives_with-after g h (x ∷ xs) =
    λ i. record { positive = x.positive; sym = x.sym; args = list_with-after g h x.args i } ∷ adjectives_with-after g h xs i

type_with-after : (g h : Term → Term) (ty : SoftType) → type_with g (type_with h ty) ≡ type_with (λ t. g (h t)) ty
type_with-after g h ty =
    λ i. record { adjectives = adjectives_with-after g h ty.adjectives i; radix = record { sym = ty.radix.sym; args = list_with-after g h ty.radix.args i } }

statement_with-after : (g h : ℕ → Term → Term) (d : ℕ) (s : Statement) → statement_with g d (statement_with h d s) ≡ statement_with (λ e t. g e (h e t)) d s
statement_with-after g h d Truth = refl
statement_with-after g h d (Eq t u) = refl
statement_with-after g h d (Atom s ts) = ap (λ us. Atom s us) (list_with-after (g d) (h d) ts)
statement_with-after g h d (Not s) = ap Not (statement_with-after g h d s)
statement_with-after g h d (And s t) = λ i. And (statement_with-after g h d s i) (statement_with-after g h d t i)
statement_with-after g h d (For ty s) = λ i. For (type_with-after (g d) (h d) ty i) (statement_with-after g h (d + 1) s i)

-- nothing done
abbrev same_term : ℕ → Term → Term
same_term d t = t

list_with-same : (ts : List Term) → map (same_term 0) ts ≡ ts
list_with-same [] = refl
list_with-same (t ∷ ts) = ap (λ us. t ∷ us) (list_with-same ts)

adjectives_with-same : (xs : List Adjective) → map (adjective_with (same_term 0)) xs ≡ xs
adjectives_with-same [] = refl
adjectives_with-same (x ∷ xs) = λ i. record { positive = x.positive; sym = x.sym; args = list_with-same x.args i } ∷ adjectives_with-same xs i

type_with-same : (ty : SoftType) → type_with (same_term 0) ty ≡ ty
type_with-same ty = λ i. record { adjectives = adjectives_with-same ty.adjectives i; radix = record { sym = ty.radix.sym; args = list_with-same ty.radix.args i } }

statement_with-same : (d : ℕ) (s : Statement) → statement_with same_term d s ≡ s
statement_with-same d Truth = refl
statement_with-same d (Eq t u) = refl
statement_with-same d (Atom s ts) = ap (λ us. Atom s us) (list_with-same ts)
statement_with-same d (Not s) = ap Not (statement_with-same d s)
statement_with-same d (And s t) = λ i. And (statement_with-same d s i) (statement_with-same d t i)
statement_with-same d (For ty s) = λ i. For (type_with-same ty i) (statement_with-same (d + 1) s i)

-- constants made indices in a statement
abbrev eaches : ℕ → ℕ → ℕ → Term → Term
eaches least k d t = each_over least k d t

statement_over_loci-with : (least k : ℕ) (s : Statement) → statement_over_loci least k s ≡ statement_with (eaches least k) 0 s
statement_over_loci-with least zero s = sym (statement_with-same 0 s)
statement_over_loci-with least (suc k) s =
    ap (statement_over (least + k) 0) (statement_over_loci-with least k s) ∙
    (statement_over-with (least + k) 0 (statement_with (eaches least k) 0 s) ∙ statement_with-after (abstracts (least + k)) (eaches least k) 0 s)

-- one function takes back what the other did
list_with-back : (g h : Term → Term) (p : Term → Bool) → ((t : Term) → p t ≡ true → g (h t) ≡ t) → (ts : List Term) → list_all p ts ≡ true → map g (map h ts) ≡ ts
list_with-back g h p f [] k = refl
list_with-back g h p f (t ∷ ts) k =
    let both : (p t ≡ true) × (list_all p ts ≡ true) = and_parts (p t) (list_all p ts) k in
    λ i. f t both.0 i ∷ list_with-back g h p f ts both.1 i

adjectives_with-back : (g h : Term → Term) (p : ℕ → Term → Bool) (n : ℕ) → ((t : Term) → p n t ≡ true → g (h t) ≡ t) → (xs : List Adjective) → list_all (adjective_all p n) xs ≡ true → map (adjective_with g) (map (adjective_with h) xs) ≡ xs
adjectives_with-back g h p n f [] k = refl
adjectives_with-back g h p n f (x ∷ xs) k =
    let both : (adjective_all p n x ≡ true) × (list_all (adjective_all p n) xs ≡ true) = and_parts (adjective_all p n x) (list_all (adjective_all p n) xs) k in
    λ i. record { positive = x.positive; sym = x.sym; args = list_with-back g h (p n) f x.args both.0 i } ∷ adjectives_with-back g h p n f xs both.1 i

type_with-back : (g h : Term → Term) (p : ℕ → Term → Bool) (n : ℕ) → ((t : Term) → p n t ≡ true → g (h t) ≡ t) → (ty : SoftType) → type_all p n ty ≡ true → type_with g (type_with h ty) ≡ ty
type_with-back g h p n f ty k =
    let both : (list_all (adjective_all p n) ty.adjectives ≡ true) × (list_all (p n) ty.radix.args ≡ true) = and_parts (list_all (adjective_all p n) ty.adjectives) (list_all (p n) ty.radix.args) k in
    λ i. record { adjectives = adjectives_with-back g h p n f ty.adjectives both.0 i; radix = record { sym = ty.radix.sym; args = list_with-back g h (p n) f ty.radix.args both.1 i } }

statement_with-back : (g h : ℕ → Term → Term) (p : ℕ → Term → Bool) (n : ℕ) → ((d : ℕ) (t : Term) → p (d + n) t ≡ true → g d (h d t) ≡ t) → (d : ℕ) (s : Statement) → statement_all p (d + n) s ≡ true → statement_with g d (statement_with h d s) ≡ s
statement_with-back g h p n f d Truth k = refl
statement_with-back g h p n f d (Eq t u) k =
    let both : (p (d + n) t ≡ true) × (p (d + n) u ≡ true) = and_parts (p (d + n) t) (p (d + n) u) k in
    λ i. Eq (f d t both.0 i) (f d u both.1 i)
statement_with-back g h p n f d (Atom s ts) k = ap (λ us. Atom s us) (list_with-back (g d) (h d) (p (d + n)) (f d) ts k)
statement_with-back g h p n f d (Not s) k = ap Not (statement_with-back g h p n f d s k)
statement_with-back g h p n f d (And s t) k =
    let both : (statement_all p (d + n) s ≡ true) × (statement_all p (d + n) t ≡ true) = and_parts (statement_all p (d + n) s) (statement_all p (d + n) t) k in
    λ i. And (statement_with-back g h p n f d s both.0 i) (statement_with-back g h p n f d t both.1 i)
statement_with-back g h p n f d (For ty s) k =
    let both : (type_all p (d + n) ty ≡ true) × (statement_all p (d + n + 1) s ≡ true) = and_parts (type_all p (d + n) ty) (statement_all p (d + n + 1) s) k in
    let up : d + n + 1 ≡ (d + 1) + n = omega arith in
    λ i. For (type_with-back (g d) (h d) p (d + n) (f d) ty both.0 i) (statement_with-back g h p n f (d + 1) s (statement_all-at p (d + n + 1) ((d + 1) + n) s up both.1) i)

-- a statement under loci, at these, under them again
pub statement-back : (least n : ℕ) (s : Statement) → statement_under n s ≡ true → statement_over_loci least n (statement_at_loci least n s) ≡ s
statement-back least n s h =
    let v : ℕ → Term = value_at (locus_constants least n) in
    let zero_on : n ≡ 0 + n = omega arith in
    statement_over_loci-with least n (statement_at_loci least n s) ∙
    (ap (statement_with (eaches least n) 0) (substitute_statement-with v 0 s) ∙
    statement_with-back (eaches least n) (substitutes v) term_under n (term-back least n) 0 s (statement_all-at term_under n (0 + n) s zero_on h))
