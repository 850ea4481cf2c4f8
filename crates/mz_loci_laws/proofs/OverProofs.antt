-- What was read with loci has no constant as it stands under them.
use Rattle.std.proofs.Common.{◌≡◌, ◌≤◌, ◌<◌, ◌+◌, ℕ, zero, suc, Bool, true, false, List, refl, sym, ap, ◌∙◌, subst, arith}
use Rattle.std.specs.Prelude.{◌&&◌, nat_le, nat_lt, nat_eq}
use Rattle.std.proofs.lemmas.Bool.{and_parts, and_from, leb-true, le-leb, ltb-true, lt-ltb, eqb-false}
use Rattle.mz_logic.specs.Term.{Term, Terms, Bound, Const, App, none, more}
use Rattle.mz_logic.specs.Abstraction.{term_over}
use Rattle.mz_core.specs.Abstraction.{type_over, statement_over}
use Rattle.mz_core.specs.Closed.{term_under, args_under, type_under, statement_under}
use Rattle.mz_core.specs.Statement.{Statement}
use Rattle.mz_core.specs.declared.soft_type.SoftType.{SoftType}
use Rattle.mz_core.proofs.AllLemmas.{type_all-with}
use Rattle.mz_choice_laws.specs.Known.{term_known, args_known, type_known, statement_known}
use Rattle.mz_choice_laws.proofs.KnownTerms.{term_known-over}
use Rattle.mz_choice_laws.proofs.KnownValues.{type_all-where, statement_all-where, statement_known-over}
use Rattle.mz_loci.specs.Loci.{type_over_loci, statement_over_loci}

-- numbers from the first one on that are below the second one
abbrev pub between : ℕ → ℕ → ℕ → Bool
between lo hi m = nat_le lo m && nat_lt m hi

between_apart : (lo hi m : ℕ) → between lo hi m ≡ true → nat_eq m lo ≡ false → between (lo + 1) hi m ≡ true
between_apart lo hi m h ne =
    let both : (nat_le lo m ≡ true) × (nat_lt m hi ≡ true) = and_parts (nat_le lo m) (nat_lt m hi) h in
    let le : lo ≤ m = leb-true lo m both.0 in
    let apart : m ≡ lo → ⊥ = eqb-false m lo ne in
    and_from (nat_le (lo + 1) m) (nat_lt m hi) (le-leb (lo + 1) m (omega (arith, le, apart))) both.1

type_known-over : (p q : ℕ → Bool) (c n : ℕ) → ((m : ℕ) → p m ≡ true → nat_eq m c ≡ false → q m ≡ true) → (ty : SoftType) → type_known p n ty ≡ true → type_known q (n + 1) (type_over c 0 ty) ≡ true
type_known-over p q c n f ty h = type_all-with (term_known p) (term_known q) n (n + 1) (term_over c 0) ty (λ t k. term_known-over p q c f 0 n t (omega arith) k) h

-- each locus that is made an index is gone
type_known-loci : (lo hi k : ℕ) (ty : SoftType) → type_known (between lo hi) 0 ty ≡ true → type_known (between (lo + k) hi) k (type_over_loci lo k ty) ≡ true
type_known-loci lo hi zero ty h = let e : lo ≡ lo + 0 = omega arith in subst (λ n. type_known (between n hi) 0 ty ≡ true) e h
type_known-loci lo hi (suc k) ty h =
    let there : SoftType = type_over (lo + k) 0 (type_over_loci lo k ty) in
    let step : type_known (between (lo + k + 1) hi) (k + 1) there ≡ true = type_known-over (between (lo + k) hi) (between (lo + k + 1) hi) (lo + k) k (between_apart (lo + k) hi) (type_over_loci lo k ty) (type_known-loci lo hi k ty h) in
    let e : lo + k + 1 ≡ lo + suc k = omega arith in
    let f : k + 1 ≡ suc k = omega arith in
    subst (λ j. type_known (between (lo + suc k) hi) j there ≡ true) f (subst (λ n. type_known (between n hi) (k + 1) there ≡ true) e step)

statement_known-loci : (lo hi k : ℕ) (s : Statement) → statement_known (between lo hi) 0 s ≡ true → statement_known (between (lo + k) hi) k (statement_over_loci lo k s) ≡ true
statement_known-loci lo hi zero s h = let e : lo ≡ lo + 0 = omega arith in subst (λ n. statement_known (between n hi) 0 s ≡ true) e h
statement_known-loci lo hi (suc k) s h =
    let there : Statement = statement_over (lo + k) 0 (statement_over_loci lo k s) in
    let step : statement_known (between (lo + k + 1) hi) (k + 1) there ≡ true = statement_known-over (between (lo + k) hi) (between (lo + k + 1) hi) (lo + k) k (between_apart (lo + k) hi) (statement_over_loci lo k s) (statement_known-loci lo hi k s h) in
    let e : lo + k + 1 ≡ lo + suc k = omega arith in
    let f : k + 1 ≡ suc k = omega arith in
    subst (λ j. statement_known (between (lo + suc k) hi) j there ≡ true) f (subst (λ n. statement_known (between n hi) (k + 1) there ≡ true) e step)

-- where all are gone
mutual
  term_known-none : (known : ℕ → Bool) → ((m : ℕ) → known m ≡ true → ⊥) → (n : ℕ) (t : Term) → term_known known n t ≡ true → term_under n t ≡ true
  term_known-none known f n (Bound index) h = h
  term_known-none known f n (Const number) h = absurd (f number h)
  term_known-none known f n (App s ts) h = args_known-none known f n ts h

  args_known-none : (known : ℕ → Bool) → ((m : ℕ) → known m ≡ true → ⊥) → (n : ℕ) (ts : Terms) → args_known known n ts ≡ true → args_under n ts ≡ true
  args_known-none known f n none h = refl
  args_known-none known f n (more t ts) h =
      let both : (term_known known n t ≡ true) × (args_known known n ts ≡ true) = and_parts (term_known known n t) (args_known known n ts) h in
      and_from (term_under n t) (args_under n ts) (term_known-none known f n t both.0) (args_known-none known f n ts both.1)

none_between : (lo hi : ℕ) → hi ≤ lo → (m : ℕ) → between lo hi m ≡ true → ⊥
none_between lo hi le m h =
    let both : (nat_le lo m ≡ true) × (nat_lt m hi ≡ true) = and_parts (nat_le lo m) (nat_lt m hi) h in
    let a : lo ≤ m = leb-true lo m both.0 in
    let b : m < hi = ltb-true m hi both.1 in
    omega (arith, le, a, b)

pub type_under_loci : (lo hi k : ℕ) (ty : SoftType) → hi ≡ lo + k → type_known (between lo hi) 0 ty ≡ true → type_under k (type_over_loci lo k ty) ≡ true
type_under_loci lo hi k ty e h =
    type_all-where (term_known (between (lo + k) hi)) term_under k (type_over_loci lo k ty) (λ t j. term_known-none (between (lo + k) hi) (none_between (lo + k) hi (omega (arith, e))) k t j) (type_known-loci lo hi k ty h)

pub statement_under_loci : (lo hi k : ℕ) (s : Statement) → hi ≡ lo + k → statement_known (between lo hi) 0 s ≡ true → statement_under k (statement_over_loci lo k s) ≡ true
statement_under_loci lo hi k s e h =
    statement_all-where (term_known (between (lo + k) hi)) term_under k (statement_over_loci lo k s) (λ m t j. term_known-none (between (lo + k) hi) (none_between (lo + k) hi (omega (arith, e))) m t j) (statement_known-loci lo hi k s h)
