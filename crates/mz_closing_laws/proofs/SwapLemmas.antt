-- Two constants made indices: the order is no difference.
use Rattle.std.proofs.Common.{◌≡◌, ◌≤◌, ◌<◌, ℕ, zero, suc, ◌+◌, List, [], ◌∷◌, map, length, refl, sym, ap, ◌∙◌, subst, arith, Bool, true, false}
use Rattle.std.specs.Prelude.{nat_eq, if◌then◌else◌}
use Rattle.std.proofs.lemmas.Bool.{ne_eqb, eqb-true, eq-eqb, true≢false}
use Rattle.mz_logic.specs.Term.{Term, Terms, Bound, Const, App, none, more}
use Rattle.mz_logic.specs.Abstraction.{term_over, args_over}
use Rattle.mz_logic.proofs.BoolLemmas.{if-true, if-false}
use Rattle.mz_logic.proofs.ShiftLaws.{shift-inside, shift-outside, shift-swap}
use Rattle.mz_core.specs.Statement.{Statement, Truth, Eq, Atom, Not, And, For}
use Rattle.mz_core.specs.Abstraction.{adjective_over, radix_over, type_over, statement_over}
use Rattle.mz_core.specs.declared.adjective.Adjective.{Adjective}
use Rattle.mz_core.specs.declared.soft_type.SoftType.{SoftType}

-- constants
both_equal : (a b m : ℕ) → nat_eq m b ≡ true → nat_eq m a ≡ true → nat_eq a b ≡ false → ⊥
both_equal a b m h k n = true≢false (sym (eq-eqb a b (sym (eqb-true m a k) ∙ eqb-true m b h)) ∙ n)

constant_swap : (a b d e m : ℕ) (p q : Bool) → nat_eq m b ≡ p → nat_eq m a ≡ q → nat_eq a b ≡ false → e ≤ d →
    term_over a (d + 1) (if p then Bound e else Const m) ≡ term_over b e (if q then Bound d else Const m)
constant_swap a b d e m true true h k n le = absurd (both_equal a b m h k n)
constant_swap a b d e m true false h k n le =
    let lt : e < d + 1 = omega (arith, le) in
    shift-inside (d + 1) 1 e lt ∙ sym (if-true (nat_eq m b) (Bound e) (Const m) h)
constant_swap a b d e m false true h k n le =
    if-true (nat_eq m a) (Bound (d + 1)) (Const m) k ∙ sym (shift-outside e 1 d le)
constant_swap a b d e m false false h k n le =
    if-false (nat_eq m a) (Bound (d + 1)) (Const m) k ∙ sym (if-false (nat_eq m b) (Bound e) (Const m) h)

-- terms
mutual
  pub term_over-swap : (a b d e : ℕ) (t : Term) → nat_eq a b ≡ false → e ≤ d → term_over a (d + 1) (term_over b e t) ≡ term_over b e (term_over a d t)
  term_over-swap a b d e (Bound index) n le = shift-swap e 1 d 1 (Bound index) le
  term_over-swap a b d e (Const m) n le = constant_swap a b d e m (nat_eq m b) (nat_eq m a) refl refl n le
  term_over-swap a b d e (App s ts) n le = ap (λ us. App s us) (args_over-swap a b d e ts n le)

  pub args_over-swap : (a b d e : ℕ) (ts : Terms) → nat_eq a b ≡ false → e ≤ d → args_over a (d + 1) (args_over b e ts) ≡ args_over b e (args_over a d ts)
  args_over-swap a b d e none n le = refl
  args_over-swap a b d e (more t ts) n le = λ i. more (term_over-swap a b d e t n le i) (args_over-swap a b d e ts n le i)

list_over-swap : (a b d e : ℕ) (ts : List Term) → nat_eq a b ≡ false → e ≤ d → map (term_over a (d + 1)) (map (term_over b e) ts) ≡ map (term_over b e) (map (term_over a d) ts)
list_over-swap a b d e [] n le = refl
list_over-swap a b d e (t ∷ ts) n le = λ i. term_over-swap a b d e t n le i ∷ list_over-swap a b d e ts n le i

-- types
adjective_over-swap : (a b d e : ℕ) (x : Adjective) → nat_eq a b ≡ false → e ≤ d → adjective_over a (d + 1) (adjective_over b e x) ≡ adjective_over b e (adjective_over a d x)
adjective_over-swap a b d e x n le = ap (λ (ts : List Term). record { positive = x.positive; sym = x.sym; args = ts }) (list_over-swap a b d e x.args n le)

adjectives_over-swap : (a b d e : ℕ) (xs : List Adjective) → nat_eq a b ≡ false → e ≤ d → map (adjective_over a (d + 1)) (map (adjective_over b e) xs) ≡ map (adjective_over b e) (map (adjective_over a d) xs)
adjectives_over-swap a b d e [] n le = refl
adjectives_over-swap a b d e (x ∷ xs) n le = λ i. adjective_over-swap a b d e x n le i ∷ adjectives_over-swap a b d e xs n le i

pub type_over-swap : (a b d e : ℕ) (ty : SoftType) → nat_eq a b ≡ false → e ≤ d → type_over a (d + 1) (type_over b e ty) ≡ type_over b e (type_over a d ty)
type_over-swap a b d e ty n le =
    λ i. record { adjectives = adjectives_over-swap a b d e ty.adjectives n le i; radix = record { sym = ty.radix.sym; args = list_over-swap a b d e ty.radix.args n le i } }

-- statements
pub statement_over-swap : (a b d e : ℕ) (s : Statement) → nat_eq a b ≡ false → e ≤ d → statement_over a (d + 1) (statement_over b e s) ≡ statement_over b e (statement_over a d s)
statement_over-swap a b d e Truth n le = refl
statement_over-swap a b d e (Eq t u) n le = λ i. Eq (term_over-swap a b d e t n le i) (term_over-swap a b d e u n le i)
statement_over-swap a b d e (Atom s ts) n le = ap (λ us. Atom s us) (list_over-swap a b d e ts n le)
statement_over-swap a b d e (Not s) n le = ap Not (statement_over-swap a b d e s n le)
statement_over-swap a b d e (And s t) n le = λ i. And (statement_over-swap a b d e s n le i) (statement_over-swap a b d e t n le i)
statement_over-swap a b d e (For ty s) n le =
    let up : e + 1 ≤ d + 1 = omega (arith, le) in
    λ i. For (type_over-swap a b d e ty n le i) (statement_over-swap a b (d + 1) (e + 1) s n up i)
