-- A statement beyond the limits makes all beyond them in which it stands.
use Rattle.std.proofs.Common.{◌≡◌, ◌≤◌, ◌+◌, ℕ, suc, List, [], ◌∷◌, map, refl, sym as inverse, ap, ◌∙◌, arith, Bool, true, false}
use Rattle.std.proofs.lemmas.Bool.Decides.{nat_tests}
use Rattle.std.specs.Prelude.{◌&&◌, if◌then◌else◌, nat_eq, nat_le, max, Result, Ok, Err}
use Rattle.mz_base.specs.declared.place.Place.{Place}
use Rattle.mz_logic.specs.Term.{Term, Terms, Bound, Const, App, none, more, terms_of}
use Rattle.mz_logic.specs.Abstraction.{term_over, args_over}
use Rattle.mz_ground.specs.Instance.{term_nodes, args_nodes}
use Rattle.mz_core.specs.Abstraction.{adjective_over, type_over, statement_over}
use Rattle.mz_core.specs.Statement.{Statement, Truth, Eq, Atom, Not, And, For}
use Rattle.mz_core.specs.declared.adjective.Adjective.{Adjective}
use Rattle.mz_core.specs.declared.soft_type.SoftType.{SoftType}
use Rattle.mz_names.specs.declared.refusal.Refusal.{Refusal}
use Rattle.mz_names.specs.declared.refusal.Refusal.TheVariants.{TooLarge}
use Rattle.mz_sizes.specs.Sizes.{most_nodes, most_depth, adjective_nodes, adjectives_nodes, type_nodes, statement_nodes, term_depth, args_depth, adjective_depth, adjectives_depth, type_depth, statement_depth, keeps, statement_keeps}
use Rattle.mz_applied.specs.Within.{within}

beyond_more : (a b c d m k : ℕ) → (nat_le a m && nat_le b k) ≡ false → a ≤ c → b ≤ d → (nat_le c m && nat_le d k) ≡ false
beyond_more a b c d m k h p q = grind (arith, nat_tests)

pub keeps_more : (a b c d : ℕ) → keeps a b ≡ false → a ≤ c → b ≤ d → keeps c d ≡ false
keeps_more a b c d h p q = beyond_more a b c d most_nodes most_depth h p q

pub beyond_and : (s t : Statement) → statement_keeps s ≡ false → statement_keeps (And s t) ≡ false
beyond_and s t h = keeps_more (statement_nodes s) (statement_depth s) (statement_nodes (And s t)) (statement_depth (And s t)) h (omega arith) (omega arith)

pub beyond_not : (s : Statement) → statement_keeps s ≡ false → statement_keeps (Not s) ≡ false
beyond_not s h = keeps_more (statement_nodes s) (statement_depth s) (statement_nodes (Not s)) (statement_depth (Not s)) h (omega arith) (omega arith)

pub beyond_for : (ty : SoftType) (s : Statement) → statement_keeps s ≡ false → statement_keeps (For ty s) ≡ false
beyond_for ty s h = keeps_more (statement_nodes s) (statement_depth s) (statement_nodes (For ty s)) (statement_depth (For ty s)) h (omega arith) (omega arith)

ap2 : {X Y Z : Type 0} (f : X → Y → Z) {a b : X} {c d : Y} → a ≡ b → c ≡ d → f a c ≡ f b d
ap2 f {a} {b} {c} {d} e g = ap (λ x. f x c) e ∙ ap (λ y. f b y) g

-- the way back to indices keeps sizes
either_nodes : (b : Bool) (d k : ℕ) → term_nodes (if b then Bound d else Const k) ≡ 1
either_nodes true d k = refl
either_nodes false d k = refl

either_depth : (b : Bool) (d k : ℕ) → term_depth (if b then Bound d else Const k) ≡ 1
either_depth true d k = refl
either_depth false d k = refl

mutual
  term_nodes-over : (c d : ℕ) (t : Term) → term_nodes (term_over c d t) ≡ term_nodes t
  term_nodes-over c d (Bound i) = refl
  term_nodes-over c d (Const k) = either_nodes (nat_eq k c) d k
  term_nodes-over c d (App s ts) = ap suc (args_nodes-over c d ts)

  args_nodes-over : (c d : ℕ) (ts : Terms) → args_nodes (args_over c d ts) ≡ args_nodes ts
  args_nodes-over c d none = refl
  args_nodes-over c d (more t ts) = omega (arith, term_nodes-over c d t, args_nodes-over c d ts)

list_nodes-over : (c d : ℕ) (ts : List Term) → args_nodes (terms_of (map (term_over c d) ts)) ≡ args_nodes (terms_of ts)
list_nodes-over c d [] = refl
list_nodes-over c d (t ∷ ts) = omega (arith, term_nodes-over c d t, list_nodes-over c d ts)

adjectives_nodes-over : (c d : ℕ) (xs : List Adjective) → adjectives_nodes (map (adjective_over c d) xs) ≡ adjectives_nodes xs
adjectives_nodes-over c d [] = refl
adjectives_nodes-over c d (x ∷ xs) = omega (arith, list_nodes-over c d x.args, adjectives_nodes-over c d xs)

type_nodes-over : (c d : ℕ) (ty : SoftType) → type_nodes (type_over c d ty) ≡ type_nodes ty
type_nodes-over c d ty = omega (arith, list_nodes-over c d ty.radix.args, adjectives_nodes-over c d ty.adjectives)

statement_nodes-over : (c d : ℕ) (s : Statement) → statement_nodes (statement_over c d s) ≡ statement_nodes s
statement_nodes-over c d Truth = refl
statement_nodes-over c d (Eq t u) = omega (arith, term_nodes-over c d t, term_nodes-over c d u)
statement_nodes-over c d (Atom s ts) = ap suc (list_nodes-over c d ts)
statement_nodes-over c d (Not s) = ap suc (statement_nodes-over c d s)
statement_nodes-over c d (And s t) = omega (arith, statement_nodes-over c d s, statement_nodes-over c d t)
statement_nodes-over c d (For ty s) = omega (arith, type_nodes-over c d ty, statement_nodes-over c (d + 1) s)

mutual
  term_depth-over : (c d : ℕ) (t : Term) → term_depth (term_over c d t) ≡ term_depth t
  term_depth-over c d (Bound i) = refl
  term_depth-over c d (Const k) = either_depth (nat_eq k c) d k
  term_depth-over c d (App s ts) = ap suc (args_depth-over c d ts)

  args_depth-over : (c d : ℕ) (ts : Terms) → args_depth (args_over c d ts) ≡ args_depth ts
  args_depth-over c d none = refl
  args_depth-over c d (more t ts) = ap2 max (term_depth-over c d t) (args_depth-over c d ts)

list_depth-over : (c d : ℕ) (ts : List Term) → args_depth (terms_of (map (term_over c d) ts)) ≡ args_depth (terms_of ts)
list_depth-over c d [] = refl
list_depth-over c d (t ∷ ts) = ap2 max (term_depth-over c d t) (list_depth-over c d ts)

adjectives_depth-over : (c d : ℕ) (xs : List Adjective) → adjectives_depth (map (adjective_over c d) xs) ≡ adjectives_depth xs
adjectives_depth-over c d [] = refl
adjectives_depth-over c d (x ∷ xs) = ap2 max (ap suc (list_depth-over c d x.args)) (adjectives_depth-over c d xs)

type_depth-over : (c d : ℕ) (ty : SoftType) → type_depth (type_over c d ty) ≡ type_depth ty
type_depth-over c d ty = ap2 max (ap suc (list_depth-over c d ty.radix.args)) (adjectives_depth-over c d ty.adjectives)

statement_depth-over : (c d : ℕ) (s : Statement) → statement_depth (statement_over c d s) ≡ statement_depth s
statement_depth-over c d Truth = refl
statement_depth-over c d (Eq t u) = ap suc (ap2 max (term_depth-over c d t) (term_depth-over c d u))
statement_depth-over c d (Atom s ts) = ap suc (list_depth-over c d ts)
statement_depth-over c d (Not s) = ap suc (statement_depth-over c d s)
statement_depth-over c d (And s t) = ap suc (ap2 max (statement_depth-over c d s) (statement_depth-over c d t))
statement_depth-over c d (For ty s) = ap suc (ap2 max (type_depth-over c d ty) (statement_depth-over c (d + 1) s))

pub statement_keeps-over : (c d : ℕ) (s : Statement) → statement_keeps (statement_over c d s) ≡ statement_keeps s
statement_keeps-over c d s = ap2 keeps (statement_nodes-over c d s) (statement_depth-over c d s)

-- what is within the limits, and what is not
kept_at : (b : Bool) (first : Place) (s t : Statement) → (if b then Ok s else Err (TooLarge first)) ≡ Ok t → t ≡ s
kept_at true first s t h = cc
kept_at false first s t h = cc

beyond_at : (b : Bool) (first : Place) (s : Statement) (r : Refusal) → (if b then Ok s else Err (TooLarge first)) ≡ Err r → b ≡ false
beyond_at true first s r h = cc
beyond_at false first s r h = refl

refused_at : (b : Bool) (first : Place) (s : Statement) (r : Refusal) → (if b then Ok s else Err (TooLarge first)) ≡ Err r → r ≡ TooLarge first
refused_at true first s r h = cc
refused_at false first s r h = cc

pub within_kept : (first : Place) (s t : Statement) → within statement_keeps first s ≡ Ok t → t ≡ s
within_kept first s t h = kept_at (statement_keeps s) first s t h

pub within_beyond : (first : Place) (s : Statement) (r : Refusal) → within statement_keeps first s ≡ Err r → statement_keeps s ≡ false
within_beyond first s r h = beyond_at (statement_keeps s) first s r h

pub within_refused : (first : Place) (s : Statement) (r : Refusal) → within statement_keeps first s ≡ Err r → r ≡ TooLarge first
within_refused first s r h = refused_at (statement_keeps s) first s r h

pub refused_within : (first : Place) (s : Statement) → statement_keeps s ≡ false → within statement_keeps first s ≡ Err (TooLarge first)
refused_within first s h = ap (λ b. if b then Ok s else Err (TooLarge first)) h
