-- Depths within a number.
use Rattle.std.proofs.lemmas.Bool.{le-leb, lt-leb, leb-true, leb-false, and_parts}
use Rattle.std.proofs.Math.Nat.{le-max_left, le-max_right, max-le}
use Rattle.std.proofs.Common.{◌≡◌, ◌<◌, ◌-◌, ◌+◌, add-one, ℕ, zero, suc, List, [], ◌∷◌, length, take, get_or, refl, sym, ap, ◌∙◌, arith, Bool, true, false}
use Rattle.std.specs.Prelude.{◌&&◌, nat_le, max}
use Rattle.mz_logic.specs.Term.{Term, Bound, Const, App, terms_of}
use Rattle.mz_core.specs.Statement.{Statement, Truth, Eq, Atom, Not, And, For}
use Rattle.mz_core.specs.declared.adjective.Adjective.{Adjective}
use Rattle.mz_sizes.specs.Sizes.{term_depth, args_depth, adjective_depth, adjectives_depth, type_depth, statement_depth}

le_of_suc : (d m : ℕ) → nat_le (suc d) (suc m) ≡ nat_le d m
le_of_suc d m = elim (nat_le d m) as (λ t. nat_le d m ≡ t → nat_le (suc d) (suc m) ≡ t) [
  | true ↦ (λ e. le-leb (suc d) (suc m) (omega (arith, leb-true d m e)))
  | false ↦ (λ e. lt-leb (suc d) (suc m) (omega (arith, leb-false d m e)))
] refl

pub le_of_max : (a b n : ℕ) → nat_le (max a b) n ≡ (nat_le a n && nat_le b n)
le_of_max a b n = elim (nat_le a n) as (λ t. nat_le a n ≡ t → nat_le (max a b) n ≡ (t && nat_le b n)) [
  | true ↦ (λ e. second e)
  | false ↦ (λ e. lt-leb (max a b) n (omega (arith, leb-false a n e, le-max_left a b)))
] refl
  where
    second : nat_le a n ≡ true → nat_le (max a b) n ≡ nat_le b n
    second e = elim (nat_le b n) as (λ u. nat_le b n ≡ u → nat_le (max a b) n ≡ u) [
      | true ↦ (λ f. le-leb (max a b) n (max-le (leb-true a n e) (leb-true b n f)))
      | false ↦ (λ f. lt-leb (max a b) n (omega (arith, leb-false b n f, le-max_right a b)))
    ] refl

pub told_zero : (d n : ℕ) → n ≡ 0 → false ≡ nat_le (suc d) n
told_zero d n e = sym (lt-leb (suc d) n (omega (arith, e)))

pub told_one : (n : ℕ) → (n ≡ 0 → ⊥) → true ≡ nat_le 1 n
told_one zero h = absurd (h refl)
told_one (suc n) h = sym (le-leb 1 (suc n) (omega arith))

pub told_inside : (d n : ℕ) (b : Bool) → (n ≡ 0 → ⊥) → b ≡ nat_le d (n - 1) → b ≡ nat_le (suc d) n
told_inside d zero b h e = absurd (h refl)
told_inside d (suc n) b h e = e ∙ ap (nat_le d) (omega arith) ∙ sym (le_of_suc d n)

pub deep_term : (t : Term) (n : ℕ) → n ≡ 0 → false ≡ nat_le (term_depth t) n
deep_term (Bound index) n e = told_zero 0 n e
deep_term (Const number) n e = told_zero 0 n e
deep_term (App s ts) n e = told_zero (args_depth ts) n e

pub deep_statement : (s : Statement) (n : ℕ) → n ≡ 0 → false ≡ nat_le (statement_depth s) n
deep_statement Truth n e = told_zero 0 n e
deep_statement (Eq t u) n e = told_zero (max (term_depth t) (term_depth u)) n e
deep_statement (Atom s ts) n e = told_zero (args_depth (terms_of ts)) n e
deep_statement (Not s) n e = told_zero (statement_depth s) n e
deep_statement (And s t) n e = told_zero (max (statement_depth s) (statement_depth t)) n e
deep_statement (For ty s) n e = told_zero (max (type_depth ty) (statement_depth s)) n e

-- lists, by what stands before a place
deep_term_at : (xs : List Term) (i : ℕ) (x : Term) (n : ℕ) → i < length xs → x ≡ get_or xs i x → false ≡ nat_le (term_depth x) n → false ≡ nat_le (args_depth (terms_of xs)) n
deep_term_at [] i x n lt e h = absurd (omega (arith, lt))
deep_term_at (y ∷ ys) zero x n lt e h = sym (le_of_max (term_depth y) (args_depth (terms_of ys)) n ∙ ap (λ c. c && nat_le (args_depth (terms_of ys)) n) (ap (λ z. nat_le (term_depth z) n) (sym e) ∙ sym h))
deep_term_at (y ∷ ys) (suc i) x n lt e h = sym (le_of_max (term_depth y) (args_depth (terms_of ys)) n ∙ ap (λ c. nat_le (term_depth y) n && c) (sym (deep_term_at ys i x n (omega (arith, lt)) e h)) ∙ no_and (nat_le (term_depth y) n))
  where
    no_and : (b : Bool) → (b && false) ≡ false
    no_and true = refl
    no_and false = refl

last_term : (xs : List Term) (i : ℕ) (x : Term) (n : ℕ) → i < length xs → x ≡ get_or xs i x → true ≡ nat_le (args_depth (terms_of (take i xs))) n → true ≡ nat_le (term_depth x) n → true ≡ nat_le (args_depth (terms_of (take (suc i) xs))) n
last_term [] i x n lt e h k = absurd (omega (arith, lt))
last_term (y ∷ ys) zero x n lt e h k = sym (le_of_max (term_depth y) 0 n ∙ ap (λ c. c && nat_le 0 n) (ap (λ z. nat_le (term_depth z) n) (sym e) ∙ sym k) ∙ le-leb 0 n (omega arith))
last_term (y ∷ ys) (suc i) x n lt e h k =
    let both : (nat_le (term_depth y) n ≡ true) × (nat_le (args_depth (terms_of (take i ys))) n ≡ true) = and_parts (nat_le (term_depth y) n) (nat_le (args_depth (terms_of (take i ys))) n) (sym (le_of_max (term_depth y) (args_depth (terms_of (take i ys))) n) ∙ sym h) in
    sym (le_of_max (term_depth y) (args_depth (terms_of (take (suc i) ys))) n ∙ ap (λ c. c && nat_le (args_depth (terms_of (take (suc i) ys))) n) both.0 ∙ sym (last_term ys i x n (omega (arith, lt)) e (sym both.1) k))

pub told_no_terms : (n : ℕ) → true ≡ nat_le 0 n
told_no_terms n = sym (le-leb 0 n (omega arith))

deep_adjective_at : (xs : List Adjective) (i : ℕ) (x : Adjective) (n : ℕ) → i < length xs → x ≡ get_or xs i x → false ≡ nat_le (adjective_depth x) n → false ≡ nat_le (adjectives_depth xs) n
deep_adjective_at [] i x n lt e h = absurd (omega (arith, lt))
deep_adjective_at (y ∷ ys) zero x n lt e h = sym (le_of_max (adjective_depth y) (adjectives_depth ys) n ∙ ap (λ c. c && nat_le (adjectives_depth ys) n) (ap (λ z. nat_le (adjective_depth z) n) (sym e) ∙ sym h))
deep_adjective_at (y ∷ ys) (suc i) x n lt e h = sym (le_of_max (adjective_depth y) (adjectives_depth ys) n ∙ ap (λ c. nat_le (adjective_depth y) n && c) (sym (deep_adjective_at ys i x n (omega (arith, lt)) e h)) ∙ no_and (nat_le (adjective_depth y) n))
  where
    no_and : (b : Bool) → (b && false) ≡ false
    no_and true = refl
    no_and false = refl

last_adjective : (xs : List Adjective) (i : ℕ) (x : Adjective) (n : ℕ) → i < length xs → x ≡ get_or xs i x → true ≡ nat_le (adjectives_depth (take i xs)) n → true ≡ nat_le (adjective_depth x) n → true ≡ nat_le (adjectives_depth (take (suc i) xs)) n
last_adjective [] i x n lt e h k = absurd (omega (arith, lt))
last_adjective (y ∷ ys) zero x n lt e h k = sym (le_of_max (adjective_depth y) 0 n ∙ ap (λ c. c && nat_le 0 n) (ap (λ z. nat_le (adjective_depth z) n) (sym e) ∙ sym k) ∙ le-leb 0 n (omega arith))
last_adjective (y ∷ ys) (suc i) x n lt e h k =
    let both : (nat_le (adjective_depth y) n ≡ true) × (nat_le (adjectives_depth (take i ys)) n ≡ true) = and_parts (nat_le (adjective_depth y) n) (nat_le (adjectives_depth (take i ys)) n) (sym (le_of_max (adjective_depth y) (adjectives_depth (take i ys)) n) ∙ sym h) in
    sym (le_of_max (adjective_depth y) (adjectives_depth (take (suc i) ys)) n ∙ ap (λ c. c && nat_le (adjectives_depth (take (suc i) ys)) n) both.0 ∙ sym (last_adjective ys i x n (omega (arith, lt)) e (sym both.1) k))

pub told_deep_term : (xs : List Term) (i : ℕ) (x : Term) (n : ℕ) (b : Bool) → i < length xs → x ≡ get_or xs i x → b ≡ nat_le (term_depth x) n → b ≡ false → false ≡ nat_le (args_depth (terms_of (xs))) n
told_deep_term xs i x n b lt e eb h = deep_term_at xs i x n lt e (sym h ∙ eb)

pub told_last_term : (xs : List Term) (i : ℕ) (x : Term) (n : ℕ) (b : Bool) → i < length xs → x ≡ get_or xs i x → true ≡ nat_le (args_depth (terms_of (take i xs))) n → b ≡ nat_le (term_depth x) n → b ≡ true → true ≡ nat_le (args_depth (terms_of (take (i + 1) xs))) n
told_last_term xs i x n b lt e h eb k = last_term xs i x n lt e h (sym k ∙ eb) ∙ ap (λ k. nat_le (args_depth (terms_of (take k xs))) n) (sym (add-one i))

pub told_deep_adjective : (xs : List Adjective) (i : ℕ) (x : Adjective) (n : ℕ) (b : Bool) → i < length xs → x ≡ get_or xs i x → b ≡ nat_le (adjective_depth x) n → b ≡ false → false ≡ nat_le (adjectives_depth (xs)) n
told_deep_adjective xs i x n b lt e eb h = deep_adjective_at xs i x n lt e (sym h ∙ eb)

pub told_last_adjective : (xs : List Adjective) (i : ℕ) (x : Adjective) (n : ℕ) (b : Bool) → i < length xs → x ≡ get_or xs i x → true ≡ nat_le (adjectives_depth (take i xs)) n → b ≡ nat_le (adjective_depth x) n → b ≡ true → true ≡ nat_le (adjectives_depth (take (i + 1) xs)) n
told_last_adjective xs i x n b lt e h eb k = last_adjective xs i x n lt e h (sym k ∙ eb) ∙ ap (λ k. nat_le (adjectives_depth (take k xs)) n) (sym (add-one i))

-- two parts, one below
pub told_two : (a b n : ℕ) (x y : Bool) → (n ≡ 0 → ⊥) → x ≡ nat_le a (n - 1) → x ≡ true → y ≡ nat_le b (n - 1) → y ≡ nat_le (suc (max a b)) n
told_two a b n x y h ex k ey = told_inside (max a b) n y h (ey ∙ sym (le_of_max a b (n - 1) ∙ ap (λ c. c && nat_le b (n - 1)) (sym ex ∙ k)))

pub told_one_deep : (a b n : ℕ) (x : Bool) → (n ≡ 0 → ⊥) → x ≡ nat_le a (n - 1) → x ≡ false → false ≡ nat_le (suc (max a b)) n
told_one_deep a b n x h ex k = told_inside (max a b) n false h (sym (le_of_max a b (n - 1) ∙ ap (λ c. c && nat_le b (n - 1)) (sym ex ∙ k)))

-- two parts
pub and-told_both : (a b n : ℕ) → (nat_le a n && nat_le b n) ≡ nat_le (max a b) n
and-told_both a b n = sym (le_of_max a b n)

pub ruleset term_rules = (deep_term, told_one, told_inside)

pub ruleset terms_rules = (told_no_terms, told_last_term, told_deep_term)

pub ruleset inside_rules = (told_zero, told_inside)

pub ruleset adjectives_rules = (told_no_terms, told_last_adjective, told_deep_adjective)

pub ruleset both_rules = (le_of_max)

pub ruleset statement_rules = (deep_statement, told_one, told_inside, told_two, told_one_deep)
