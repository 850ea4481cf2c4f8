-- What is left of a number of nodes.
use Rattle.std.proofs.lemmas.Bool.{le-leb, lt-leb}
use Rattle.std.proofs.Common.{◌≡◌, ◌<◌, ◌+◌, ◌-◌, ℕ, zero, suc, List, [], ◌∷◌, length, take, get_or, refl, sym as inverse, ap, ◌∙◌, subst, arith, add-one, Bool, false, Option, Some, None}
use Rattle.std.specs.Prelude.{◌&&◌, nat_le}
use Rattle.mz_logic.specs.Term.{Term, terms_of}
use Rattle.mz_core.specs.Statement.{Statement, Truth, Eq, Atom, Not, And, For}
use Rattle.mz_core.specs.declared.adjective.Adjective.{Adjective}
use Rattle.mz_ground.specs.Instance.{term_nodes, args_nodes}
use Rattle.mz_ground.specs.Nodes.{IsSpent}
use Rattle.mz_ground.proofs.NodeLemmas.{spent_zero_term, spent_one, spent_inside, spent_as, spent_both, spent_past}
use Rattle.mz_sizes.specs.Sizes.{most_nodes, most_depth, adjective_nodes, adjectives_nodes, statement_nodes, keeps}

statement_nodes-positive : (s : Statement) → 0 < statement_nodes s
statement_nodes-positive Truth = omega arith
statement_nodes-positive (Eq t u) = omega arith
statement_nodes-positive (Atom s ts) = omega arith
statement_nodes-positive (Not s) = omega arith
statement_nodes-positive (And s t) = omega arith
statement_nodes-positive (For ty s) = omega arith

pub told_no_statement : (n : ℕ) (s : Statement) → n ≡ 0 → IsSpent n (statement_nodes s) None
told_no_statement n s e = record { spent = omega (arith, statement_nodes-positive s) }

pub told_nothing : (n k : ℕ) → n ≡ 0 → IsSpent n (suc k) None
told_nothing n k e = record { spent = omega (arith, e) }

pub told_inside : (n k : ℕ) (r : Option ℕ) → (n ≡ 0 → ⊥) → IsSpent (n - 1) k r → IsSpent n (suc k) r
told_inside n k r h s = spent_inside n (suc k) k r h refl s

-- lists, by what is left of them
pub told_start : (n : ℕ) → IsSpent n 0 (Some n)
told_start n = record { spent = omega arith }

split_terms : (xs : List Term) (i : ℕ) (x : Term) → i < length xs → x ≡ get_or xs i x → (rest : ℕ) × (args_nodes (terms_of xs) ≡ args_nodes (terms_of (take (suc i) xs)) + rest) × (args_nodes (terms_of (take (suc i) xs)) ≡ args_nodes (terms_of (take i xs)) + term_nodes x)
split_terms [] i x lt e = absurd (omega arith)
split_terms (y ∷ ys) zero x lt e = (args_nodes (terms_of ys), omega arith, omega (arith, ap term_nodes e))
split_terms (y ∷ ys) (suc i) x lt e = let r = split_terms ys i x (omega arith) e in (r.0, omega (arith, r.1), omega (arith, r.2))

pub told_next_term : (xs : List Term) (i : ℕ) (x : Term) (n m less : ℕ) → i < length xs → x ≡ get_or xs i x → IsSpent n (args_nodes (terms_of (take i xs))) (Some m) → IsSpent m (term_nodes x) (Some less) → IsSpent n (args_nodes (terms_of (take (i + 1) xs))) (Some less)
told_next_term xs i x n m less lt e s t =
    let r = split_terms xs i x lt e in
    subst (λ (j : ℕ). IsSpent n (args_nodes (terms_of (take j xs))) (Some less)) (inverse (add-one i))
    (spent_as n (args_nodes (terms_of (take (suc i) xs))) (args_nodes (terms_of (take i xs)) + term_nodes x) (Some less) r.2 (spent_both n (args_nodes (terms_of (take i xs))) (term_nodes x) m (Some less) s t))

pub told_over_term : (xs : List Term) (i : ℕ) (x : Term) (n m : ℕ) → i < length xs → x ≡ get_or xs i x → IsSpent n (args_nodes (terms_of (take i xs))) (Some m) → IsSpent m (term_nodes x) None → IsSpent n (args_nodes (terms_of xs)) None
told_over_term xs i x n m lt e s t =
    let r = split_terms xs i x lt e in
    spent_as n (args_nodes (terms_of xs)) (args_nodes (terms_of (take (suc i) xs)) + r.0) None r.1
    (spent_past n (args_nodes (terms_of (take (suc i) xs))) r.0 (spent_as n (args_nodes (terms_of (take (suc i) xs))) (args_nodes (terms_of (take i xs)) + term_nodes x) None r.2 (spent_both n (args_nodes (terms_of (take i xs))) (term_nodes x) m None s t)))

split_adjectives : (xs : List Adjective) (i : ℕ) (x : Adjective) → i < length xs → x ≡ get_or xs i x → (rest : ℕ) × (adjectives_nodes xs ≡ adjectives_nodes (take (suc i) xs) + rest) × (adjectives_nodes (take (suc i) xs) ≡ adjectives_nodes (take i xs) + adjective_nodes x)
split_adjectives [] i x lt e = absurd (omega arith)
split_adjectives (y ∷ ys) zero x lt e = (adjectives_nodes ys, omega arith, omega (arith, ap adjective_nodes e))
split_adjectives (y ∷ ys) (suc i) x lt e = let r = split_adjectives ys i x (omega arith) e in (r.0, omega (arith, r.1), omega (arith, r.2))

pub told_next_adjective : (xs : List Adjective) (i : ℕ) (x : Adjective) (n m less : ℕ) → i < length xs → x ≡ get_or xs i x → IsSpent n (adjectives_nodes (take i xs)) (Some m) → IsSpent m (adjective_nodes x) (Some less) → IsSpent n (adjectives_nodes (take (i + 1) xs)) (Some less)
told_next_adjective xs i x n m less lt e s t =
    let r = split_adjectives xs i x lt e in
    subst (λ (j : ℕ). IsSpent n (adjectives_nodes (take j xs)) (Some less)) (inverse (add-one i))
    (spent_as n (adjectives_nodes (take (suc i) xs)) (adjectives_nodes (take i xs) + adjective_nodes x) (Some less) r.2 (spent_both n (adjectives_nodes (take i xs)) (adjective_nodes x) m (Some less) s t))

pub told_over_adjective : (xs : List Adjective) (i : ℕ) (x : Adjective) (n m : ℕ) → i < length xs → x ≡ get_or xs i x → IsSpent n (adjectives_nodes (take i xs)) (Some m) → IsSpent m (adjective_nodes x) None → IsSpent n (adjectives_nodes xs) None
told_over_adjective xs i x n m lt e s t =
    let r = split_adjectives xs i x lt e in
    spent_as n (adjectives_nodes xs) (adjectives_nodes (take (suc i) xs) + r.0) None r.1
    (spent_past n (adjectives_nodes (take (suc i) xs)) r.0 (spent_as n (adjectives_nodes (take (suc i) xs)) (adjectives_nodes (take i xs) + adjective_nodes x) None r.2 (spent_both n (adjectives_nodes (take i xs)) (adjective_nodes x) m None s t)))

-- two parts, one below
pub told_two : (n a b m : ℕ) (r : Option ℕ) → (n ≡ 0 → ⊥) → IsSpent (n - 1) a (Some m) → IsSpent m b r → IsSpent n (suc (a + b)) r
told_two n a b m r h s t = told_inside n (a + b) r h (spent_both (n - 1) a b m r s t)

pub told_one_over : (n a b : ℕ) → (n ≡ 0 → ⊥) → IsSpent (n - 1) a None → IsSpent n (suc (a + b)) None
told_one_over n a b h s = told_inside n (a + b) None h (spent_past (n - 1) a b s)

-- within both limits
pub told_kept : (n d m : ℕ) (b : Bool) → IsSpent most_nodes n (Some m) → b ≡ nat_le d most_depth → b ≡ keeps n d
told_kept n d m b s e = e ∙ inverse (ap (λ c. c && nat_le d most_depth) (le-leb n most_nodes (omega (arith, s.spent))))

pub told_too_many : (n d : ℕ) → IsSpent most_nodes n None → false ≡ keeps n d
told_too_many n d s = inverse (ap (λ c. c && nat_le d most_depth) (lt-leb n most_nodes s.spent))

pub ruleset term_rules = (spent_zero_term, spent_one, told_inside)

pub ruleset terms_rules = (told_start, told_next_term, told_over_term)

pub ruleset inside_rules = (told_nothing, told_inside)

pub ruleset adjectives_rules = (told_start, told_next_adjective, told_over_adjective)

pub ruleset both_rules = (spent_both, spent_past)

pub ruleset statement_rules = (told_no_statement, spent_one, told_inside, told_two, told_one_over)

pub ruleset keep_rules = (told_kept, told_too_many)
