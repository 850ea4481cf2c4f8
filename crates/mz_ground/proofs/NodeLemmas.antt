-- Nodes of terms and literals.
use Rattle.std.proofs.Common.{◌≡◌, ◌<◌, ◌≤◌, ◌+◌, ◌-◌, ℕ, zero, suc, List, [], ◌∷◌, ◌++◌, length, map, take, get_or, refl, sym as inverse, ap, ◌∙◌, subst, arith, add-one, Bool, Option, Some, None}
use Rattle.std.specs.Prelude.{Contains, slice_get}
use Rattle.mz_logic.specs.declared.sym.Sym.{Sym}
use Rattle.mz_logic.specs.Term.{Term, Bound, Const, App, terms_of}
use Rattle.mz_logic.specs.declared.literal.Literal.{Literal}
use Rattle.mz_logic.specs.declared.literal.Literal.TheVariants as literals
use Rattle.mz_logic.specs.Substitution.{value_at, substitute}
use Rattle.mz_ground.specs.Instance.{literal_at, term_nodes, args_nodes, literal_nodes, literals_nodes, instance_nodes}
use Rattle.mz_ground.specs.Ground.{term_at}
use Rattle.mz_ground.specs.Layers.{most_nodes}
use Rattle.mz_ground.specs.Nodes.{IsSpent}
use Rattle.mz_ground.specs.Table.{entry_terms, IsTable}
use Rattle.mz_ground.specs.declared.clause.Clause.{Clause}
use Rattle.mz_ground.specs.declared.ground_term.GroundTerm.{GroundTerm}
use Rattle.mz_ground.specs.declared.ground_term.GroundTerm.TheVariants as entry
use Rattle.mz_ground.proofs.ListLemmas.{contains_get}
use Rattle.mz_ground.proofs.TableLemmas.{term_at-table_read}
use Rattle.mz_logic.proofs.SubstitutionLaws.{substitute_args-terms_of}
use Rattle.mz_ground.proofs.AddLemmas.{index_at, index_past}

pub term_nodes-positive : (t : Term) → 0 < term_nodes t
term_nodes-positive (Bound index) = omega arith
term_nodes-positive (Const number) = omega arith
term_nodes-positive (App s ts) = omega arith

literal_nodes-positive : (l : Literal) → 0 < literal_nodes l
literal_nodes-positive (literals.Atom positive s ts) = omega arith
literal_nodes-positive (literals.Eq positive t u) = omega arith

pub spent_zero_term : (n : ℕ) (t : Term) → n ≡ 0 → IsSpent n (term_nodes t) None
spent_zero_term n t e = record { spent = omega (arith, term_nodes-positive t) }

pub spent_zero_literal : (n : ℕ) (l : Literal) → n ≡ 0 → IsSpent n (literal_nodes l) None
spent_zero_literal n l e = record { spent = omega (arith, literal_nodes-positive l) }

pub spent_one : (n k : ℕ) → (n ≡ 0 → ⊥) → k ≡ 1 → IsSpent n k (Some (n - 1))
spent_one zero k h e = absurd (h refl)
spent_one (suc n) k h e = record { spent = omega arith }

pub spent_inside : (n k m : ℕ) (r : Option ℕ) → (n ≡ 0 → ⊥) → k ≡ suc m → IsSpent (n - 1) m r → IsSpent n k r
spent_inside zero k m r h e s = absurd (h refl)
spent_inside (suc n) k m None h e s = record { spent = omega (arith, s.spent) }
spent_inside (suc n) k m (Some rest) h e s = record { spent = omega (arith, s.spent) }

pub spent_as : (n k m : ℕ) (r : Option ℕ) → k ≡ m → IsSpent n m r → IsSpent n k r
spent_as n k m r e s = subst (λ (x : ℕ). IsSpent n x r) (inverse e) s

pub spent_both : (n a b m : ℕ) (r : Option ℕ) → IsSpent n a (Some m) → IsSpent m b r → IsSpent n (a + b) r
spent_both n a b m None s t = record { spent = omega (arith, s.spent, t.spent) }
spent_both n a b m (Some rest) s t = record { spent = omega (arith, s.spent, t.spent) }

pub spent_past : (n a b : ℕ) → IsSpent n a None → IsSpent n (a + b) None
spent_past n a b s = record { spent = omega (arith, s.spent) }

-- the term at a place
place_const : (es : List GroundTerm) → IsTable es → (place m : ℕ) → slice_get es place ≡ Some (entry.Const m) → term_nodes (term_at (entry_terms es) place) ≡ 1
place_const es h place m g = ap term_nodes (term_at-table_read es h place (entry.Const m) g)

place_app : (es : List GroundTerm) → IsTable es → (place : ℕ) (s : Sym) (args : List ℕ) → slice_get es place ≡ Some (entry.App s args) → term_nodes (term_at (entry_terms es) place) ≡ suc (args_nodes (terms_of (map (term_at (entry_terms es)) args)))
place_app es h place s args g = ap term_nodes (term_at-table_read es h place (entry.App s args) g)

pub told_place_const : (es : List GroundTerm) → IsTable es → (place m n : ℕ) → slice_get es place ≡ Some (entry.Const m) → (n ≡ 0 → ⊥) → IsSpent n (term_nodes (term_at (entry_terms es) place)) (Some (n - 1))
told_place_const es h place m n g z = spent_one n (term_nodes (term_at (entry_terms es) place)) z (place_const es h place m g)

pub told_place_app : (es : List GroundTerm) → IsTable es → (place n : ℕ) (s : Sym) (args : List ℕ) (r : Option ℕ) → slice_get es place ≡ Some (entry.App s args) → (n ≡ 0 → ⊥) → IsSpent (n - 1) (args_nodes (terms_of (map (term_at (entry_terms es)) args))) r → IsSpent n (term_nodes (term_at (entry_terms es) place)) r
told_place_app es h place n s args r g z a = spent_inside n (term_nodes (term_at (entry_terms es) place)) (args_nodes (terms_of (map (term_at (entry_terms es)) args))) r z (place_app es h place s args g) a

pub args_below_place : (es : List GroundTerm) → IsTable es → (place : ℕ) (s : Sym) (args : List ℕ) → slice_get es place ≡ Some (entry.App s args) → (k : ℕ) → Contains args k → k < place
args_below_place es h place s args g k w = h.earlier place k s args g w

pub ruleset place_rules = (spent_zero_term, told_place_const, told_place_app, args_below_place)

-- terms one after another
args_nodes-append : (ts us : List Term) → args_nodes (terms_of (ts ++ us)) ≡ args_nodes (terms_of ts) + args_nodes (terms_of us)
args_nodes-append [] us = omega arith
args_nodes-append (t ∷ ts) us = omega (arith, args_nodes-append ts us)

split_nodes : {A : Type 0} (f : A → Term) (xs : List A) (i : ℕ) (x : A) → i < length xs → x ≡ get_or xs i x → (rest : ℕ) × (args_nodes (terms_of (map f xs)) ≡ args_nodes (terms_of (map f (take (suc i) xs))) + rest) × (args_nodes (terms_of (map f (take (suc i) xs))) ≡ args_nodes (terms_of (map f (take i xs))) + term_nodes (f x))
split_nodes f [] i x lt e = absurd (omega arith)
split_nodes f (y ∷ ys) zero x lt e = (args_nodes (terms_of (map f ys)), omega arith, omega (arith, ap (λ z. term_nodes (f z)) e))
split_nodes f (y ∷ ys) (suc i) x lt e = let r = split_nodes f ys i x (omega arith) e in (r.0, omega (arith, r.1), omega (arith, r.2))

pub spent_next : {A : Type 0} (f : A → Term) (xs : List A) (i : ℕ) (x : A) (n m less : ℕ) → i < length xs → x ≡ get_or xs i x → IsSpent n (args_nodes (terms_of (map f (take i xs)))) (Some m) → IsSpent m (term_nodes (f x)) (Some less) → IsSpent n (args_nodes (terms_of (map f (take (i + 1) xs)))) (Some less)
spent_next f xs i x n m less lt e s t =
    let r = split_nodes f xs i x lt e in
    subst (λ (j : ℕ). IsSpent n (args_nodes (terms_of (map f (take j xs)))) (Some less)) (inverse (add-one i))
    (spent_as n (args_nodes (terms_of (map f (take (suc i) xs)))) (args_nodes (terms_of (map f (take i xs))) + term_nodes (f x)) (Some less) r.2 (spent_both n (args_nodes (terms_of (map f (take i xs)))) (term_nodes (f x)) m (Some less) s t))

pub spent_over : {A : Type 0} (f : A → Term) (xs : List A) (i : ℕ) (x : A) (n m : ℕ) → i < length xs → x ≡ get_or xs i x → IsSpent n (args_nodes (terms_of (map f (take i xs)))) (Some m) → IsSpent m (term_nodes (f x)) None → IsSpent n (args_nodes (terms_of (map f xs))) None
spent_over f xs i x n m lt e s t =
    let r = split_nodes f xs i x lt e in
    spent_as n (args_nodes (terms_of (map f xs))) (args_nodes (terms_of (map f (take (suc i) xs))) + r.0) None r.1
    (spent_past n (args_nodes (terms_of (map f (take (suc i) xs)))) r.0
    (spent_as n (args_nodes (terms_of (map f (take (suc i) xs)))) (args_nodes (terms_of (map f (take i xs))) + term_nodes (f x)) None r.2 (spent_both n (args_nodes (terms_of (map f (take i xs)))) (term_nodes (f x)) m None s t)))

pub get_or-read_self : (xs : List ℕ) (i : ℕ) → get_or xs i 0 ≡ get_or xs i (get_or xs i 0)
get_or-read_self [] i = refl
get_or-read_self (x ∷ xs) zero = refl
get_or-read_self (x ∷ xs) (suc i) = get_or-read_self xs i

pub spent_nothing : (n : ℕ) → IsSpent n 0 (Some n)
spent_nothing n = record { spent = omega arith }

pub ruleset places_rules = (spent_next, spent_over, spent_nothing)

-- a term at the terms at places
pub told_bound : (es : List GroundTerm) (args : List ℕ) (t : Term) (index k n : ℕ) (r : Option ℕ) → t ≡ Bound index → slice_get args index ≡ Some k → IsSpent n (term_nodes (term_at (entry_terms es) k)) r → IsSpent n (term_nodes (substitute 0 (value_at (map (term_at (entry_terms es)) args)) t)) r
told_bound es args t index k n r e g s =
    spent_as n (term_nodes (substitute 0 (value_at (map (term_at (entry_terms es)) args)) t)) (term_nodes (term_at (entry_terms es) k)) r (ap term_nodes (ap (substitute 0 (value_at (map (term_at (entry_terms es)) args))) e ∙ index_at es args index k g)) s

pub told_past : (es : List GroundTerm) (args : List ℕ) (t : Term) (index n : ℕ) → t ≡ Bound index → slice_get args index ≡ None → (n ≡ 0 → ⊥) → IsSpent n (term_nodes (substitute 0 (value_at (map (term_at (entry_terms es)) args)) t)) (Some (n - 1))
told_past es args t index n e g z =
    let p = index_past es args index g in
    spent_one n (term_nodes (substitute 0 (value_at (map (term_at (entry_terms es)) args)) t)) z (ap term_nodes (ap (substitute 0 (value_at (map (term_at (entry_terms es)) args))) e ∙ p.1))

pub told_const : (ts : List Term) (t : Term) (m n : ℕ) → t ≡ Const m → (n ≡ 0 → ⊥) → IsSpent n (term_nodes (substitute 0 (value_at ts) t)) (Some (n - 1))
told_const ts t m n e z = spent_one n (term_nodes (substitute 0 (value_at ts) t)) z (ap (λ x. term_nodes (substitute 0 (value_at ts) x)) e)

pub told_app : (ts : List Term) (t : Term) (s : Sym) (us : List Term) (n : ℕ) (r : Option ℕ) → t ≡ App s (terms_of us) → (n ≡ 0 → ⊥) → IsSpent (n - 1) (args_nodes (terms_of (map (substitute 0 (value_at ts)) us))) r → IsSpent n (term_nodes (substitute 0 (value_at ts) t)) r
told_app ts t s us n r e z a =
    spent_inside n (term_nodes (substitute 0 (value_at ts) t)) (args_nodes (terms_of (map (substitute 0 (value_at ts)) us))) r z (ap (λ x. term_nodes (substitute 0 (value_at ts) x)) e ∙ ap (λ vs. suc (args_nodes vs)) (substitute_args-terms_of 0 (value_at ts) us)) a

pub place_within : (es : List GroundTerm) (args : List ℕ) (index k : ℕ) → ((j : ℕ) → Contains args j → j < length es) → slice_get args index ≡ Some k → k < length es
place_within es args index k h g = h k (contains_get args index k g)

pub ruleset term_rules = (spent_zero_term, told_bound, told_past, told_const, told_app, place_within)

pub ruleset terms_rules = (spent_next, spent_over, spent_nothing)

-- literals
pub told_atom : (ts : List Term) (l : Literal) (positive : Bool) (s : Sym) (us : List Term) (n : ℕ) (r : Option ℕ) → l ≡ literals.Atom positive s us → (n ≡ 0 → ⊥) → IsSpent (n - 1) (args_nodes (terms_of (map (substitute 0 (value_at ts)) us))) r → IsSpent n (literal_nodes (literal_at ts l)) r
told_atom ts l positive s us n r e z a = spent_inside n (literal_nodes (literal_at ts l)) (args_nodes (terms_of (map (substitute 0 (value_at ts)) us))) r z (ap (λ x. literal_nodes (literal_at ts x)) e) a

pub told_equation : (ts : List Term) (l : Literal) (positive : Bool) (t u : Term) (n m : ℕ) (r : Option ℕ) → l ≡ literals.Eq positive t u → (n ≡ 0 → ⊥) → IsSpent (n - 1) (term_nodes (substitute 0 (value_at ts) t)) (Some m) → IsSpent m (term_nodes (substitute 0 (value_at ts) u)) r → IsSpent n (literal_nodes (literal_at ts l)) r
told_equation ts l positive t u n m r e z a b = spent_inside n (literal_nodes (literal_at ts l)) (term_nodes (substitute 0 (value_at ts) t) + term_nodes (substitute 0 (value_at ts) u)) r z (ap (λ x. literal_nodes (literal_at ts x)) e) (spent_both (n - 1) (term_nodes (substitute 0 (value_at ts) t)) (term_nodes (substitute 0 (value_at ts) u)) m r a b)

pub told_equation_past : (ts : List Term) (l : Literal) (positive : Bool) (t u : Term) (n : ℕ) → l ≡ literals.Eq positive t u → (n ≡ 0 → ⊥) → IsSpent (n - 1) (term_nodes (substitute 0 (value_at ts) t)) None → IsSpent n (literal_nodes (literal_at ts l)) None
told_equation_past ts l positive t u n e z a = spent_inside n (literal_nodes (literal_at ts l)) (term_nodes (substitute 0 (value_at ts) t) + term_nodes (substitute 0 (value_at ts) u)) None z (ap (λ x. literal_nodes (literal_at ts x)) e) (spent_past (n - 1) (term_nodes (substitute 0 (value_at ts) t)) (term_nodes (substitute 0 (value_at ts) u)) a)

pub ruleset literal_rules = (spent_zero_literal, told_atom, told_equation, told_equation_past)

literals_nodes-append : (ls ks : List Literal) → literals_nodes (ls ++ ks) ≡ literals_nodes ls + literals_nodes ks
literals_nodes-append [] ks = omega arith
literals_nodes-append (l ∷ ls) ks = omega (arith, literals_nodes-append ls ks)

split_literals : (f : Literal → Literal) (xs : List Literal) (i : ℕ) (x : Literal) → i < length xs → x ≡ get_or xs i x → (rest : ℕ) × (literals_nodes (map f xs) ≡ literals_nodes (map f (take (suc i) xs)) + rest) × (literals_nodes (map f (take (suc i) xs)) ≡ literals_nodes (map f (take i xs)) + literal_nodes (f x))
split_literals f [] i x lt e = absurd (omega arith)
split_literals f (y ∷ ys) zero x lt e = (literals_nodes (map f ys), omega arith, omega (arith, ap (λ z. literal_nodes (f z)) e))
split_literals f (y ∷ ys) (suc i) x lt e = let r = split_literals f ys i x (omega arith) e in (r.0, omega (arith, r.1), omega (arith, r.2))

pub spent_next_literal : (f : Literal → Literal) (xs : List Literal) (i : ℕ) (x : Literal) (n m less : ℕ) → i < length xs → x ≡ get_or xs i x → IsSpent n (literals_nodes (map f (take i xs))) (Some m) → IsSpent m (literal_nodes (f x)) (Some less) → IsSpent n (literals_nodes (map f (take (i + 1) xs))) (Some less)
spent_next_literal f xs i x n m less lt e s t =
    let r = split_literals f xs i x lt e in
    subst (λ (j : ℕ). IsSpent n (literals_nodes (map f (take j xs))) (Some less)) (inverse (add-one i))
    (spent_as n (literals_nodes (map f (take (suc i) xs))) (literals_nodes (map f (take i xs)) + literal_nodes (f x)) (Some less) r.2 (spent_both n (literals_nodes (map f (take i xs))) (literal_nodes (f x)) m (Some less) s t))

pub spent_over_literal : (f : Literal → Literal) (xs : List Literal) (i : ℕ) (x : Literal) (n m : ℕ) → i < length xs → x ≡ get_or xs i x → IsSpent n (literals_nodes (map f (take i xs))) (Some m) → IsSpent m (literal_nodes (f x)) None → IsSpent n (literals_nodes (map f xs)) None
spent_over_literal f xs i x n m lt e s t =
    let r = split_literals f xs i x lt e in
    spent_as n (literals_nodes (map f xs)) (literals_nodes (map f (take (suc i) xs)) + r.0) None r.1
    (spent_past n (literals_nodes (map f (take (suc i) xs))) r.0
    (spent_as n (literals_nodes (map f (take (suc i) xs))) (literals_nodes (map f (take i xs)) + literal_nodes (f x)) None r.2 (spent_both n (literals_nodes (map f (take i xs))) (literal_nodes (f x)) m None s t)))

pub ruleset literals_rules = (spent_next_literal, spent_over_literal, spent_nothing)

-- the instance
instance_sum : (c : Clause) (ts : List Term) → instance_nodes c ts ≡ literals_nodes (map (literal_at ts) c.premises) + literal_nodes (literal_at ts c.conclusion)
instance_sum c ts = literals_nodes-append (map (literal_at ts) c.premises) (literal_at ts c.conclusion ∷ []) ∙ omega arith

pub instance_fits : (c : Clause) (ts : List Term) (m rest : ℕ) → IsSpent 4096 (literals_nodes (map (literal_at ts) c.premises)) (Some m) → IsSpent m (literal_nodes (literal_at ts c.conclusion)) (Some rest) → instance_nodes c ts ≤ most_nodes
instance_fits c ts m rest a b = omega (arith, instance_sum c ts, a.spent, b.spent)

pub instance_past : (c : Clause) (ts : List Term) (m : ℕ) → IsSpent 4096 (literals_nodes (map (literal_at ts) c.premises)) (Some m) → IsSpent m (literal_nodes (literal_at ts c.conclusion)) None → instance_nodes c ts ≤ most_nodes → ⊥
instance_past c ts m a b le = omega (arith, instance_sum c ts, a.spent, b.spent)

pub premises_past : (c : Clause) (ts : List Term) → IsSpent 4096 (literals_nodes (map (literal_at ts) c.premises)) None → instance_nodes c ts ≤ most_nodes → ⊥
premises_past c ts a le = omega (arith, instance_sum c ts, a.spent)

pub ruleset clause_rules = (instance_fits, instance_past, premises_past)
