-- Clauses as formulas.
use Rattle.std.proofs.Common.{◌≡◌, ℕ, zero, suc, ◌+◌, List, [], ◌∷◌, ◌++◌, map, refl, ◌∙◌, subst, arith, Bool, true, false}
use Rattle.std.specs.List.{list_all, list_any}
use Rattle.std.proofs.lemmas.Bool.{and_parts, and_from, or_from}
use Rattle.mz_logic.specs.Term.{Term, Terms, Bound, Const, App, none, more}
use Rattle.mz_logic.specs.Formula.{Formula, Truth, Eq, Atom, Not, And, All}
use Rattle.mz_logic.specs.Literal.{literal_formula}
use Rattle.mz_logic.specs.Connectives.{quantified, joined_to}
use Rattle.mz_logic.specs.Constants.{occurs, occurs_in_args, occurs_in_formula}
use Rattle.mz_logic.specs.Indices.{is_below, args_below, formula_below, formula_closed}
use Rattle.mz_logic.specs.declared.literal.Literal.{Literal}
use Rattle.mz_core.specs.Closed.{term_under, args_under, formula_under, literal_under}
use Rattle.mz_core.proofs.AllLemmas.{all-map, all-append, literal_formula_all}
use Rattle.mz_ground.specs.declared.clause.Clause.{Clause}
use Rattle.mz_ground.specs.ClauseFormula.{complement, implication, clause_formula}
use Rattle.mz_items.proofs.ItemLemmas.{three}
use Rattle.mz_closed_laws.specs.ClosedClauses.{trigger_under, clause_closed}
use Rattle.mz_closed_laws.specs.ClosedLaws.{FormulaLaw, ConstantLaw, IndexLaw}
use Rattle.mz_closed_laws.proofs.LiteralLemmas.{complement_under}

-- quantifiers and implications
formula_at : (m n : ℕ) (f : Formula) → m ≡ n → formula_under m f ≡ true → formula_under n f ≡ true
formula_at m n f e h = let Q : ℕ → Type 0 = λ k. formula_under k f ≡ true in subst Q e h

quantified_under : (n count : ℕ) (f : Formula) → formula_under (n + count) f ≡ true → formula_under n (quantified count f) ≡ true
quantified_under n zero f h = let e : n + 0 ≡ n = omega arith in formula_at (n + 0) n f e h
quantified_under n (suc count) f h = let e : n + suc count ≡ n + count + 1 = omega arith in quantified_under n count (All f) (formula_at (n + suc count) (n + count + 1) f e h)

joined_under : (n : ℕ) (f : Formula) (gs : List Formula) → formula_under n f ≡ true → list_all (formula_under n) gs ≡ true → formula_under n (joined_to f gs) ≡ true
joined_under n f [] h k = h
joined_under n f (g ∷ gs) h k =
    let both : (formula_under n g ≡ true) × (list_all (formula_under n) gs ≡ true) = and_parts (formula_under n g) (list_all (formula_under n) gs) k in
    joined_under n (And f g) gs (and_from _ _ h both.0) both.1

literal_at : (n : ℕ) (l : Literal) → literal_under n l ≡ true → formula_under n (literal_formula l) ≡ true
literal_at n l h = literal_formula_all term_under n l h

implication_under : (n : ℕ) (ps : List Literal) (c : Literal) → list_all (literal_under n) ps ≡ true → literal_under n c ≡ true → formula_under n (implication ps c) ≡ true
implication_under n [] c h k = literal_at n c k
implication_under n (l ∷ ls) c h k =
    let both : (literal_under n l ≡ true) × (list_all (literal_under n) ls ≡ true) = and_parts (literal_under n l) (list_all (literal_under n) ls) h in
    joined_under n (literal_formula l) (map literal_formula ls ++ literal_formula (complement c) ∷ []) (literal_at n l both.0)
    (all-append (formula_under n) (map literal_formula ls) (literal_formula (complement c) ∷ []) (all-map (literal_under n) (formula_under n) literal_formula ls (literal_at n) both.1) (and_from _ _ (literal_at n (complement c) (complement_under n c ∙ k)) refl))

clause_under : (c : Clause) → clause_closed c ≡ true → formula_under 0 (clause_formula c) ≡ true
clause_under c h =
    let t : (trigger_under c.variables c.trigger ≡ true) × (list_all (literal_under c.variables) c.premises ≡ true) × (literal_under c.variables c.conclusion ≡ true) = three (trigger_under c.variables c.trigger) (list_all (literal_under c.variables) c.premises) (literal_under c.variables c.conclusion) h in
    let e : c.variables ≡ 0 + c.variables = omega arith in
    quantified_under 0 c.variables (implication c.premises c.conclusion) (formula_at c.variables (0 + c.variables) (implication c.premises c.conclusion) e (implication_under c.variables c.premises c.conclusion t.1 t.2))

pub formula_law : FormulaLaw
formula_law cs h = all-map clause_closed (formula_under 0) clause_formula cs clause_under h

-- constants
mutual
  term_lacks : (c n : ℕ) (t : Term) → term_under n t ≡ true → occurs c t ≡ false
  term_lacks c n (Bound index) h = refl
  term_lacks c n (Const number) h = cc
  term_lacks c n (App s ts) h = args_lack c n ts h

  args_lack : (c n : ℕ) (ts : Terms) → args_under n ts ≡ true → occurs_in_args c ts ≡ false
  args_lack c n none h = refl
  args_lack c n (more t ts) h =
      let both : (term_under n t ≡ true) × (args_under n ts ≡ true) = and_parts (term_under n t) (args_under n ts) h in
      or_from _ _ (term_lacks c n t both.0) (args_lack c n ts both.1)

any-none : {X : Type 0} (p q : X → Bool) (xs : List X) → ((x : X) → p x ≡ true → q x ≡ false) → list_all p xs ≡ true → list_any q xs ≡ false
any-none p q [] each h = refl
any-none p q (x ∷ xs) each h =
    let both : (p x ≡ true) × (list_all p xs ≡ true) = and_parts (p x) (list_all p xs) h in
    or_from _ _ (each x both.0) (any-none p q xs each both.1)

formula_lacks : (c n : ℕ) (f : Formula) → formula_under n f ≡ true → occurs_in_formula c f ≡ false
formula_lacks c n Truth h = refl
formula_lacks c n (Eq t u) h =
    let both : (term_under n t ≡ true) × (term_under n u ≡ true) = and_parts (term_under n t) (term_under n u) h in
    or_from _ _ (term_lacks c n t both.0) (term_lacks c n u both.1)
formula_lacks c n (Atom s ts) h = any-none (term_under n) (occurs c) ts (term_lacks c n) h
formula_lacks c n (Not f) h = formula_lacks c n f h
formula_lacks c n (And f g) h =
    let both : (formula_under n f ≡ true) × (formula_under n g ≡ true) = and_parts (formula_under n f) (formula_under n g) h in
    or_from _ _ (formula_lacks c n f both.0) (formula_lacks c n g both.1)
formula_lacks c n (All f) h = formula_lacks c (n + 1) f h

pub constant_law : ConstantLaw
constant_law cs h c = any-none (formula_under 0) (occurs_in_formula c) (map clause_formula cs) (formula_lacks c 0) (formula_law cs h)

-- indices
mutual
  term_below : (n : ℕ) (t : Term) → term_under n t ≡ true → is_below n t ≡ true
  term_below n (Bound index) h = h
  term_below n (Const number) h = refl
  term_below n (App s ts) h = args_at_most n ts h

  args_at_most : (n : ℕ) (ts : Terms) → args_under n ts ≡ true → args_below n ts ≡ true
  args_at_most n none h = refl
  args_at_most n (more t ts) h =
      let both : (term_under n t ≡ true) × (args_under n ts ≡ true) = and_parts (term_under n t) (args_under n ts) h in
      and_from _ _ (term_below n t both.0) (args_at_most n ts both.1)

all-weaker : {X : Type 0} (p q : X → Bool) (xs : List X) → ((x : X) → p x ≡ true → q x ≡ true) → list_all p xs ≡ true → list_all q xs ≡ true
all-weaker p q [] each h = refl
all-weaker p q (x ∷ xs) each h =
    let both : (p x ≡ true) × (list_all p xs ≡ true) = and_parts (p x) (list_all p xs) h in
    and_from _ _ (each x both.0) (all-weaker p q xs each both.1)

formula_at_most : (n : ℕ) (f : Formula) → formula_under n f ≡ true → formula_below n f ≡ true
formula_at_most n Truth h = refl
formula_at_most n (Eq t u) h =
    let both : (term_under n t ≡ true) × (term_under n u ≡ true) = and_parts (term_under n t) (term_under n u) h in
    and_from _ _ (term_below n t both.0) (term_below n u both.1)
formula_at_most n (Atom s ts) h = all-weaker (term_under n) (is_below n) ts (term_below n) h
formula_at_most n (Not f) h = formula_at_most n f h
formula_at_most n (And f g) h =
    let both : (formula_under n f ≡ true) × (formula_under n g ≡ true) = and_parts (formula_under n f) (formula_under n g) h in
    and_from _ _ (formula_at_most n f both.0) (formula_at_most n g both.1)
formula_at_most n (All f) h = formula_at_most (n + 1) f h

pub index_law : IndexLaw
index_law cs h = all-weaker (formula_under 0) formula_closed (map clause_formula cs) (formula_at_most 0) (formula_law cs h)
