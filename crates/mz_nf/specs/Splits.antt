-- The disjuncts of a formula, of a list of formulas and of a problem.
use Rattle.std.specs.Prelude.{ℕ, suc, Bool, true, false, List, [], ◌∷◌, ◌++◌}
use Rattle.mz_logic.specs.declared.sym.Sym.{Sym}
use Rattle.mz_logic.specs.Term.{Term, Const}
use Rattle.mz_logic.specs.Formula.{Formula, Truth, Eq, Atom, Not, And, All}
use Rattle.mz_logic.specs.Substitution.{body_at}
use Rattle.mz_logic.specs.declared.literal.Literal.TheVariants as literal
use Rattle.mz_logic.specs.declared.disjunct.Disjunct.{Disjunct}
use Rattle.mz_nf.specs.declared.problem.Problem.{Problem}
use Rattle.mz_nf.specs.Problem.{parts_of, has_constant}
use Rattle.mz_nf.specs.Disjunct.{empty, of_literal, of_universal, pairs}
use Rattle.mz_nf.specs.Constants.{IsLeastUnused}

-- `Splits used s f k ds m`: ds are the disjuncts of f, or where s is false those of the negation of
-- f. Each negated universal that is met has the least unused number from k on that none met before
-- it has; m is the first number that is behind them all.
pub data Splits (used : ℕ → Bool) : Bool → Formula → ℕ → List Disjunct → ℕ → Type 0 where
  -- truth: one, which is empty
  truth : (k : ℕ) → Splits used true Truth k (empty ∷ []) k
  -- the negation of truth: none
  truth_negated : (k : ℕ) → Splits used false Truth k [] k
  -- an equation or an atom, or its negation: that literal
  equation : (s : Bool) (t u : Term) (k : ℕ) → Splits used s (Eq t u) k (of_literal (literal.Eq s t u) ∷ []) k
  atom : (s : Bool) (p : Sym) (ts : List Term) (k : ℕ) → Splits used s (Atom p ts) k (of_literal (literal.Atom s p ts) ∷ []) k
  -- `not f`: those of the negation of f
  negation : (f : Formula) (k m : ℕ) (ds : List Disjunct) → Splits used false f k ds m → Splits used true (Not f) k ds m
  -- the negation of `not f`: those of f
  negation_negated : (f : Formula) (k m : ℕ) (ds : List Disjunct) → Splits used true f k ds m → Splits used false (Not f) k ds m
  -- `f & g`: all pairs of one of f and one of g
  conjunction : (f g : Formula) (k m n : ℕ) (ds es : List Disjunct) → Splits used true f k ds m → Splits used true g m es n → Splits used true (And f g) k (pairs ds es) n
  -- the negation of `f & g`: those of the negation of f, and then those of the negation of g
  conjunction_negated : (f g : Formula) (k m n : ℕ) (ds es : List Disjunct) → Splits used false f k ds m → Splits used false g m es n → Splits used false (And f g) k (ds ++ es) n
  -- a universal: itself, as it is written
  universal : (b : Formula) (k : ℕ) → Splits used true (All b) k (of_universal (All b) ∷ []) k
  -- the negation of a universal: those of its negated body at a new constant
  universal_negated : (b : Formula) (k c m : ℕ) (ds : List Disjunct) → IsLeastUnused used k c → Splits used false (body_at b (Const c)) (suc c) ds m → Splits used false (All b) k ds m

-- the same of the formulas of a list, as one conjunction
pub data SplitsAll (used : ℕ → Bool) : List Formula → ℕ → List Disjunct → ℕ → Type 0 where
  end : (k : ℕ) → SplitsAll used [] k (empty ∷ []) k
  next : (f : Formula) (fs : List Formula) (k m n : ℕ) (ds es : List Disjunct) → Splits used true f k ds m → SplitsAll used fs m es n → SplitsAll used (f ∷ fs) k (pairs ds es) n

-- ds are the disjuncts of the problem: those of its premises, in their order, and its negated
-- conclusion, where constants that the problem doesn't have are taken from 1 on
abbrev pub AreDisjuncts : Problem → List Disjunct → Type 0
AreDisjuncts p ds = (m : ℕ) × SplitsAll (has_constant p) (parts_of p) 1 ds m
