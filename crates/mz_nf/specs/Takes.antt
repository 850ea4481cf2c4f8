-- The constants that the negated universals of a formula take.
use Rattle.std.specs.Prelude.{ℕ, suc, Bool, true, false, List}
use Rattle.mz_logic.specs.declared.sym.Sym.{Sym}
use Rattle.mz_logic.specs.Term.{Term}
use Rattle.mz_logic.specs.Formula.{Formula, Truth, Eq, Atom, Not, And, All}
use Rattle.mz_nf.specs.Constants.{IsLeastUnused}

-- as `Splits`, without the disjuncts: the constants from k on up to m are taken
pub data Takes (used : ℕ → Bool) : Bool → Formula → ℕ → ℕ → Type 0 where
  truth : (s : Bool) (k : ℕ) → Takes used s Truth k k
  equation : (s : Bool) (t u : Term) (k : ℕ) → Takes used s (Eq t u) k k
  atom : (s : Bool) (p : Sym) (ts : List Term) (k : ℕ) → Takes used s (Atom p ts) k k
  negation : (f : Formula) (k m : ℕ) → Takes used false f k m → Takes used true (Not f) k m
  negation_negated : (f : Formula) (k m : ℕ) → Takes used true f k m → Takes used false (Not f) k m
  conjunction : (s : Bool) (f g : Formula) (k m n : ℕ) → Takes used s f k m → Takes used s g m n → Takes used s (And f g) k n
  universal : (b : Formula) (k : ℕ) → Takes used true (All b) k k
  universal_negated : (b : Formula) (k c m : ℕ) → IsLeastUnused used k c → Takes used false b (suc c) m → Takes used false (All b) k m
