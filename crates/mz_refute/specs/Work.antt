-- The work of a refutation.
use Rattle.std.specs.Prelude.{ℕ, ◌+◌, ◌*◌, Bool, true, false, not, List, length}
use Rattle.mz_logic.specs.declared.sym.Sym.{Sym}
use Rattle.mz_logic.specs.Term.{Term}
use Rattle.mz_logic.specs.Formula as formula
use Rattle.mz_logic.specs.Formula.{Formula, Truth, Not, And, All}
use Rattle.mz_logic.specs.declared.literal.Literal.TheVariants.{Atom, Eq}
use Rattle.mz_logic.specs.declared.disjunct.Disjunct.{Disjunct}
use Rattle.mz_ground.specs.declared.clause.Clause.{Clause}
use Rattle.mz_logic.specs.Capped.{capped}
use Rattle.mz_ground.specs.GroundExpression.{EquationExpression}
use Rattle.mz_ground.specs.Layers.{IsGroundExpression, IsGroundTerm, IsGroundAtom}
use Rattle.mz_ground.specs.Facts.{Fact}
use Rattle.mz_refute.specs.Counted.{IsCount}

-- a ground equation whose negation is a fact
pub record IsDisequal (d : Disjunct) (cs : List Clause) (sides : Term × Term) : Type 0 where
  pub ground : IsGroundExpression d cs (EquationExpression sides.0 sides.1)
  pub fact : Fact d cs (Eq false sides.0 sides.1)

-- a ground atom of the symbol with the sign, by its arguments
pub record IsSigned (d : Disjunct) (cs : List Clause) (positive : Bool) (s : Sym) (ts : List Term) : Type 0 where
  pub ground : IsGroundAtom d cs s ts
  pub fact : Fact d cs (Atom positive s ts)

-- `IsWork d cs true f n`: n is the work of f; `IsWork d cs false f n`: that of its negation
pub data IsWork (d : Disjunct) (cs : List Clause) : Bool → Formula → ℕ → Type 0 where
  -- one for truth and for its negation
  of_truth : (positive : Bool) → IsWork d cs positive Truth 1
  -- the ground atoms with the symbol and the other sign
  of_atom : (positive : Bool) (s : Sym) (ts : List Term) (n : ℕ) → IsCount (IsSigned d cs (not positive) s) n → IsWork d cs positive (formula.Atom s ts) (capped n)
  -- the ground equations whose negations are facts
  of_equation : (t u : Term) (n : ℕ) → IsCount (IsDisequal d cs) n → IsWork d cs true (formula.Eq t u) (capped n)
  -- the ground terms
  of_disequation : (t u : Term) (n : ℕ) → IsCount (IsGroundTerm d cs) n → IsWork d cs false (formula.Eq t u) (capped n)
  of_negation : (positive : Bool) (f : Formula) (n : ℕ) → IsWork d cs (not positive) f n → IsWork d cs positive (Not f) n
  -- the sum over the parts of a conjunction, and the product over the negated parts of a negated one
  of_conjunction : (f g : Formula) (m n : ℕ) → IsWork d cs true f m → IsWork d cs true g n → IsWork d cs true (And f g) (capped (m + n))
  of_negated_conjunction : (f g : Formula) (m n : ℕ) → IsWork d cs false f m → IsWork d cs false g n → IsWork d cs false (And f g) (capped (m * n))
  -- that of the body
  of_universal : (b : Formula) (n : ℕ) → IsWork d cs true b n → IsWork d cs true (All b) n
  -- the universals of the disjunct, repetitions included
  of_negated_universal : (b : Formula) → IsWork d cs false (All b) (capped (length d.universals))

abbrev pub most_work : ℕ
most_work = 10000000
