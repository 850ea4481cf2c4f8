-- The force of a formula: how much may have to be looked at for the literals that it forces.
use Rattle.std.specs.Prelude.{ℕ, ◌+◌, ◌*◌, ◌^◌, ◌⊎◌, ◌≡◌, Bool, true, false, not, List, [], ◌∷◌, ◌++◌, Contains}
use Rattle.mz_logic.specs.declared.sym.Sym.{Sym}
use Rattle.mz_logic.specs.Capped.{capped}
use Rattle.mz_logic.specs.Term.{Term, Terms, Bound, Const, App, none, more, terms_of}
use Rattle.mz_logic.specs.Formula as formula
use Rattle.mz_logic.specs.Formula.{Formula, Truth, Not, And, All}
use Rattle.mz_logic.specs.declared.disjunct.Disjunct.{Disjunct}
use Rattle.mz_ground.specs.declared.clause.Clause.{Clause}
use Rattle.mz_ground.specs.Layers.{IsGroundTerm}
use Rattle.mz_refute.specs.Counted.{IsCount}
use Rattle.mz_refute.specs.Work.{IsWork}

-- the indices of bound variables in terms, from left to right
abbrev mutual
  pub indices : Term → List ℕ
  indices (Bound index) = index ∷ []
  indices (Const number) = []
  indices (App s ts) = all_indices ts

  pub all_indices : Terms → List ℕ
  all_indices none = []
  all_indices (more t ts) = indices t ++ all_indices ts

-- the terms have n different indices, and there are m ground terms
pub record HaveChoices (d : Disjunct) (cs : List Clause) (ts : List Term) (m n : ℕ) : Type 0 where
  pub terms : IsCount (IsGroundTerm d cs) m
  pub variables : IsCount (Contains (all_indices (terms_of ts))) n

-- `IsForce d cs true f n`: n is the force of f; `IsForce d cs false f n`: that of its negation
pub data IsForce (d : Disjunct) (cs : List Clause) : Bool → Formula → ℕ → Type 0 where
  -- of a literal the number of ground terms to the power of that of its different variables
  of_atom : (positive : Bool) (s : Sym) (ts : List Term) (m n : ℕ) → HaveChoices d cs ts m n → IsForce d cs positive (formula.Atom s ts) (capped (m ^ n))
  of_equation : (positive : Bool) (t u : Term) (m n : ℕ) → HaveChoices d cs (t ∷ u ∷ []) m n → IsForce d cs positive (formula.Eq t u) (capped (m ^ n))
  of_negation : (positive : Bool) (f : Formula) (n : ℕ) → IsForce d cs (not positive) f n → IsForce d cs positive (Not f) n
  -- of a conjunction the sum
  of_conjunction : (f g : Formula) (m n : ℕ) → IsForce d cs true f m → IsForce d cs true g n → IsForce d cs true (And f g) (capped (m + n))
  -- of a negated one each negated part's force times the work of the other's
  of_negated_conjunction : (f g : Formula) (m n v w : ℕ) → IsForce d cs false f m → IsForce d cs false g n → IsWork d cs false f v → IsWork d cs false g w → IsForce d cs false (And f g) (capped (m * w + v * n))
  -- of a universal that of its body
  of_universal : (b : Formula) (n : ℕ) → IsForce d cs true b n → IsForce d cs true (All b) n
  -- of all else 0
  of_truth : (positive : Bool) → IsForce d cs positive Truth 0
  of_negated_universal : (b : Formula) → IsForce d cs false (All b) 0
