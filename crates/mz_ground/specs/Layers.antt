-- The ground part of a disjunct under clauses, by layers.
use Rattle.std.specs.Prelude.{◌≡◌, ◌≤◌, ℕ, suc, true, List, [], ◌∷◌, ◌++◌, length, Contains}
use Rattle.mz_logic.specs.declared.sym.Sym.{Sym}
use Rattle.mz_logic.specs.Term.{Term, Const}
use Rattle.mz_logic.specs.Formula.{Formula}
use Rattle.mz_logic.specs.Literal.{literal_formula}
use Rattle.mz_logic.specs.declared.literal.Literal.{Literal}
use Rattle.mz_logic.specs.declared.literal.Literal.TheVariants.{Atom, Eq}
use Rattle.mz_logic.specs.declared.disjunct.Disjunct.{Disjunct}
use Rattle.mz_ground.specs.GroundExpression.{GroundExpression, TermExpression, AtomExpression, EquationExpression, Has, expression_closed}
use Rattle.mz_ground.specs.Instance.{trigger_at, premises_at, conclusion_at, instance_nodes}
use Rattle.mz_ground.specs.declared.clause.Clause.{Clause}

-- an instance with more nodes adds nothing
abbrev pub most_nodes : ℕ
most_nodes = 4096

-- the expression stands in the layer n or in one before it
pub data InLayer (d : Disjunct) (cs : List Clause) : ℕ → GroundExpression → Type 0 where
  -- the constant 0
  first_constant : InLayer d cs 0 (TermExpression (Const 0))
  -- what stands in a literal or a universal, without an index
  of_literal : (l : Literal) (p : GroundExpression) → Contains d.literals l → Has (literal_formula l) p → expression_closed p ≡ true → InLayer d cs 0 p
  of_universal : (f : Formula) (p : GroundExpression) → Contains d.universals f → Has f p → expression_closed p ≡ true → InLayer d cs 0 p
  -- what stood there before
  earlier : (n : ℕ) (p : GroundExpression) → InLayer d cs n p → InLayer d cs (suc n) p
  -- what stands in an instance whose trigger stood there before
  added : (n : ℕ) (c : Clause) (ts : List Term) (l : Literal) (p : GroundExpression) →
      Contains cs c → length ts ≡ c.variables → InLayer d cs n (trigger_at ts c.trigger) → instance_nodes c ts ≤ most_nodes →
      Contains (premises_at c ts ++ conclusion_at c ts ∷ []) l → Has (literal_formula l) p → expression_closed p ≡ true → InLayer d cs (suc n) p

-- how many layers follow the first
abbrev pub further_layers : ℕ
further_layers = 4

-- the expression stands in the ground part
abbrev pub IsGroundExpression : Disjunct → List Clause → GroundExpression → Type 0
IsGroundExpression d cs p = InLayer d cs further_layers p

abbrev pub IsGroundTerm : Disjunct → List Clause → Term → Type 0
IsGroundTerm d cs t = IsGroundExpression d cs (TermExpression t)

abbrev pub IsGroundAtom : Disjunct → List Clause → Sym → List Term → Type 0
IsGroundAtom d cs s ts = IsGroundExpression d cs (AtomExpression s ts)

-- the literal's atom or equation stands in the ground part
abbrev pub IsGroundLiteral : Disjunct → List Clause → Literal → Type 0
IsGroundLiteral d cs (Atom positive s ts) = IsGroundAtom d cs s ts
IsGroundLiteral d cs (Eq positive t u) = IsGroundExpression d cs (EquationExpression t u)
