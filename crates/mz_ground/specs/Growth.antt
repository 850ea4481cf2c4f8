-- How a ground part grows while it is made.
use Rattle.std.specs.Prelude.{◌≡◌, ◌<◌, ◌≤◌, ◌⊎◌, ℕ, true, List, length, map, Contains}
use Rattle.mz_logic.specs.Term.{Term}
use Rattle.mz_logic.specs.Formula.{Formula}
use Rattle.mz_logic.specs.Literal.{literal_formula}
use Rattle.mz_logic.specs.declared.literal.Literal.{Literal}
use Rattle.mz_ground.specs.GroundExpression.{GroundExpression, TermExpression, AtomExpression, EquationExpression, IsAtomExpression, Has, expression_closed}
use Rattle.mz_ground.specs.Ground.{term_at, ground_terms, ground_atoms, ground_equations, IsDistinct, most_terms, most_atoms}
use Rattle.mz_ground.specs.Table.{Extends, IsTable}
use Rattle.mz_ground.specs.declared.ground_part.Ground.{Ground}
use Rattle.mz_ground.specs.declared.ground_atom.GroundAtom.{GroundAtom}
use Rattle.mz_ground.specs.declared.ground_equation.GroundEquation.{GroundEquation}

-- the expression stands in the lists
abbrev pub IsMember : Ground → GroundExpression → Type 0
IsMember g (TermExpression t) = Contains (ground_terms g) t
IsMember g (AtomExpression s ts) = Contains (ground_atoms g) (AtomExpression s ts)
IsMember g (EquationExpression t u) = Contains (ground_equations g) (EquationExpression t u)

-- the expression stands in the lists, or it is an atom and they have more atoms than the limit
abbrev pub IsStored : Ground → GroundExpression → Type 0
IsStored g p = IsMember g p ⊎ (IsAtomExpression p × (most_atoms < length g.atoms))

-- arguments are places of terms, those of a term stand before it, and each expression stands once
pub record IsNumbered (g : Ground) : Type 0 where
  pub table : IsTable g.terms
  pub atoms_within : (a : GroundAtom) (k : ℕ) → Contains g.atoms a → Contains a.args k → k < length g.terms
  pub equations_within : (e : GroundEquation) → Contains g.equations e → (e.left < length g.terms) × (e.right < length g.terms)
  pub distinct_atoms : IsDistinct (ground_atoms g)
  pub distinct_equations : IsDistinct (ground_equations g)

-- the places are those of the terms
pub record ReadsIn (g : Ground) (places : List ℕ) (ts : List Term) : Type 0 where
  pub numbered : IsNumbered g
  pub within : (k : ℕ) → Contains places k → k < length g.terms
  pub terms : map (term_at (ground_terms g)) places ≡ ts

-- the expressions of which Q holds were put behind those of g; all of them, if there are no more terms than the limit, except
-- for atoms past theirs
pub record Grows (g : Ground) (Q : GroundExpression → Type 0) (h : Ground) : Type 0 where
  pub numbered : IsNumbered h
  pub terms : Extends g.terms h.terms
  pub atoms : Extends g.atoms h.atoms
  pub equations : Extends g.equations h.equations
  pub ends : h.ends ≡ g.ends
  pub sound : (p : GroundExpression) → IsMember h p → IsMember g p ⊎ Q p
  pub complete : length h.terms ≤ most_terms → (p : GroundExpression) → Q p → IsStored h p

-- the expression stands in the formula and has no index
pub record IsExpressionOf (f : Formula) (p : GroundExpression) : Type 0 where
  pub has : Has f p
  pub is_closed : expression_closed p ≡ true

-- it stands in one of the literals, or of the formulas
pub record IsExpressionOfLiterals (ls : List Literal) (p : GroundExpression) : Type 0 where
  pub literal : Literal
  pub among : Contains ls literal
  pub expression : IsExpressionOf (literal_formula literal) p

pub record IsExpressionOfFormulas (fs : List Formula) (p : GroundExpression) : Type 0 where
  pub formula : Formula
  pub among : Contains fs formula
  pub expression : IsExpressionOf formula p
