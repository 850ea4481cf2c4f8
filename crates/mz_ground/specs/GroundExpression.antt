-- Terms, atoms and equations that stand in formulas.
use Rattle.std.specs.Prelude.{Bool, ◌&&◌, List, Contains}
use Rattle.std.specs.List.{list_all}
use Rattle.mz_logic.specs.declared.sym.Sym.{Sym}
use Rattle.mz_logic.specs.Term.{Term, App, terms_of}
use Rattle.mz_logic.specs.Indices.{closed}
use Rattle.mz_logic.specs.Formula.{Formula, Eq, Atom, Not, And, All}

-- a term, an atom or an equation
pub data GroundExpression : Type 0 where
  TermExpression : Term → GroundExpression
  AtomExpression : Sym → List Term → GroundExpression
  EquationExpression : Term → Term → GroundExpression

abbrev pub IsAtomExpression : GroundExpression → Type 0
IsAtomExpression (TermExpression t) = ⊥
IsAtomExpression (AtomExpression s ts) = Unit {0}
IsAtomExpression (EquationExpression t u) = ⊥

-- it has no index
abbrev pub expression_closed : GroundExpression → Bool
expression_closed (TermExpression t) = closed t
expression_closed (AtomExpression s ts) = list_all closed ts
expression_closed (EquationExpression t u) = closed t && closed u

-- u is t or a term within it
pub data IsWithin (u : Term) : Term → Type 0 where
  whole : IsWithin u u
  argument : (s : Sym) (ts : List Term) (t : Term) → Contains ts t → IsWithin u t → IsWithin u (App s (terms_of ts))

-- the expression stands in the formula
pub data Has : Formula → GroundExpression → Type 0 where
  the_atom : (s : Sym) (ts : List Term) → Has (Atom s ts) (AtomExpression s ts)
  the_equation : (t u : Term) → Has (Eq t u) (EquationExpression t u)
  in_atom : (s : Sym) (ts : List Term) (t u : Term) → Contains ts t → IsWithin u t → Has (Atom s ts) (TermExpression u)
  in_left : (t u v : Term) → IsWithin v t → Has (Eq t u) (TermExpression v)
  in_right : (t u v : Term) → IsWithin v u → Has (Eq t u) (TermExpression v)
  in_negation : (f : Formula) (p : GroundExpression) → Has f p → Has (Not f) p
  in_first : (f g : Formula) (p : GroundExpression) → Has f p → Has (And f g) p
  in_second : (f g : Formula) (p : GroundExpression) → Has g p → Has (And f g) p
  in_body : (f : Formula) (p : GroundExpression) → Has f p → Has (All f) p
