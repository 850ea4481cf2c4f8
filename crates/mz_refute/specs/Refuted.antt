-- Which formulas the facts of a disjunct refute.
use Rattle.std.specs.Prelude.{Bool, true, false, not, List, Contains}
use Rattle.mz_logic.specs.declared.sym.Sym.{Sym}
use Rattle.mz_logic.specs.Term.{Term}
use Rattle.mz_logic.specs.Formula as formula
use Rattle.mz_logic.specs.Formula.{Formula, Truth, Not, And, All}
use Rattle.mz_logic.specs.Substitution.{body_at}
use Rattle.mz_logic.specs.declared.literal.Literal.TheVariants.{Atom, Eq}
use Rattle.mz_logic.specs.declared.disjunct.Disjunct.{Disjunct}
use Rattle.mz_ground.specs.declared.clause.Clause.{Clause}
use Rattle.mz_ground.specs.Layers.{IsGroundTerm}
use Rattle.mz_ground.specs.Facts.{Fact}
use Rattle.mz_refute.specs.Valued.{IsValued, AreValued}
use Rattle.mz_refute.specs.EqualModuloFacts.{plain, FormulasEqualModuloFacts}

-- `IsRefuted d cs true f`: the formula f is refuted; `IsRefuted d cs false f`: its negation is
pub data IsRefuted (d : Disjunct) (cs : List Clause) : Bool → Formula → Type 0 where
  -- the negation of truth
  falsity : IsRefuted d cs false Truth
  -- an atom or its negation, where all arguments have values and the complement is a fact on these
  atom : (positive : Bool) (s : Sym) (ts vs : List Term) → AreValued d cs ts vs → Fact d cs (Atom (not positive) s vs) → IsRefuted d cs positive (formula.Atom s ts)
  -- an equation, where both sides have values of which the disequation is a fact
  equation : (t u v w : Term) → IsValued d cs t v → IsValued d cs u w → Fact d cs (Eq false v w) → IsRefuted d cs true (formula.Eq t u)
  -- a disequation, where both sides have one value
  disequation : (t u v : Term) → IsValued d cs t v → IsValued d cs u v → IsRefuted d cs false (formula.Eq t u)
  -- a negation, where what it negates is so with the other sign: so double negations don't count
  negation : (positive : Bool) (f : Formula) → IsRefuted d cs (not positive) f → IsRefuted d cs positive (Not f)
  -- a conjunction, where a part is
  first : (f g : Formula) → IsRefuted d cs true f → IsRefuted d cs true (And f g)
  second : (f g : Formula) → IsRefuted d cs true g → IsRefuted d cs true (And f g)
  -- a negated conjunction, where the negations of both parts are
  both : (f g : Formula) → IsRefuted d cs false f → IsRefuted d cs false g → IsRefuted d cs false (And f g)
  -- a universal, where its body is at some ground term
  at_term : (b : Formula) (t : Term) → IsGroundTerm d cs t → IsRefuted d cs true (body_at b t) → IsRefuted d cs true (All b)
  -- a negated universal, where the universal is congruent to one of the disjunct's
  listed : (b u : Formula) → Contains d.universals u → FormulasEqualModuloFacts d cs (plain (All b)) (plain u) → IsRefuted d cs false (All b)
