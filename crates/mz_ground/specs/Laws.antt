-- Laws of clauses and facts.
use Rattle.std.specs.Prelude.{◌≡◌, true, List, length, Contains}
use Rattle.std.specs.List.{list_all}
use Rattle.mz_logic.specs.Term.{Term}
use Rattle.mz_logic.specs.Formula.{Formula}
use Rattle.mz_logic.specs.Indices.{closed}
use Rattle.mz_logic.specs.Negation.{falsity}
use Rattle.mz_logic.specs.Literal.{literal_formula}
use Rattle.mz_logic.specs.Derives.{Derives}
use Rattle.mz_logic.specs.declared.literal.Literal.{Literal}
use Rattle.mz_logic.specs.declared.disjunct.Disjunct.{Disjunct}
use Rattle.mz_ground.specs.declared.clause.Clause.{Clause}
use Rattle.mz_ground.specs.Instance.{premises_at, conclusion_at}
use Rattle.mz_ground.specs.ClauseFormula.{clause_formula, implication}
use Rattle.mz_ground.specs.Facts.{Fact, IsContradictory}

-- the disjunct's literals and the clauses derive from the premises
pub record IsGranted (axioms premises : List Formula) (d : Disjunct) (cs : List Clause) : Type 0 where
  pub literals : (l : Literal) → Contains d.literals l → Derives axioms premises (literal_formula l)
  pub clauses : (c : Clause) → Contains cs c → Derives axioms premises (clause_formula c)

-- an instance of a clause at closed terms derives from the clause
abbrev pub ClauseInstanceLaw : Type 0
ClauseInstanceLaw =
    (axioms premises : List Formula) (c : Clause) (ts : List Term) →
    list_all closed ts ≡ true → length ts ≡ c.variables → Derives axioms premises (clause_formula c) →
    Derives axioms premises (implication (premises_at c ts) (conclusion_at c ts))

-- each fact derives from the disjunct's literals and the clauses
abbrev pub FactsLaw : Type 0
FactsLaw =
    (axioms premises : List Formula) (d : Disjunct) (cs : List Clause) → IsGranted axioms premises d cs →
    (l : Literal) → Fact d cs l → Derives axioms premises (literal_formula l)

-- contradictory facts derive falsity
abbrev pub ContradictionLaw : Type 0
ContradictionLaw =
    (axioms premises : List Formula) (d : Disjunct) (cs : List Clause) → IsGranted axioms premises d cs →
    IsContradictory d cs → Derives axioms premises falsity
