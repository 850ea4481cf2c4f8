-- Laws of refutation.
use Rattle.std.specs.Prelude.{Bool, true, false, List, Contains}
use Rattle.mz_logic.specs.Formula.{Formula, Not}
use Rattle.mz_logic.specs.Negation.{falsity}
use Rattle.mz_logic.specs.Derives.{Derives}
use Rattle.mz_logic.specs.declared.disjunct.Disjunct.{Disjunct}
use Rattle.mz_ground.specs.declared.clause.Clause.{Clause}
use Rattle.mz_ground.specs.Laws.{IsGranted}
use Rattle.mz_refute.specs.Refuted.{IsRefuted}
use Rattle.mz_refute.specs.Closes.{IsClosed}

-- the disjunct's universals derive from the premises
abbrev pub AreGranted : List Formula → List Formula → Disjunct → Type 0
AreGranted axioms premises d = (f : Formula) → Contains d.universals f → Derives axioms premises f

-- the negation of a formula, or the formula itself where its negation is meant
abbrev pub refutation : Bool → Formula → Formula
refutation true f = Not f
refutation false f = f

-- the negation of what is refuted derives from the disjunct and the clauses
abbrev pub RefutationLaw : Type 0
RefutationLaw =
    (axioms premises : List Formula) (d : Disjunct) (cs : List Clause) → IsGranted axioms premises d cs → AreGranted axioms premises d →
    (positive : Bool) (f : Formula) → IsRefuted d cs positive f → Derives axioms premises (refutation positive f)

-- falsity derives from a closed disjunct and the clauses
abbrev pub ClosedLaw : Type 0
ClosedLaw =
    (axioms premises : List Formula) (d : Disjunct) (cs : List Clause) → IsGranted axioms premises d cs → AreGranted axioms premises d →
    IsClosed d cs → Derives axioms premises falsity
