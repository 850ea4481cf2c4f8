-- Laws of forced literals.
use Rattle.std.specs.Prelude.{◌≡◌, Bool, true, false, List, ℕ}
use Rattle.mz_logic.specs.Formula.{Formula}
use Rattle.mz_logic.specs.Derives.{Derives}
use Rattle.mz_logic.specs.Literal.{signed, literal_formula}
use Rattle.mz_logic.specs.declared.literal.Literal.{Literal}
use Rattle.mz_logic.specs.declared.disjunct.Disjunct.{Disjunct}
use Rattle.mz_ground.specs.declared.clause.Clause.{Clause}
use Rattle.mz_ground.specs.Laws.{IsGranted}
use Rattle.mz_refute.specs.Laws.{AreGranted}
use Rattle.mz_forced.specs.Forced.{IsForced}
use Rattle.mz_forced.specs.Force.{IsForce}
use Rattle.mz_forced.specs.Added.{IsNext}

-- a literal that a formula forces derives from the formula, the disjunct and the clauses
abbrev pub ForcedLaw : Type 0
ForcedLaw =
    (axioms premises : List Formula) (d : Disjunct) (cs : List Clause) → IsGranted axioms premises d cs → AreGranted axioms premises d →
    (positive : Bool) (f : Formula) (l : Literal) → Derives axioms premises (signed positive f) → IsForced d cs positive f l → Derives axioms premises (literal_formula l)

-- what a disjunct is granted by, the next one is
abbrev pub NextLaw : Type 0
NextLaw =
    (axioms premises : List Formula) (d next : Disjunct) (cs : List Clause) → IsGranted axioms premises d cs → AreGranted axioms premises d →
    IsNext d cs next → IsGranted axioms premises next cs × AreGranted axioms premises next

-- a disjunct has one next disjunct at most
abbrev pub OneNextLaw : Type 0
OneNextLaw = (d : Disjunct) (cs : List Clause) (n m : Disjunct) → IsNext d cs n → IsNext d cs m → n ≡ m

-- a formula has one force at most
abbrev pub OneForceLaw : Type 0
OneForceLaw = (d : Disjunct) (cs : List Clause) (positive : Bool) (f : Formula) (m n : ℕ) → IsForce d cs positive f m → IsForce d cs positive f n → m ≡ n
