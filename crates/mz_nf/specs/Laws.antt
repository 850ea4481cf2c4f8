-- Laws of the disjuncts of a problem.
use Rattle.std.specs.Prelude.{◌≡◌, ℕ, ◌≤◌, false, List, ◌++◌, length, Contains}
use Rattle.std.specs.List.{list_any}
use Rattle.mz_logic.specs.Formula.{Formula}
use Rattle.mz_logic.specs.Constants.{occurs_in_formula}
use Rattle.mz_logic.specs.Negation.{falsity}
use Rattle.mz_logic.specs.Derives.{Derives}
use Rattle.mz_logic.specs.declared.disjunct.Disjunct.{Disjunct}
use Rattle.mz_nf.specs.declared.problem.Problem.{Problem}
use Rattle.mz_nf.specs.Problem.{has_constant}
use Rattle.mz_nf.specs.Disjunct.{formulas_of}
use Rattle.mz_nf.specs.Splits.{AreDisjuncts}
use Rattle.mz_logic.specs.Capped.{capped}
use Rattle.mz_nf.specs.Count.{count_of}

-- each problem has one list of disjuncts, and no other
abbrev pub OneListLaw : Type 0
OneListLaw =
    (p : Problem) →
    (ds : List Disjunct) × AreDisjuncts p ds × ((es : List Disjunct) → AreDisjuncts p es → es ≡ ds)

-- the count of a problem is the length of its list, or 1,000,000,000 where that is greater
abbrev pub CountLaw : Type 0
CountLaw = (p : Problem) (ds : List Disjunct) → AreDisjuncts p ds → count_of p ≡ capped (length ds)

-- no constant of the formulas is new to the problem
abbrev pub HasConstantsOf : Problem → List Formula → Type 0
HasConstantsOf p fs = (c : ℕ) → 1 ≤ c → has_constant p c ≡ false → list_any (occurs_in_formula c) fs ≡ false

-- where each disjunct of a problem, together with clauses, gives falsity, the conclusion derives
-- from the premises and the clauses
abbrev pub SplittingLaw : Type 0
SplittingLaw =
    (axioms clauses : List Formula) (p : Problem) (ds : List Disjunct) →
    AreDisjuncts p ds → HasConstantsOf p clauses →
    ((d : Disjunct) → Contains ds d → Derives axioms (formulas_of d ++ clauses) falsity) →
    Derives axioms (p.premises ++ clauses) p.conclusion
