-- What a closed problem means.
use Rattle.std.specs.Prelude.{◌≡◌, List, [], ◌++◌, map}
use Rattle.mz_logic.specs.Derives.{Derives}
use Rattle.mz_nf.specs.declared.problem.Problem.{Problem}
use Rattle.mz_ground.specs.declared.clause.Clause.{Clause}
use Rattle.mz_ground.specs.ClauseFormula.{clause_formula}
use Rattle.mz_by.specs.declared.by.ByVerdict.{ByVerdict}
use Rattle.mz_by.specs.Verdict.{IsVerdict}

-- the conclusion derives from the premises and the clauses, without axioms
abbrev pub IsDerived : Problem → List Clause → Type 0
IsDerived p cs = Derives [] (p.premises ++ map clause_formula cs) p.conclusion

-- a problem has one verdict at most
abbrev pub OneVerdictLaw : Type 0
OneVerdictLaw = (p : Problem) (cs : List Clause) (v w : ByVerdict) → IsVerdict p cs v → IsVerdict p cs w → v ≡ w
