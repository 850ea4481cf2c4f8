-- What it takes for an obligation to be met.
use Rattle.std.specs.Prelude.{◌≡◌, List, ◌++◌, map, take}
use Rattle.mz_logic.specs.Formula.{Formula}
use Rattle.mz_logic.specs.Derives.{Derives}
use Rattle.mz_ground.specs.ClauseFormula.{clause_formula}
use Rattle.mz_ground.specs.declared.clause.Clause.{Clause}
use Rattle.mz_obligations.specs.declared.obligation.Duty.{Duty}
use Rattle.mz_obligations.specs.declared.obligation.Duty.TheVariants.{By, From}
use Rattle.mz_obligations.specs.declared.obligation.Obligation.{Obligation}
use Rattle.mz_obligations.specs.declared.obligation.SchemeVerdict.TheVariants.{Fits}

-- the clauses by which an obligation is decided: the first of an article's clauses, as many as stood above its place, and those of
-- the letters in force there
abbrev pub clauses_for : List Clause → Obligation → List Clause
clauses_for clauses o = take o.extent.clauses clauses ++ o.letters

-- what a duty asks: a problem's conclusion derives from its premises and the clauses; a scheme fits
abbrev pub IsDone : List Formula → List Clause → Duty → Type 0
IsDone axioms cs (By p) = Derives axioms (p.premises ++ map clause_formula cs) p.conclusion
IsDone axioms cs (From v) = v ≡ Fits
