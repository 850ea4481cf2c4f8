-- Laws of judged obligations: one value at most, and what it means that there is no fault.
use Rattle.std.specs.Prelude.{◌≡◌, List, [], Contains}
use Rattle.mz_core.specs.declared.fault.Fault.{Fault}
use Rattle.mz_ground.specs.ClauseFormula.{HaveNoConstants}
use Rattle.mz_ground.specs.declared.clause.Clause.{Clause}
use Rattle.mz_obligations.specs.declared.obligation.Obligation.{Obligation}
use Rattle.mz_obligations.specs.Done.{clauses_for, IsDone}
use Rattle.mz_judged.specs.Judged.{AreJudged}

-- obligations have one list of faults at most
abbrev pub OneJudgementLaw : Type 0
OneJudgementLaw = (cs : List Clause) (os : List Obligation) (fs gs : List Fault) → AreJudged cs os fs → AreJudged cs os gs → fs ≡ gs

-- where there is no fault, each obligation is met by clauses without constants
abbrev pub MetLaw : Type 0
MetLaw =
    (cs : List Clause) (os : List Obligation) → AreJudged cs os [] →
    (o : Obligation) → Contains os o → HaveNoConstants (clauses_for cs o) → IsDone [] (clauses_for cs o) o.duty
