-- Obligations judged: which of them are met, and the faults of the others.
use Rattle.std.specs.Prelude.{◌≡◌, ℕ, List, [], ◌∷◌, Option, Some, None}
use Rattle.mz_base.specs.declared.place.Place.{Place}
use Rattle.mz_base.specs.declared.limit.Limit.{Limit}
use Rattle.mz_base.specs.declared.limit.Limit.TheVariants as limit
use Rattle.mz_base.specs.declared.rule_code.RuleCode.{RuleCode}
use Rattle.mz_base.specs.declared.rule_code.RuleCode.TheVariants as code
use Rattle.mz_core.specs.declared.fault.Fault.{Fault}
use Rattle.mz_ground.specs.declared.clause.Clause.{Clause}
use Rattle.mz_nf.specs.declared.problem.Problem.{Problem}
use Rattle.mz_by.specs.Verdict.{IsVerdict}
use Rattle.mz_by.specs.declared.by.ByVerdict.{ByVerdict}
use Rattle.mz_by.specs.declared.by.ByVerdict.TheVariants as verdict
use Rattle.mz_obligations.specs.Done.{clauses_for}
use Rattle.mz_obligations.specs.declared.obligation.Duty.TheVariants.{By, From}
use Rattle.mz_obligations.specs.declared.obligation.Obligation.{Obligation}
use Rattle.mz_obligations.specs.declared.obligation.SchemeVerdict.{SchemeVerdict}
use Rattle.mz_obligations.specs.declared.obligation.SchemeVerdict.TheVariants as scheme

-- the code of a limit
abbrev pub limit_code : Limit → RuleCode
limit_code limit.Disjuncts = code.TooManyDisjuncts
limit_code limit.Terms = code.TooManyTerms
limit_code limit.Atoms = code.TooManyAtoms
limit_code limit.Work = code.TooMuchWork

abbrev pub numbered : Place → RuleCode → ℕ → Fault
numbered place code n = record { place = place; code = code; number = Some n }

abbrev pub plain : Place → RuleCode → Fault
plain place code = record { place = place; code = code; number = None }

-- how a verdict is told at a place: what is closed has no fault
abbrev pub told : Place → ByVerdict → Option Fault
told p verdict.Closed = None
told p (verdict.Open disjunct) = Some (numbered p code.Open disjunct)
told p (verdict.Over limit n) = Some (numbered p (limit_code limit) n)

-- how the verdict on a scheme is told: what fits has no fault
abbrev pub scheme_told : Place → SchemeVerdict → Option Fault
scheme_told p scheme.Fits = None
scheme_told p scheme.NoFit = Some (plain p code.SchemeDoesNotFit)
scheme_told p (scheme.PremiseCount n) = Some (numbered p code.PremiseCount n)
scheme_told p (scheme.PremiseNoFit n) = Some (numbered p code.PremiseDoesNotFit n)

-- the obligation has this fault, by the clauses of its article; none where it is met
pub data IsJudged (cs : List Clause) (o : Obligation) : Option Fault → Type 0 where
  decided : (p : Problem) (v : ByVerdict) → o.duty ≡ By p → IsVerdict p (clauses_for cs o) v → IsJudged cs o (told o.place v)
  followed : (v : SchemeVerdict) → o.duty ≡ From v → IsJudged cs o (scheme_told o.place v)

-- the faults of obligations, in their order
pub data AreJudged (cs : List Clause) : List Obligation → List Fault → Type 0 where
  no_obligations : AreJudged cs [] []
  met : (o : Obligation) (os : List Obligation) (fs : List Fault) → IsJudged cs o None → AreJudged cs os fs → AreJudged cs (o ∷ os) fs
  unmet : (o : Obligation) (os : List Obligation) (f : Fault) (fs : List Fault) → IsJudged cs o (Some f) → AreJudged cs os fs → AreJudged cs (o ∷ os) (f ∷ fs)
