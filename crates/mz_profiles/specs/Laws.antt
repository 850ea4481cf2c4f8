-- Laws of verdicts under a profile.
use Rattle.std.specs.Prelude.{◌≡◌, ◌↔◌, List}
use Rattle.mz_base.specs.declared.profile.Profile.{Profile}
use Rattle.mz_base.specs.declared.profile.Profile.TheVariants.{One, Two}
use Rattle.mz_nf.specs.declared.problem.Problem.{Problem}
use Rattle.mz_ground.specs.declared.clause.Clause.{Clause}
use Rattle.mz_ground.specs.ClauseFormula.{HaveNoConstants}
use Rattle.mz_by.specs.declared.by.ByVerdict.{ByVerdict}
use Rattle.mz_by.specs.declared.by.ByVerdict.TheVariants.{Closed}
use Rattle.mz_by.specs.Verdict.{IsVerdict}
use Rattle.mz_by.specs.Laws.{IsDerived}
use Rattle.mz_profiles.specs.Verdict.{IsVerdictUnder}

-- a problem has one verdict at most under a profile
abbrev pub OneVerdictUnderLaw : Type 0
OneVerdictUnderLaw = (profile : Profile) (p : Problem) (cs : List Clause) (v w : ByVerdict) → IsVerdictUnder profile p cs v → IsVerdictUnder profile p cs w → v ≡ w

-- under the first profile it is the verdict by facts and universals alone
abbrev pub FirstProfileLaw : Type 0
FirstProfileLaw = (p : Problem) (cs : List Clause) (v : ByVerdict) → IsVerdictUnder One p cs v ↔ IsVerdict p cs v

-- what is closed under the first profile is closed under the second
abbrev pub BothProfilesLaw : Type 0
BothProfilesLaw = (p : Problem) (cs : List Clause) → IsVerdictUnder One p cs Closed → IsVerdictUnder Two p cs Closed

-- what is closed under a profile by clauses without constants derives
abbrev pub ClosedUnderLaw : Type 0
ClosedUnderLaw = (profile : Profile) (p : Problem) (cs : List Clause) → IsVerdictUnder profile p cs Closed → HaveNoConstants cs → IsDerived p cs
