-- What the universals of a disjunct say.
use Rattle.std.specs.Prelude.{ℕ, List, Option, Contains, All, MatchOption}
use Rattle.mz_logic.specs.Formula.{Formula}
use Rattle.mz_logic.specs.declared.disjunct.Disjunct.{Disjunct}
use Rattle.mz_ground.specs.declared.clause.Clause.{Clause}
use Rattle.mz_refute.specs.Closes.{IsRefutedWithin}
use Rattle.mz_refute.specs.Answered.{IsWithinWork}
use Rattle.mz_by.specs.Verdict.{HasFirstWork}
use Rattle.mz_by.specs.declared.examine.Examination.{Examination}
use Rattle.mz_by.specs.declared.examine.Examination.TheVariants.{Refuted, Over, Open}

-- none of the universals is refuted with work within the limit
abbrev pub IsNoneRefuted : Disjunct → List Clause → List Formula → Type 0
IsNoneRefuted d cs us = (u : Formula) → Contains us u → ¬ IsRefutedWithin d cs u

-- no work passes the limit, or this is the first that does
abbrev pub IsFirstWork : Disjunct → List Clause → List Formula → Option ℕ → Type 0
IsFirstWork d cs us work = MatchOption work (All (IsWithinWork d cs) us) (λ n. HasFirstWork d cs us n)

-- some universal is refuted; or none is, with the first work that passes the limit; or none is, and no work does
abbrev pub IsExamination : Disjunct → List Clause → List Formula → Examination → Type 0
IsExamination d cs us Refuted = (u : Formula) × Contains us u × IsRefutedWithin d cs u
IsExamination d cs us (Over work) = IsNoneRefuted d cs us × HasFirstWork d cs us work
IsExamination d cs us Open = IsNoneRefuted d cs us × All (IsWithinWork d cs) us

-- none of the universals so far is refuted, and this is the first work so far that passes the limit
abbrev pub IsSoFar : Disjunct → List Clause → List Formula → Option ℕ → Type 0
IsSoFar d cs us first = IsNoneRefuted d cs us × IsFirstWork d cs us first
