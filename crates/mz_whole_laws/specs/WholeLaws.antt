-- Reasonings in whole contexts are sound.
use Rattle.mz_environment.specs.declared.environment.Environment.{Environment}
use Rattle.mz_closed_laws.specs.ClosedEnvironment.{IsClosedEnvironment}
use Rattle.mz_term_laws.specs.Whole.{IsWhole}
pub use Rattle.mz_walk_laws.specs.Grounds.{ReadsWell}
use Rattle.mz_walk_laws.specs.WalkLaws.{SkeletonLaw, JustificationLaw, StatementLaw}

-- by an environment that has no constant and no loose index, what is read in a whole context stands, and whole contexts stay
-- whole
abbrev pub ReadsWellLaw : Type 0
ReadsWellLaw = (e : Environment) → IsClosedEnvironment e → ReadsWell e (IsWhole 0)

-- so the laws of reasonings hold of them
abbrev pub WholeSkeletonLaw : Type 0
WholeSkeletonLaw = SkeletonLaw (IsWhole 0)

abbrev pub WholeJustificationLaw : Type 0
WholeJustificationLaw = JustificationLaw (IsWhole 0)

abbrev pub WholeStatementLaw : Type 0
WholeStatementLaw = StatementLaw (IsWhole 0)
