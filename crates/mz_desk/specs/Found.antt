-- What a check found, as it is stored.
use Rattle.std.specs.Prelude.{◌≡◌, List}
use Rattle.std.specs.Arc.{arc_value}
use Rattle.mz_core.specs.declared.outcome.Outcome.{Outcome}
use Rattle.mz_core.specs.declared.outcome.Outcome.TheVariants as outcome
use Rattle.mz_turns.specs.Row.{Row}
use Rattle.mz_turns.specs.Library.{IsFreshIn}
use Rattle.mz_rows.specs.Counts.{counts_of}
use Rattle.mz_desk.specs.declared.job.Found.{Found}
use Rattle.mz_desk.specs.declared.job.Found.TheVariants.{Accepted, Rejected}

abbrev pub outcome_from : Found → Outcome
outcome_from (Accepted export shared counts) = outcome.Accepted (arc_value export)
outcome_from (Rejected faults) = outcome.Rejected faults

-- the export is there twice, with its counts
abbrev pub IsFound : Found → Type 0
IsFound (Accepted export shared counts) = (arc_value shared ≡ arc_value export) × (counts ≡ counts_of (arc_value export).items)
IsFound (Rejected faults) = Unit {0}

-- no accepted row has the name of an accepted outcome's export
abbrev pub IsFreshFor : List Row → Outcome → Type 0
IsFreshFor rows (outcome.Accepted e) = IsFreshIn rows e
IsFreshFor rows (outcome.Rejected fs) = Unit {0}
