-- What a worker takes, and what it brings back.
use Rattle.std.specs.Prelude.{ℕ, List}
use Rattle.mz_base.specs.declared.name.Name.{Name}
use Rattle.mz_base.specs.NamedText.{NamedText}
use Rattle.mz_core.specs.declared.outcome.Export.{Export}
use Rattle.mz_core.specs.declared.outcome.Outcome.{Outcome}
use Rattle.mz_axioms.specs.Checker.{OutcomeRelation}

-- a claimed row and its worker, and all that its check reads
pub record Job : Type 0 where
  pub row : ℕ
  pub worker : ℕ
  pub name : Name
  pub text : List ℕ
  pub vocabularies : List NamedText
  pub exports : List Export

-- a job with the outcome that a checker gives for it
pub record Done : Type 0 where
  pub job : Job
  pub outcome : Outcome

-- the outcome is that of the job's input
abbrev pub IsOutcomeOf : OutcomeRelation → Job → Outcome → Type 0
IsOutcomeOf is_outcome job o = is_outcome job.name job.vocabularies job.exports job.text o
