-- A checker that accepts nothing.
use Rattle.std.specs.Prelude.{◌≡◌, List, [], ◌∷◌, None}
use Rattle.std.proofs.Common.{sym, ◌∙◌}
use Rattle.mz_base.specs.declared.rule_code.RuleCode.TheVariants.{NotBuilt}
use Rattle.mz_core.specs.declared.outcome.Export.{Export}
use Rattle.mz_core.specs.declared.fault.Fault.{Fault}
use Rattle.mz_core.specs.declared.outcome.Outcome.{Outcome}
use Rattle.mz_core.specs.declared.outcome.Outcome.TheVariants.{Accepted, Rejected}
use Rattle.mz_axioms.specs.Checker.{OutcomeRelation, HasOneOutcome, AnswersName, KeepsSound}

-- one fault at the start
abbrev pub one_fault : Outcome
one_fault = Rejected (record { place = record { line = 1; column = 1 }; code = NotBuilt; number = None } ∷ [])

abbrev pub IsRejected : OutcomeRelation
IsRejected name vocabularies exports bytes o = o ≡ one_fault

pub rejected_is_accepted : (faults : List Fault) (e : Export) → Accepted e ≡ Rejected faults → ⊥
rejected_is_accepted faults e h = cc

pub rejected-once : HasOneOutcome IsRejected
rejected-once name vocabularies exports bytes o p h k = h ∙ sym k

pub rejected-name : AnswersName IsRejected
rejected-name name vocabularies exports bytes e h = absurd (rejected_is_accepted _ e h)

pub rejected-sound : KeepsSound IsRejected
rejected-sound name vocabularies exports bytes e library sound lacks from h = absurd (rejected_is_accepted _ e h)
