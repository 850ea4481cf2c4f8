-- What a checker for tests answers. It accepts each text with a byte; the export has no items, and depends on HIDDEN
-- where the first byte is `+`.
use Rattle.std.specs.Prelude.{◌≡◌, ℕ, ◌==◌, if◌then◌else◌, List, [], ◌∷◌, None}
use Rattle.mz_base.specs.declared.name.Name.{Name}
use Rattle.mz_base.specs.declared.rule_code.RuleCode.TheVariants.{NotBuilt}
use Rattle.mz_core.specs.declared.fault.Fault.{Fault}
use Rattle.mz_core.specs.declared.outcome.Export.{Export}
use Rattle.mz_core.specs.declared.outcome.Outcome.{Outcome}
use Rattle.mz_core.specs.declared.outcome.Outcome.TheVariants.{Accepted, Rejected}
use Rattle.mz_axioms.specs.Names.{hidden_name}
use Rattle.mz_axioms.specs.Checker.{OutcomeRelation}

-- one fault at the start
abbrev pub one_fault : Fault
one_fault = record { place = record { line = 1; column = 1 }; code = NotBuilt; number = None }

-- HIDDEN where the byte is `+`
abbrev pub dependencies_of : ℕ → List Name
dependencies_of b = if b == 43 then hidden_name ∷ [] else []

-- the export without items
abbrev pub export_with : Name → List Name → Export
export_with name dependencies = record { name = name; dependencies = dependencies; items = []; notations = [] }

abbrev pub plain : Name → List ℕ → Outcome
plain name [] = Rejected (one_fault ∷ [])
plain name (b ∷ bs) = Accepted (export_with name (dependencies_of b))

abbrev pub IsPlain : OutcomeRelation
IsPlain name vocabularies exports bytes o = o ≡ plain name bytes
