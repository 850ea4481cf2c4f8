-- How refusals of the reading are told.
use Rattle.std.specs.Prelude.{ℕ, Some}
use Rattle.mz_base.specs.declared.place.Place.{Place}
use Rattle.mz_base.specs.declared.rule_code.RuleCode.{RuleCode}
use Rattle.mz_base.specs.declared.rule_code.RuleCode.TheVariants as code
use Rattle.mz_core.specs.declared.fault.Fault.{Fault}
use Rattle.mz_names.specs.declared.refusal.Refusal.{Refusal}
use Rattle.mz_names.specs.declared.refusal.Refusal.TheVariants as reading
use Rattle.mz_justified.specs.declared.proof_fault.ProofRefusal.{ProofRefusal}
use Rattle.mz_justified.specs.declared.proof_fault.ProofRefusal.TheVariants as reasoning
use Rattle.mz_taken.specs.declared.item_fault.ItemRefusal.{ItemRefusal}
use Rattle.mz_taken.specs.declared.item_fault.ItemRefusal.TheVariants as item
use Rattle.mz_first.specs.Faults.{plain}

-- of an expression
abbrev pub reading_told : Refusal → Fault
reading_told (reading.UnknownSymbol p) = plain p code.UnknownSymbol
reading_told (reading.NoNotation p) = plain p code.NoNotation
reading_told (reading.UnknownVariable p) = plain p code.UnknownVariable
reading_told (reading.Unregistered p) = plain p code.UnregisteredCluster
reading_told (reading.UnfitArgument p) = plain p code.UnfitArgument
reading_told (reading.TooLarge p) = plain p code.TooLarge

-- of a reasoning
abbrev pub reasoning_told : ProofRefusal → Fault
reasoning_told (reasoning.StepNoFit p) = plain p code.StepDoesNotFit
reasoning_told (reasoning.ThesisLeft p) = plain p code.ThesisLeft
reasoning_told (reasoning.UnknownLabel p) = plain p code.UnknownLabel
reasoning_told (reasoning.Resolve r) = reading_told r
reasoning_told (reasoning.TooManyObligations p) = plain p code.TooManyObligations
reasoning_told (reasoning.NotBuilt p) = plain p code.NotBuilt

-- a fault with a number
abbrev pub numbered : Place → RuleCode → ℕ → Fault
numbered place code n = record { place = place; code = code; number = Some n }

-- of an item
abbrev pub item_told : ItemRefusal → Fault
item_told (item.Proof r) = reasoning_told r
item_told (item.ConditionMissing p n) = numbered p code.ConditionMissing n
item_told (item.ConditionStray p n) = numbered p code.StrayCondition n
item_told (item.BadLoci p) = plain p code.BadLoci
item_told (item.SelectorRepeated p) = plain p code.SelectorRepeated
item_told (item.AncestorUnfit p) = plain p code.AncestorUnfit
