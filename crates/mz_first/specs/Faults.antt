-- How refusals are told. Want of memory is no fault of a text.
use Rattle.std.specs.Prelude.{Option, Some, None}
use Rattle.mz_base.specs.declared.place.Place.{Place}
use Rattle.mz_base.specs.declared.rule_code.RuleCode.{RuleCode}
use Rattle.mz_base.specs.declared.rule_code.RuleCode.TheVariants as code
use Rattle.mz_core.specs.declared.fault.Fault.{Fault}
use Rattle.mz_lex.specs.declared.head_fault.HeadFault.{HeadFault}
use Rattle.mz_lex.specs.declared.head_fault.HeadFault.TheVariants as head
use Rattle.mz_lex.specs.declared.lex_fault.LexFault.{LexFault}
use Rattle.mz_lex.specs.declared.lex_fault.LexFault.TheVariants as lex

-- a fault without a number
abbrev pub plain : Place → RuleCode → Fault
plain place code = record { place = place; code = code; number = None }

-- of an environment part
abbrev pub head_told : HeadFault → Option Fault
head_told (head.BadByte p) = Some (plain p code.BadByte)
head_told (head.Pragma p) = Some (plain p code.Pragma)
head_told (head.TooManyTokens p) = Some (plain p code.TooManyTokens)
head_told (head.Unexpected p) = Some (plain p code.UnexpectedToken)
head_told (head.EndsEarly p) = Some (plain p code.EndsEarly)
head_told (head.Profile2 p) = Some (plain p code.DirectiveOfProfile2)
head_told (head.Memory a) = None

-- of tokens
abbrev pub lex_told : LexFault → Option Fault
lex_told (lex.BadByte p) = Some (plain p code.BadByte)
lex_told (lex.Pragma p) = Some (plain p code.Pragma)
lex_told (lex.TooManyTokens p) = Some (plain p code.TooManyTokens)
lex_told (lex.Memory a) = None
