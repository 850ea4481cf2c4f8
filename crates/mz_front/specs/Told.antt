-- How refusals in front of the reading are told. Want of memory is no fault of a text.
use Rattle.std.specs.Prelude.{ℕ, Option, Some, None}
use Rattle.mz_base.specs.declared.place.Place.{Place}
use Rattle.mz_base.specs.declared.rule_code.RuleCode.{RuleCode}
use Rattle.mz_base.specs.declared.rule_code.RuleCode.TheVariants as code
use Rattle.mz_core.specs.declared.fault.Fault.{Fault}
use Rattle.mz_voc.specs.declared.voc_fault.VocFault.{VocFault}
use Rattle.mz_voc.specs.declared.voc_fault.VocFault.TheVariants as voc
use Rattle.mz_lex.specs.declared.table_fault.TableFault.{TableFault}
use Rattle.mz_lex.specs.declared.table_fault.TableFault.TheVariants as table
use Rattle.mz_pterm.specs.declared.parse.ParseFault.{ParseFault}
use Rattle.mz_pterm.specs.declared.parse.ParseFault.TheVariants as parse
use Rattle.mz_env.specs.declared.env_fault.EnvFault.{EnvFault}
use Rattle.mz_env.specs.declared.env_fault.EnvFault.TheVariants as env
use Rattle.mz_first.specs.Faults.{plain}

-- a fault with a number
abbrev pub numbered : Place → RuleCode → ℕ → Fault
numbered place code n = record { place = place; code = code; number = Some n }

-- of a vocabulary that is named at the place: its line
abbrev pub voc_told : Place → VocFault → Option Fault
voc_told p (voc.BadEntry line) = Some (numbered p code.BadVocabularyEntry line)
voc_told p (voc.BadPriority line) = Some (numbered p code.BadPriority line)
voc_told p (voc.Repeated line) = Some (numbered p code.SymbolRepeated line)
voc_told p (voc.Memory a) = None

-- of the symbols that an environment part names
abbrev pub table_told : TableFault → Option Fault
table_told (table.Absent p) = Some (plain p code.VocabularyMissing)
table_told (table.Bad p f) = voc_told p f
table_told (table.TwoKinds p) = Some (plain p code.SymbolOfTwoKinds)
table_told (table.TooManySymbols p) = Some (plain p code.TooManySymbols)
table_told (table.Memory a) = None

-- of the grammar
abbrev pub parse_told : ParseFault → Option Fault
parse_told (parse.Unexpected p) = Some (plain p code.UnexpectedToken)
parse_told (parse.TooDeep p) = Some (plain p code.TooDeep)
parse_told (parse.EndsEarly p) = Some (plain p code.EndsEarly)
parse_told parse.Memory = None

-- of what an environment part lets in
abbrev pub env_told : EnvFault → Option Fault
env_told (env.MissingConstructor p item) = Some (numbered p code.MissingConstructor item)
env_told (env.UnknownRequirement p) = Some (plain p code.UnknownRequirement)
env_told (env.NotExported p) = Some (plain p code.NotExported)
env_told (env.Memory a) = None
