-- The table of codes: what the report writes of a fault.
use Rattle.std.specs.Prelude.{ℕ, Bool, true, false, List, codes}
use Rattle.mz_base.specs.declared.rule_code.RuleCode.{RuleCode}
use Rattle.mz_base.specs.declared.rule_code.RuleCode.TheVariants.{NotBuilt, BadByte, Pragma, TooManyTokens, UnexpectedToken, TooDeep, EndsEarly, VocabularyMissing, BadVocabularyEntry, BadPriority, SymbolRepeated, SymbolOfTwoKinds, TooManySymbols, MissingConstructor, UnknownRequirement, NotExported, DirectiveOfProfile2, UnknownSymbol, NoNotation, UnknownVariable, UnregisteredCluster, UnfitArgument, TooLarge, StepDoesNotFit, ThesisLeft, UnknownLabel, TooManyObligations, ConditionMissing, StrayCondition, BadLoci, SelectorRepeated, AncestorUnfit, Open, TooManyDisjuncts, TooManyTerms, TooManyAtoms, TooMuchWork, SchemeDoesNotFit, PremiseCount, PremiseDoesNotFit}

-- a row: the code, its text, and whether a number follows the text
pub record CodeRow : Type 0 where
  pub code : ℕ
  pub text : List ℕ
  pub has_number : Bool

abbrev plain : ℕ → List ℕ → CodeRow
plain code text = record { code = code; text = text; has_number = false }

abbrev numbered : ℕ → List ℕ → CodeRow
numbered code text = record { code = code; text = text; has_number = true }

abbrev pub code_row : RuleCode → CodeRow
code_row NotBuilt = plain 10 (codes "not built")
code_row BadByte = plain 11 (codes "bad byte")
code_row Pragma = plain 12 (codes "pragma")
code_row TooManyTokens = plain 13 (codes "too many tokens")
code_row UnexpectedToken = plain 14 (codes "unexpected token")
code_row TooDeep = plain 15 (codes "too deep")
code_row EndsEarly = plain 16 (codes "ends early")
code_row VocabularyMissing = plain 21 (codes "vocabulary missing")
code_row BadVocabularyEntry = numbered 22 (codes "bad vocabulary entry")
code_row BadPriority = numbered 23 (codes "bad priority")
code_row SymbolRepeated = numbered 24 (codes "symbol repeated")
code_row SymbolOfTwoKinds = plain 25 (codes "symbol of two kinds")
code_row TooManySymbols = plain 26 (codes "too many symbols")
code_row MissingConstructor = numbered 27 (codes "missing constructor")
code_row UnknownRequirement = plain 28 (codes "unknown requirement")
code_row NotExported = plain 29 (codes "not exported")
code_row DirectiveOfProfile2 = plain 30 (codes "directive of profile 2")
code_row UnknownSymbol = plain 31 (codes "unknown symbol")
code_row NoNotation = plain 32 (codes "no notation")
code_row UnknownVariable = plain 33 (codes "unknown variable")
code_row UnregisteredCluster = plain 34 (codes "unregistered cluster")
code_row UnfitArgument = plain 35 (codes "unfit argument")
code_row TooLarge = plain 36 (codes "too large")
code_row StepDoesNotFit = plain 41 (codes "step does not fit")
code_row ThesisLeft = plain 42 (codes "thesis left")
code_row UnknownLabel = plain 43 (codes "unknown label")
code_row TooManyObligations = plain 44 (codes "too many obligations")
code_row ConditionMissing = numbered 51 (codes "condition missing")
code_row StrayCondition = numbered 52 (codes "stray condition")
code_row BadLoci = plain 53 (codes "bad loci")
code_row SelectorRepeated = plain 54 (codes "selector repeated")
code_row AncestorUnfit = plain 55 (codes "ancestor unfit")
code_row Open = numbered 61 (codes "open")
code_row TooManyDisjuncts = numbered 62 (codes "too many disjuncts")
code_row TooManyTerms = numbered 63 (codes "too many terms")
code_row TooManyAtoms = numbered 64 (codes "too many atoms")
code_row TooMuchWork = numbered 65 (codes "too much work")
code_row SchemeDoesNotFit = plain 66 (codes "scheme does not fit")
code_row PremiseCount = numbered 67 (codes "premise count")
code_row PremiseDoesNotFit = numbered 68 (codes "premise does not fit")
