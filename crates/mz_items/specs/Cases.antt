-- Definientia by cases.
use Rattle.std.specs.Prelude.{List, [], ◌∷◌, ◌++◌, map, Option, Some, None}
use Rattle.mz_logic.specs.Term.{Term}
use Rattle.mz_core.specs.declared.formula_definiens.FormulaCase.{FormulaCase}
use Rattle.mz_core.specs.declared.term_definiens.TermCase.{TermCase}
use Rattle.mz_core.specs.declared.formula_definiens.FormulaDefiniens.{FormulaDefiniens}
use Rattle.mz_core.specs.declared.formula_definiens.FormulaDefiniens.TheVariants as formula_definiens
use Rattle.mz_core.specs.declared.term_definiens.TermDefiniens.{TermDefiniens}
use Rattle.mz_core.specs.declared.term_definiens.TermDefiniens.TheVariants as term_definiens
use Rattle.mz_core.specs.declared.soft_type.SoftType.{SoftType}
use Rattle.mz_core.specs.Statement.{Statement, Eq, And, For}
use Rattle.mz_core.specs.StatementForms.{opposite, implication, equivalence}
use Rattle.mz_core.specs.Parts.{conjunction}

abbrev pub formula_case_condition : FormulaCase → Statement
formula_case_condition c = c.condition

abbrev pub formula_case_definiens : FormulaCase → Statement
formula_case_definiens c = c.definiens

abbrev pub term_case_condition : TermCase → Statement
term_case_condition c = c.condition

abbrev pub term_case_definiens : TermCase → Term
term_case_definiens c = c.definiens

-- the condition of `otherwise`: the conjunction of the negations of the others
abbrev pub otherwise_of : List Statement → Statement
otherwise_of cs = conjunction (map opposite cs)

-- the conditions, none of a plain definiens
abbrev pub formula_conditions : FormulaDefiniens → List Statement
formula_conditions (formula_definiens.Plain d) = []
formula_conditions (formula_definiens.Cases cases) = map formula_case_condition cases
formula_conditions (formula_definiens.CasesOtherwise cases d) =
    map formula_case_condition cases ++ otherwise_of (map formula_case_condition cases) ∷ []

abbrev pub term_conditions : TermDefiniens → List Statement
term_conditions (term_definiens.Plain d) = []
term_conditions (term_definiens.Cases cases) = map term_case_condition cases
term_conditions (term_definiens.CasesOtherwise cases d) =
    map term_case_condition cases ++ otherwise_of (map term_case_condition cases) ∷ []

-- the definiens of each case
abbrev pub formula_definientia : FormulaDefiniens → List Statement
formula_definientia (formula_definiens.Plain d) = d ∷ []
formula_definientia (formula_definiens.Cases cases) = map formula_case_definiens cases
formula_definientia (formula_definiens.CasesOtherwise cases d) = map formula_case_definiens cases ++ d ∷ []

abbrev pub term_definientia : TermDefiniens → List Term
term_definientia (term_definiens.Plain t) = t ∷ []
term_definientia (term_definiens.Cases cases) = map term_case_definiens cases
term_definientia (term_definiens.CasesOtherwise cases t) = map term_case_definiens cases ++ t ∷ []

-- ci implies si
abbrev pub implications : List Statement → List Statement → List Statement
implications [] ss = []
implications (c ∷ cs) [] = []
implications (c ∷ cs) (s ∷ ss) = implication c s ∷ implications cs ss

-- each statement under its condition; without conditions it stands alone
abbrev pub conditioned : List Statement → List Statement → List Statement
conditioned [] ss = ss
conditioned (c ∷ cs) ss = implications (c ∷ cs) ss

-- `ci implies si` for every case, joined
abbrev pub each_case : List Statement → List Statement → Statement
each_case cs ss = conjunction (conditioned cs ss)

-- the cases but for a plain one and `otherwise`
abbrev pub formula_cases : FormulaDefiniens → List FormulaCase
formula_cases (formula_definiens.Plain d) = []
formula_cases (formula_definiens.Cases cases) = cases
formula_cases (formula_definiens.CasesOtherwise cases d) = cases

abbrev pub term_cases : TermDefiniens → List TermCase
term_cases (term_definiens.Plain t) = []
term_cases (term_definiens.Cases cases) = cases
term_cases (term_definiens.CasesOtherwise cases t) = cases

-- two cases agree: for y being T holds di iff dj
abbrev pub agree_in_type : SoftType → FormulaCase → FormulaCase → Statement
agree_in_type ty c d = implication (And c.condition d.condition) (For ty (equivalence c.definiens d.definiens))

-- di iff dj
abbrev pub agree_as_formulas : FormulaCase → FormulaCase → Statement
agree_as_formulas c d = implication (And c.condition d.condition) (equivalence c.definiens d.definiens)

-- ti = tj
abbrev pub agree_as_terms : TermCase → TermCase → Statement
agree_as_terms c d = implication (And c.condition d.condition) (Eq c.definiens d.definiens)

-- each pair of an earlier and a later case agrees
abbrev pub agreements_in_type : SoftType → List FormulaCase → List Statement
agreements_in_type ty [] = []
agreements_in_type ty (c ∷ cs) = map (agree_in_type ty c) cs ++ agreements_in_type ty cs

abbrev pub agreements_as_formulas : List FormulaCase → List Statement
agreements_as_formulas [] = []
agreements_as_formulas (c ∷ cs) = map (agree_as_formulas c) cs ++ agreements_as_formulas cs

abbrev pub agreements_as_terms : List TermCase → List Statement
agreements_as_terms [] = []
agreements_as_terms (c ∷ cs) = map (agree_as_terms c) cs ++ agreements_as_terms cs
