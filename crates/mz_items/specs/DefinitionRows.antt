-- What a definition owes and grants, under its loci.
use Rattle.std.specs.Prelude.{List, [], ◌∷◌, map, Option, Some, None}
use Rattle.mz_logic.specs.Term.{Term, Bound}
use Rattle.mz_logic.specs.Substitution.{shift}
use Rattle.mz_core.specs.Statement.{Statement, Eq, And, For}
use Rattle.mz_core.specs.StatementForms.{implication, equivalence, for_some}
use Rattle.mz_core.specs.TypeShift.{shift_type, shift_statement}
use Rattle.mz_core.specs.TypeStatements.{literal_statement, is_of_type, is_of_type_inside}
use Rattle.mz_core.specs.Parts.{conjunction}
use Rattle.mz_core.specs.declared.soft_type.SoftType.{SoftType}
use Rattle.mz_core.specs.declared.definition.MeansDefinition.{MeansDefinition}
use Rattle.mz_core.specs.declared.definition.EqualsDefinition.{EqualsDefinition}
use Rattle.mz_core.specs.declared.definition.AtomDefinition.{AtomDefinition}
use Rattle.mz_core.specs.declared.definition.AttributeDefinition.{AttributeDefinition}
use Rattle.mz_core.specs.declared.formula_definiens.FormulaDefiniens.{FormulaDefiniens}
use Rattle.mz_core.specs.declared.term_definiens.TermDefiniens.{TermDefiniens}
use Rattle.mz_items.specs.declared.condition.Condition.{Condition}
use Rattle.mz_items.specs.declared.condition.Condition.TheVariants.{Existence, Uniqueness, Coherence, Compatibility, Consistency, Reducibility}
use Rattle.mz_items.specs.Cases.{formula_conditions, term_conditions, formula_definientia, term_definientia, each_case, formula_cases, term_cases, agreements_in_type, agreements_as_formulas, agreements_as_terms}
use Rattle.mz_items.specs.Loci.{term_on, predicate_on, attribute_on, mode_on}

-- ci implies ex y being T st di(y)
abbrev pub existence : SoftType → FormulaDefiniens → Statement
existence ty d = each_case (formula_conditions d) (map (for_some ty) (formula_definientia d))

-- for y,z being T st d(y) & d(z) holds y = z
abbrev pub unique : SoftType → Statement → Statement
unique ty d =
    For ty (For (shift_type 0 1 ty) (implication (And (shift_statement 0 1 d) (shift_statement 1 1 d)) (Eq (Bound 1) (Bound 0))))

-- ci implies for y,z being T st di(y) & di(z) holds y = z
abbrev pub uniqueness : SoftType → FormulaDefiniens → Statement
uniqueness ty d = each_case (formula_conditions d) (map (unique ty) (formula_definientia d))

-- ci implies T(ti)
abbrev pub coherence : SoftType → TermDefiniens → Statement
coherence ty d = each_case (term_conditions d) (map (is_of_type ty) (term_definientia d))

-- for y being T holds y = F iff d(y)
abbrev pub defining_formula : Term → SoftType → Statement → Statement
defining_formula term ty d = For ty (equivalence (Eq (Bound 0) (shift 0 1 term)) d)

-- ci implies for y being T holds y = F iff di(y)
abbrev pub functor_means : Term → SoftType → FormulaDefiniens → Statement
functor_means term ty d = each_case (formula_conditions d) (map (defining_formula term ty) (formula_definientia d))

-- ci implies F = ti
abbrev pub functor_equals : Term → TermDefiniens → Statement
functor_equals term d = each_case (term_conditions d) (map (Eq term) (term_definientia d))

-- ci implies (R iff di)
abbrev pub atom_means : Statement → FormulaDefiniens → Statement
atom_means s d = each_case (formula_conditions d) (map (equivalence s) (formula_definientia d))

-- for y being M holds T(y)
abbrev pub mode_type : SoftType → SoftType → Statement
mode_type mode ty = For mode (is_of_type_inside ty)

-- for y being T holds M(y) iff d(y)
abbrev pub mode_defining_formula : SoftType → SoftType → Statement → Statement
mode_defining_formula mode ty d = For ty (equivalence (is_of_type_inside mode) d)

-- ci implies for y being T holds M(y) iff di(y)
abbrev pub mode_means : SoftType → SoftType → FormulaDefiniens → Statement
mode_means mode ty d = each_case (formula_conditions d) (map (mode_defining_formula mode ty) (formula_definientia d))

-- consistency is owed where some cases have to agree
abbrev pub consistency : List Statement → Option Statement
consistency [] = None
consistency (s ∷ ss) = Some (conjunction (s ∷ ss))

-- what a condition of the definition states, where it is owed, and what the definition grants: a functor by `means`
abbrev pub functor_means_thesis : MeansDefinition → Condition → Option Statement
functor_means_thesis d Existence = Some (existence d.ty d.definiens)
functor_means_thesis d Uniqueness = Some (uniqueness d.ty d.definiens)
functor_means_thesis d Coherence = None
functor_means_thesis d Compatibility = None
functor_means_thesis d Consistency = consistency (agreements_in_type d.ty (formula_cases d.definiens))
functor_means_thesis d Reducibility = None

abbrev pub functor_type : MeansDefinition → Statement
functor_type d = is_of_type d.ty (term_on d.pattern.loci d.sym)

abbrev pub functor_meaning : MeansDefinition → Statement
functor_meaning d = functor_means (term_on d.pattern.loci d.sym) d.ty d.definiens

-- a functor by `equals`
abbrev pub functor_equals_thesis : EqualsDefinition → Condition → Option Statement
functor_equals_thesis d Existence = None
functor_equals_thesis d Uniqueness = None
functor_equals_thesis d Coherence = Some (coherence d.ty d.definiens)
functor_equals_thesis d Compatibility = None
functor_equals_thesis d Consistency = consistency (agreements_as_terms (term_cases d.definiens))
functor_equals_thesis d Reducibility = None

abbrev pub equal_functor_type : EqualsDefinition → Statement
equal_functor_type d = is_of_type d.ty (term_on d.pattern.loci d.sym)

abbrev pub equal_functor_meaning : EqualsDefinition → Statement
equal_functor_meaning d = functor_equals (term_on d.pattern.loci d.sym) d.definiens

-- a predicate or an attribute
abbrev pub atom_thesis : FormulaDefiniens → Condition → Option Statement
atom_thesis d Existence = None
atom_thesis d Uniqueness = None
atom_thesis d Coherence = None
atom_thesis d Compatibility = None
atom_thesis d Consistency = consistency (agreements_as_formulas (formula_cases d))
atom_thesis d Reducibility = None

abbrev pub predicate_meaning : AtomDefinition → Statement
predicate_meaning d = atom_means (literal_statement (predicate_on d.pattern.loci d.sym)) d.definiens

abbrev pub attribute_meaning : AttributeDefinition → Statement
attribute_meaning d = atom_means (literal_statement (attribute_on d.pattern.loci d.subject d.sym)) d.definiens

-- a mode by `means`
abbrev pub mode_means_thesis : MeansDefinition → Condition → Option Statement
mode_means_thesis d Existence = Some (existence d.ty d.definiens)
mode_means_thesis d Uniqueness = None
mode_means_thesis d Coherence = None
mode_means_thesis d Compatibility = None
mode_means_thesis d Consistency = consistency (agreements_in_type d.ty (formula_cases d.definiens))
mode_means_thesis d Reducibility = None

abbrev pub mode_result_type : MeansDefinition → Statement
mode_result_type d = mode_type (mode_on d.pattern.loci d.sym) d.ty

abbrev pub mode_meaning : MeansDefinition → Statement
mode_meaning d = mode_means (mode_on d.pattern.loci d.sym) d.ty d.definiens
