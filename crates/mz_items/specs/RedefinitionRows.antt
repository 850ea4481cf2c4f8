-- What a redefinition owes, under its loci; it grants nothing.
use Rattle.std.specs.Prelude.{Option, Some, None}
use Rattle.mz_logic.specs.Term.{Term}
use Rattle.mz_core.specs.Statement.{Statement}
use Rattle.mz_core.specs.TypeStatements.{literal_statement, is_of_type}
use Rattle.mz_core.specs.declared.soft_type.SoftType.{SoftType}
use Rattle.mz_core.specs.declared.redefinition.FunctorRedefinition.{FunctorRedefinition}
use Rattle.mz_core.specs.declared.redefinition.ModeRedefinition.{ModeRedefinition}
use Rattle.mz_core.specs.declared.redefinition.AtomRedefinition.{AtomRedefinition}
use Rattle.mz_core.specs.declared.redefinition.FunctorMeaning.{FunctorMeaning}
use Rattle.mz_core.specs.declared.redefinition.FunctorMeaning.TheVariants.{Means, Equals}
use Rattle.mz_core.specs.declared.formula_definiens.FormulaDefiniens.{FormulaDefiniens}
use Rattle.mz_items.specs.declared.condition.Condition.{Condition}
use Rattle.mz_items.specs.declared.condition.Condition.TheVariants.{Existence, Uniqueness, Coherence, Compatibility, Consistency, Reducibility}
use Rattle.mz_items.specs.DefinitionRows.{functor_means, functor_equals, atom_means, mode_type, mode_means}

-- the new type, or else the old one
abbrev pub type_or : Option SoftType → SoftType → SoftType
type_or None old = old
type_or (Some new) old = new

-- coherence of a functor's new type: T(F)
abbrev pub functor_coherence : Term → Option SoftType → Option Statement
functor_coherence term None = None
functor_coherence term (Some ty) = Some (is_of_type ty term)

-- coherence of a mode's new type: for y being M holds T(y)
abbrev pub mode_coherence : SoftType → Option SoftType → Option Statement
mode_coherence mode None = None
mode_coherence mode (Some ty) = Some (mode_type mode ty)

-- compatibility of a new meaning: what a definition grants last
abbrev pub functor_compatibility : Term → SoftType → Option FunctorMeaning → Option Statement
functor_compatibility term ty None = None
functor_compatibility term ty (Some (Means d)) = Some (functor_means term ty d)
functor_compatibility term ty (Some (Equals d)) = Some (functor_equals term d)

abbrev pub mode_compatibility : SoftType → SoftType → Option FormulaDefiniens → Option Statement
mode_compatibility mode ty None = None
mode_compatibility mode ty (Some d) = Some (mode_means mode ty d)

abbrev pub atom_compatibility : Statement → Option FormulaDefiniens → Option Statement
atom_compatibility s None = None
atom_compatibility s (Some d) = Some (atom_means s d)

abbrev pub functor_redefinition_thesis : FunctorRedefinition → Condition → Option Statement
functor_redefinition_thesis d Existence = None
functor_redefinition_thesis d Uniqueness = None
functor_redefinition_thesis d Coherence = functor_coherence d.term d.ty
functor_redefinition_thesis d Compatibility = functor_compatibility d.term (type_or d.ty d.old) d.meaning
functor_redefinition_thesis d Consistency = None
functor_redefinition_thesis d Reducibility = None

abbrev pub mode_redefinition_thesis : ModeRedefinition → Condition → Option Statement
mode_redefinition_thesis d Existence = None
mode_redefinition_thesis d Uniqueness = None
mode_redefinition_thesis d Coherence = mode_coherence d.mode d.ty
mode_redefinition_thesis d Compatibility = mode_compatibility d.mode (type_or d.ty d.old) d.meaning
mode_redefinition_thesis d Consistency = None
mode_redefinition_thesis d Reducibility = None

abbrev pub atom_redefinition_thesis : AtomRedefinition → Condition → Option Statement
atom_redefinition_thesis d Existence = None
atom_redefinition_thesis d Uniqueness = None
atom_redefinition_thesis d Coherence = None
atom_redefinition_thesis d Compatibility = atom_compatibility (literal_statement d.literal) d.meaning
atom_redefinition_thesis d Consistency = None
atom_redefinition_thesis d Reducibility = None
