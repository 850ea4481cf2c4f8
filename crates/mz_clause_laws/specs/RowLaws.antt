-- The clauses of each row derive from what the item grants or owes.
use Rattle.std.specs.Prelude.{List, [], ◌∷◌, map}
use Rattle.mz_logic.specs.Term.{Term}
use Rattle.mz_logic.specs.Formula.{Formula}
use Rattle.mz_logic.specs.Derives.{Derives}
use Rattle.mz_core.specs.Statement.{Statement, Eq}
use Rattle.mz_core.specs.Erasure.{erase}
use Rattle.mz_core.specs.TypeStatements.{is_of_type}
use Rattle.mz_core.specs.declared.soft_type.SoftType.{SoftType}
use Rattle.mz_core.specs.declared.registration.ConditionalRegistration.{ConditionalRegistration}
use Rattle.mz_core.specs.declared.registration.FunctorialRegistration.{FunctorialRegistration}
use Rattle.mz_core.specs.declared.structure.Structure.{Structure}
use Rattle.mz_ground.specs.ClauseFormula.{clause_formula}
use Rattle.mz_items.specs.Loci.{over}
use Rattle.mz_items.specs.DefinitionRows.{mode_type}
use Rattle.mz_items.specs.RegistrationRows.{functorial, conditional}
use Rattle.mz_items.specs.StructureRows.{grant_of_ancestors, grant_of_fields, grant_of_aggregate, grant_of_strict}
use Rattle.mz_clauses.specs.declared.clause_groups.ClauseGroup.{ClauseGroup}
use Rattle.mz_clauses.specs.Groups.{groups_clauses}
use Rattle.mz_clauses.specs.DefinitionClauses.{functor_type_groups, mode_parent_groups, equation_groups}
use Rattle.mz_clauses.specs.StructureClauses.{part_groups, aggregate_groups, strict_groups}
use Rattle.mz_clauses.specs.RegistrationClauses.{functorial_groups, conditional_groups}

-- each formula of the list derives from the axioms and the premises
abbrev pub AllFollow : List Formula → List Formula → List Formula → Type 0
AllFollow ax g [] = Unit {0}
AllFollow ax g (f ∷ fs) = Derives ax g f × AllFollow ax g fs

-- the clauses of groups derive from what holds for all loci
abbrev pub Follow : List ClauseGroup → List SoftType → Statement → Type 0
Follow gs loci s =
    (ax g : List Formula) → Derives ax g (erase (over loci s)) → AllFollow ax g (map clause_formula (groups_clauses gs))

-- T(F): the type of a functor's definition, and the coherence of a new type
abbrev pub FunctorTypeLaw : Type 0
FunctorTypeLaw = (loci : List SoftType) (t : Term) (ty : SoftType) → Follow (functor_type_groups loci t ty) loci (is_of_type ty t)

-- for y being M holds T(y): the parent of a mode, and the coherence of a new one
abbrev pub ModeParentLaw : Type 0
ModeParentLaw = (loci : List SoftType) (mode ty : SoftType) → Follow (mode_parent_groups loci mode ty) loci (mode_type mode ty)

-- t = u: a definition by `equals`, a reduction and an identification
abbrev pub EquationLaw : Type 0
EquationLaw = (loci : List SoftType) (t u : Term) → Follow (equation_groups loci t u) loci (Eq t u)

-- the coherence of a functorial registration
abbrev pub FunctorialLaw : Type 0
FunctorialLaw = (r : FunctorialRegistration) → Follow (functorial_groups r) r.loci (functorial r)

-- the coherence of a conditional registration
abbrev pub ConditionalLaw : Type 0
ConditionalLaw = (r : ConditionalRegistration) → Follow (conditional_groups r) r.loci (conditional r)

-- a structure: its ancestors and its fields, (1) and (2)
abbrev pub PartLaw : Type 0
PartLaw =
    (s : Structure) (ax g : List Formula) →
    Derives ax g (erase (over s.loci (grant_of_ancestors s))) → Derives ax g (erase (over s.loci (grant_of_fields s))) →
    AllFollow ax g (map clause_formula (groups_clauses (part_groups s)))

-- its aggregate, (3)
abbrev pub AggregateLaw : Type 0
AggregateLaw = (s : Structure) → Follow (aggregate_groups s) s.loci (grant_of_aggregate s)

-- its strict objects, (4)
abbrev pub StrictLaw : Type 0
StrictLaw = (s : Structure) → Follow (strict_groups s) s.loci (grant_of_strict s)
