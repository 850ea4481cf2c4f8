-- A type is inhabited where an existential registration covers it, or where its radix is and its adjectives fit.
use Rattle.std.specs.Prelude.{◌≡◌, ℕ, Bool, true, nat_lt, List, [], length, reverse, Contains}
use Rattle.std.specs.List.{list_all}
use Rattle.mz_logic.specs.Term.{Term}
use Rattle.mz_logic.specs.Formula.{Formula}
use Rattle.mz_logic.specs.Derives.{Derives}
use Rattle.mz_core.specs.Statement.{Statement, Truth}
use Rattle.mz_core.specs.StatementForms.{for_some}
use Rattle.mz_core.specs.Erasure.{erase}
use Rattle.mz_core.specs.Closed.{statement_under}
use Rattle.mz_core.specs.Hidden.{is_of_any_object}
use Rattle.mz_core.specs.declared.soft_type.SoftType.{SoftType}
use Rattle.mz_core.specs.declared.definition.MeansDefinition.{MeansDefinition}
use Rattle.mz_core.specs.declared.formula_definiens.FormulaDefiniens.TheVariants.{Plain}
use Rattle.mz_core.specs.declared.registration.ExistentialRegistration.{ExistentialRegistration}
use Rattle.mz_items.specs.Loci.{over, mode_on}
use Rattle.mz_items.specs.DefinitionRows.{existence, mode_meaning}
use Rattle.mz_items.specs.RegistrationRows.{existential}
use Rattle.mz_context.specs.Context.{next}
use Rattle.mz_context.specs.declared.context.Context.{Context}
use Rattle.mz_environment.specs.declared.environment.Environment.{Environment}
use Rattle.mz_closed_laws.specs.ClosedEnvironment.{IsClosedEnvironment}
use Rattle.mz_fits.specs.Fits.{LociFit, type_at}
use Rattle.mz_fits.specs.Laws.{AreGranted}
use Rattle.mz_types.specs.Known.{typing}
use Rattle.mz_chain_laws.specs.ChainLaw.{HasChainClauses}
use Rattle.mz_choice.specs.Cover.{FitFresh, bare, HasCover, IsCovered}
use Rattle.mz_choice_laws.specs.Known.{term_known, type_known, HasKnownTypes}
use Rattle.mz_thesis_laws.specs.RowLaws.{AreInForce}

-- ex x being T
abbrev pub there_is : SoftType → Statement
there_is ty = for_some ty Truth

-- that there is an object of the type derives
abbrev pub IsInhabited : List Formula → List Formula → SoftType → Type 0
IsInhabited axioms premises ty = Derives axioms premises (erase (there_is ty))

-- for all its loci, ex y being T st A(y)
abbrev pub registered : ExistentialRegistration → Statement
registered r = over r.loci (existential r)

-- the constants with numbers below this one
abbrev pub is_before : ℕ → ℕ → Bool
is_before n k = nat_lt k n

-- Where constants are in force: the clauses and what is known of the constants derive, and so does what each registration
-- states. What rows and structures say, clauses say. Only constants in force stand in the premises and in the constants' types,
-- and nothing has a loose index.
pub record Holds (axioms premises : List Formula) (e : Environment) (c : Context) : Type 0 where
  pub granted : AreGranted axioms premises (typing e c) c.constants
  pub registrations : (r : ExistentialRegistration) → Contains e.registrations r → Derives axioms premises (erase (registered r))
  pub clauses : HasChainClauses (typing e c) e c
  pub closed_so : IsClosedEnvironment e
  pub types : HasKnownTypes (is_before (next c)) c
  pub premises_so : AreInForce (next c) premises

-- `object` and `set` are inhabited
abbrev pub ObjectLaw : Type 0
ObjectLaw = (axioms premises : List Formula) (ty : SoftType) → is_of_any_object ty.radix.sym ≡ true → IsInhabited axioms premises (bare ty)

-- a type is where its radix is, from whose guard the adjectives fit
abbrev pub RadixLaw : Type 0
RadixLaw =
    (axioms premises : List Formula) (e : Environment) (c : Context) → Holds axioms premises e c →
    (ty : SoftType) → type_known (is_before (next c)) 0 ty ≡ true →
    FitFresh (typing e c) c (bare ty) ty.adjectives → IsInhabited axioms premises (bare ty) → IsInhabited axioms premises ty

-- a type is where a registration covers it
abbrev pub RegisteredLaw : Type 0
RegisteredLaw =
    (axioms premises : List Formula) (e : Environment) (c : Context) → Holds axioms premises e c →
    (ty : SoftType) → type_known (is_before (next c)) 0 ty ≡ true →
    HasCover (typing e c) e c ty e.registrations → IsInhabited axioms premises ty

-- so a covered type is where its radix is
abbrev pub CoveredLaw : Type 0
CoveredLaw =
    (axioms premises : List Formula) (e : Environment) (c : Context) → Holds axioms premises e c →
    (ty : SoftType) → type_known (is_before (next c)) 0 ty ≡ true →
    IsCovered (typing e c) e c ty → IsInhabited axioms premises (bare ty) → IsInhabited axioms premises ty

-- the mode of a definition at values for its loci, as a type
abbrev pub mode_at : MeansDefinition → List Term → SoftType
mode_at d values = type_at (reverse values) (mode_on d.pattern.loci d.sym)

-- a mode whose definition has a plain definiens is at values that fit its loci, where what the definition owes derives, that
-- there is such an object, and what it grants
abbrev pub ModeLaw : Type 0
ModeLaw =
    (axioms premises : List Formula) (e : Environment) (c : Context) → Holds axioms premises e c →
    (d : MeansDefinition) (s : Statement) → d.definiens ≡ Plain s → statement_under (length d.pattern.loci) (existence d.ty d.definiens) ≡ true →
    Derives axioms premises (erase (over d.pattern.loci (existence d.ty d.definiens))) → Derives axioms premises (erase (over d.pattern.loci (mode_meaning d))) →
    (values : List Term) → list_all (term_known (is_before (next c)) 0) values ≡ true → LociFit (typing e c) c.constants [] d.pattern.loci values →
    IsInhabited axioms premises (mode_at d values)
