-- What terms, adjectives and types are read to has usable constants alone and no loose index.
use Rattle.std.specs.Prelude.{◌≡◌, ◌≤◌, ℕ, true, List, [], Some, Ok}
use Rattle.std.specs.List.{list_all}
use Rattle.mz_logic.specs.Term.{Term}
use Rattle.mz_core.specs.declared.adjective.Adjective.{Adjective}
use Rattle.mz_core.specs.declared.radix.Radix.{Radix}
use Rattle.mz_core.specs.declared.soft_type.SoftType.{SoftType}
use Rattle.mz_context.specs.declared.context.Context.{Context}
use Rattle.mz_environment.specs.declared.environment.Environment.{Environment}
use Rattle.mz_closed_laws.specs.ClosedEnvironment.{IsClosedEnvironment}
use Rattle.mz_types.specs.Known.{typing}
use Rattle.mz_types.specs.Chain.{IsChain}
use Rattle.mz_names.specs.Names.{reserved_type}
use Rattle.mz_choice.specs.declared.choice.Wanted.{Wanted}
use Rattle.mz_tree.specs.Trees.{TermData, TermsData, AdjectiveData, TypeData}
use Rattle.mz_terms.specs.Terms.{ReadsTerm, ReadsAll}
use Rattle.mz_terms.specs.Adjectives.{ReadsAdjectives}
use Rattle.mz_terms.specs.Types.{ReadsType, ReadsRegistered}
use Rattle.mz_choice_laws.specs.Known.{radix_known}
use Rattle.mz_term_laws.specs.Usable.{is_usable, term_usable, adjective_usable, type_usable}
use Rattle.mz_term_laws.specs.Whole.{IsWhole}

-- a term, and terms
abbrev pub TermLaw : Type 0
TermLaw =
    (e : Environment) (c : Context) (from least : ℕ) → IsClosedEnvironment e → IsWhole from c → from ≤ least →
    (t : TermData) (u : Term) → ReadsTerm e c least t (Ok u) → term_usable from c u ≡ true

abbrev pub TermsLaw : Type 0
TermsLaw =
    (e : Environment) (c : Context) (from least : ℕ) → IsClosedEnvironment e → IsWhole from c → from ≤ least →
    (ts : TermsData) (us : List Term) → ReadsAll e c least ts (Ok us) → list_all (term_usable from c) us ≡ true

-- adjectives that are wanted of a usable subject
abbrev pub AdjectivesLaw : Type 0
AdjectivesLaw =
    (e : Environment) (c : Context) (from least : ℕ) → IsClosedEnvironment e → IsWhole from c → from ≤ least →
    (w : Wanted) (t : Term) → term_usable from c t ≡ true →
    (xs : List AdjectiveData) (ys : List Adjective) → ReadsAdjectives e c least w t xs [] (Ok ys) → list_all (adjective_usable from c) ys ≡ true

-- a type, also that of an existential registration
abbrev pub TypeLaw : Type 0
TypeLaw =
    (e : Environment) (c : Context) (from least : ℕ) → IsClosedEnvironment e → IsWhole from c → from ≤ least →
    (ty : TypeData) (s : SoftType) → ReadsType e c least ty (Ok s) → type_usable from c s ≡ true

abbrev pub RegisteredLaw : Type 0
RegisteredLaw =
    (e : Environment) (c : Context) (from least : ℕ) → IsClosedEnvironment e → IsWhole from c → from ≤ least →
    (ty : TypeData) (s : SoftType) → ReadsRegistered e c least ty (Ok s) → type_usable from c s ≡ true

-- the type of a reserved variable, where it may be used
abbrev pub ReservedTypeLaw : Type 0
ReservedTypeLaw =
    (c : Context) (from least : ℕ) → IsWhole from c → from ≤ least →
    (name : List ℕ) (ty : SoftType) → reserved_type least c name ≡ Some ty → type_usable from c ty ≡ true

-- the radices of a usable term's chain
abbrev pub RadicesLaw : Type 0
RadicesLaw =
    (e : Environment) (c : Context) (from : ℕ) → IsClosedEnvironment e → IsWhole from c →
    (t : Term) (rs : List Radix) → term_usable from c t ≡ true → IsChain (typing e c) e c t rs → list_all (radix_known (is_usable from c) 0) rs ≡ true
