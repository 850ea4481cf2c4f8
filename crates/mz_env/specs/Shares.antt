-- What the directives let in of an item, and of articles.
use Rattle.std.specs.Prelude.{Bool, true, false, if◌then◌else◌, List, [], ◌∷◌, Option, Some, None}
use Rattle.mz_base.specs.declared.name.Name.{Name}
use Rattle.mz_base.specs.declared.head.DirectiveKind.{DirectiveKind}
use Rattle.mz_base.specs.declared.head.DirectiveKind.TheVariants.{Vocabularies, Notations, Constructors, Registrations, Definitions, Theorems, Schemes, Requirements, Equalities, Expansions}
use Rattle.mz_core.specs.declared.outcome.Export.{Export}
use Rattle.mz_core.specs.declared.item.Item.{Item}
use Rattle.mz_core.specs.declared.item.Item.TheVariants as item
use Rattle.mz_items.specs.Exports.{notations_of}
use Rattle.mz_clauses.specs.Clauses.{typing_clauses, further_clauses, equality_clauses}
use Rattle.mz_environment.specs.Rows.{functor_rows, mode_rows}
use Rattle.mz_environment.specs.Unfoldings.{unfoldings_of}
use Rattle.mz_environment.specs.Cited.{at_start, numbered, statements_cited, schemes_cited}
use Rattle.mz_environment.specs.Environment.{no_environment, joined, of_item, structures_of, sethoods_of, existentials_of}
use Rattle.mz_environment.specs.declared.numbering.Numbering.{Numbering}
use Rattle.mz_environment.specs.declared.environment.Environment.{Environment}
use Rattle.mz_env.specs.Symbols.{registration_in}

-- the item is a registration
abbrev pub is_registration : Item → Bool
is_registration (item.Axiom s) = false
is_registration (item.AxiomScheme s) = false
is_registration (item.Primitive n) = false
is_registration (item.Theorem s) = false
is_registration (item.Scheme s) = false
is_registration (item.FunctorMeans d) = false
is_registration (item.FunctorEquals d) = false
is_registration (item.Predicate d) = false
is_registration (item.Attribute d) = false
is_registration (item.ModeMeans d) = false
is_registration (item.Abbreviation n) = false
is_registration (item.Notation n) = false
is_registration (item.RedefinedFunctor d) = false
is_registration (item.RedefinedMode d) = false
is_registration (item.RedefinedPredicate d) = false
is_registration (item.RedefinedAttribute d) = false
is_registration (item.Property p) = false
is_registration (item.Existential r) = true
is_registration (item.Conditional r) = true
is_registration (item.Functorial r) = true
is_registration (item.Reduction r) = true
is_registration (item.Identification r) = true
is_registration (item.Structure s) = false
is_registration (item.SetTerm s) = false
is_registration (item.Choice c) = false

-- its notations
abbrev pub notations_share : Item → Environment
notations_share x = record {
  functors = [];
  modes = [];
  structures = [];
  sethoods = [];
  notations = notations_of x;
  typing = [];
  further = [];
  equalities = [];
  steps = [];
  expansions = [];
  registrations = [];
  theorems = [];
  schemes = [];
}

-- what a definition, a redefinition, a structure, a property, a set term and a choice give: rows of types and clauses
abbrev pub constructors_share : Item → Environment
constructors_share x = record {
  functors = functor_rows x;
  modes = mode_rows x;
  structures = structures_of x;
  sethoods = sethoods_of x;
  notations = [];
  typing = typing_clauses x;
  further = further_clauses x;
  equalities = [];
  steps = [];
  expansions = [];
  registrations = [];
  theorems = [];
  schemes = [];
}

-- what a registration gives
abbrev pub registrations_share : Item → Environment
registrations_share x = record {
  functors = [];
  modes = [];
  structures = [];
  sethoods = [];
  notations = [];
  typing = typing_clauses x;
  further = further_clauses x;
  equalities = [];
  steps = [];
  expansions = [];
  registrations = existentials_of x;
  theorems = [];
  schemes = [];
}

-- its unfolding, for steps and for `by`, and its equality clauses
abbrev pub definitions_share : Item → Environment
definitions_share x = record {
  functors = [];
  modes = [];
  structures = [];
  sethoods = [];
  notations = [];
  typing = [];
  further = [];
  equalities = equality_clauses x;
  steps = unfoldings_of x;
  expansions = unfoldings_of x;
  registrations = [];
  theorems = [];
  schemes = [];
}

-- its unfolding, for `by`
abbrev pub expansions_share : Item → Environment
expansions_share x = record {
  functors = [];
  modes = [];
  structures = [];
  sethoods = [];
  notations = [];
  typing = [];
  further = [];
  equalities = [];
  steps = [];
  expansions = unfoldings_of x;
  registrations = [];
  theorems = [];
  schemes = [];
}

-- its equality clauses
abbrev pub equalities_share : Item → Environment
equalities_share x = record {
  functors = [];
  modes = [];
  structures = [];
  sethoods = [];
  notations = [];
  typing = [];
  further = [];
  equalities = equality_clauses x;
  steps = [];
  expansions = [];
  registrations = [];
  theorems = [];
  schemes = [];
}

-- its theorem, and its definitional theorem
abbrev pub theorems_share : Numbering → Item → Environment
theorems_share at x = record {
  functors = [];
  modes = [];
  structures = [];
  sethoods = [];
  notations = [];
  typing = [];
  further = [];
  equalities = [];
  steps = [];
  expansions = [];
  registrations = [];
  theorems = statements_cited at x;
  schemes = [];
}

-- its scheme
abbrev pub schemes_share : Numbering → Item → Environment
schemes_share at x = record {
  functors = [];
  modes = [];
  structures = [];
  sethoods = [];
  notations = [];
  typing = [];
  further = [];
  equalities = [];
  steps = [];
  expansions = [];
  registrations = [];
  theorems = [];
  schemes = schemes_cited at x;
}

-- what a directive of the kind lets in of an item that stands so in its article, where the constructors of these
-- articles are let in
abbrev pub share : List Name → DirectiveKind → Numbering → Item → Environment
share articles Vocabularies at x = no_environment
share articles Notations at x = notations_share x
share articles Constructors at x = if is_registration x then no_environment else constructors_share x
share articles Registrations at x =
    if is_registration x then (if registration_in articles x then registrations_share x else no_environment) else no_environment
share articles Definitions at x = definitions_share x
share articles Theorems at x = theorems_share at x
share articles Schemes at x = schemes_share at x
share articles Requirements at x = no_environment
share articles Equalities at x = equalities_share x
share articles Expansions at x = expansions_share x

-- of the items in their order
abbrev pub shares : List Name → DirectiveKind → Numbering → List Item → Environment
shares articles kind at [] = no_environment
shares articles kind at (x ∷ xs) = joined (share articles kind at x) (shares articles kind (numbered at x) xs)

-- of the articles in their order
abbrev pub shares_of : List Name → DirectiveKind → List Export → Environment
shares_of articles kind [] = no_environment
shares_of articles kind (e ∷ es) = joined (shares articles kind (at_start e.name.number) e.items) (shares_of articles kind es)

-- all that items give, in their order
abbrev pub wholes : Numbering → List Item → Environment
wholes at [] = no_environment
wholes at (x ∷ xs) = joined (of_item at x) (wholes (numbered at x) xs)

abbrev pub whole_of : Option Export → Environment
whole_of None = no_environment
whole_of (Some e) = wholes (at_start e.name.number) e.items
