-- What an item gives to an environment.
use Rattle.std.specs.Prelude.{List, [], ◌∷◌, ◌++◌}
use Rattle.mz_logic.specs.declared.sym.Sym.{Sym}
use Rattle.mz_core.specs.declared.structure.Structure.{Structure}
use Rattle.mz_core.specs.declared.registration.ExistentialRegistration.{ExistentialRegistration}
use Rattle.mz_core.specs.declared.property.PropertyForm.{PropertyForm}
use Rattle.mz_core.specs.declared.property.PropertyForm.TheVariants.{Reflexivity, Irreflexivity, Symmetry, Asymmetry, Connectedness, Commutativity, Idempotence, Involutiveness, Projectivity, Sethood}
use Rattle.mz_core.specs.declared.item.Item.{Item}
use Rattle.mz_core.specs.declared.item.Item.TheVariants as item
use Rattle.mz_items.specs.Exports.{notations_of}
use Rattle.mz_clauses.specs.Clauses.{typing_clauses, further_clauses, equality_clauses}
use Rattle.mz_environment.specs.Rows.{functor_rows, mode_rows}
use Rattle.mz_environment.specs.Unfoldings.{unfoldings_of}
use Rattle.mz_environment.specs.Cited.{statements_cited, schemes_cited}
use Rattle.mz_environment.specs.declared.numbering.Numbering.{Numbering}
use Rattle.mz_environment.specs.declared.environment.Environment.{Environment}

abbrev pub no_environment : Environment
no_environment = record {
  functors = [];
  modes = [];
  structures = [];
  sethoods = [];
  notations = [];
  typing = [];
  further = [];
  equalities = [];
  steps = [];
  expansions = [];
  registrations = [];
  theorems = [];
  schemes = [];
}

-- list by list, the first one in front
abbrev pub joined : Environment → Environment → Environment
joined e f = record {
  functors = e.functors ++ f.functors;
  modes = e.modes ++ f.modes;
  structures = e.structures ++ f.structures;
  sethoods = e.sethoods ++ f.sethoods;
  notations = e.notations ++ f.notations;
  typing = e.typing ++ f.typing;
  further = e.further ++ f.further;
  equalities = e.equalities ++ f.equalities;
  steps = e.steps ++ f.steps;
  expansions = e.expansions ++ f.expansions;
  registrations = e.registrations ++ f.registrations;
  theorems = e.theorems ++ f.theorems;
  schemes = e.schemes ++ f.schemes;
}

-- the structure that an item defines
abbrev pub structures_of : Item → List Structure
structures_of (item.Axiom s) = []
structures_of (item.AxiomScheme s) = []
structures_of (item.Primitive n) = []
structures_of (item.Theorem s) = []
structures_of (item.Scheme s) = []
structures_of (item.FunctorMeans d) = []
structures_of (item.FunctorEquals d) = []
structures_of (item.Predicate d) = []
structures_of (item.Attribute d) = []
structures_of (item.ModeMeans d) = []
structures_of (item.Abbreviation n) = []
structures_of (item.Notation n) = []
structures_of (item.RedefinedFunctor d) = []
structures_of (item.RedefinedMode d) = []
structures_of (item.RedefinedPredicate d) = []
structures_of (item.RedefinedAttribute d) = []
structures_of (item.Property p) = []
structures_of (item.Existential r) = []
structures_of (item.Conditional r) = []
structures_of (item.Functorial r) = []
structures_of (item.Reduction r) = []
structures_of (item.Identification r) = []
structures_of (item.Structure s) = s ∷ []
structures_of (item.SetTerm s) = []
structures_of (item.Choice c) = []

abbrev pub sethoods_of_form : PropertyForm → List Sym
sethoods_of_form (Reflexivity r) = []
sethoods_of_form (Irreflexivity r) = []
sethoods_of_form (Symmetry r) = []
sethoods_of_form (Asymmetry r) = []
sethoods_of_form (Connectedness r) = []
sethoods_of_form (Commutativity o) = []
sethoods_of_form (Idempotence o) = []
sethoods_of_form (Involutiveness o) = []
sethoods_of_form (Projectivity o) = []
sethoods_of_form (Sethood s) = s ∷ []

-- the mode all of whose objects an item says to be in one set
abbrev pub sethoods_of : Item → List Sym
sethoods_of (item.Axiom s) = []
sethoods_of (item.AxiomScheme s) = []
sethoods_of (item.Primitive n) = []
sethoods_of (item.Theorem s) = []
sethoods_of (item.Scheme s) = []
sethoods_of (item.FunctorMeans d) = []
sethoods_of (item.FunctorEquals d) = []
sethoods_of (item.Predicate d) = []
sethoods_of (item.Attribute d) = []
sethoods_of (item.ModeMeans d) = []
sethoods_of (item.Abbreviation n) = []
sethoods_of (item.Notation n) = []
sethoods_of (item.RedefinedFunctor d) = []
sethoods_of (item.RedefinedMode d) = []
sethoods_of (item.RedefinedPredicate d) = []
sethoods_of (item.RedefinedAttribute d) = []
sethoods_of (item.Property p) = sethoods_of_form p.form
sethoods_of (item.Existential r) = []
sethoods_of (item.Conditional r) = []
sethoods_of (item.Functorial r) = []
sethoods_of (item.Reduction r) = []
sethoods_of (item.Identification r) = []
sethoods_of (item.Structure s) = []
sethoods_of (item.SetTerm s) = []
sethoods_of (item.Choice c) = []

-- the existential registration that an item states
abbrev pub existentials_of : Item → List ExistentialRegistration
existentials_of (item.Axiom s) = []
existentials_of (item.AxiomScheme s) = []
existentials_of (item.Primitive n) = []
existentials_of (item.Theorem s) = []
existentials_of (item.Scheme s) = []
existentials_of (item.FunctorMeans d) = []
existentials_of (item.FunctorEquals d) = []
existentials_of (item.Predicate d) = []
existentials_of (item.Attribute d) = []
existentials_of (item.ModeMeans d) = []
existentials_of (item.Abbreviation n) = []
existentials_of (item.Notation n) = []
existentials_of (item.RedefinedFunctor d) = []
existentials_of (item.RedefinedMode d) = []
existentials_of (item.RedefinedPredicate d) = []
existentials_of (item.RedefinedAttribute d) = []
existentials_of (item.Property p) = []
existentials_of (item.Existential r) = r ∷ []
existentials_of (item.Conditional r) = []
existentials_of (item.Functorial r) = []
existentials_of (item.Reduction r) = []
existentials_of (item.Identification r) = []
existentials_of (item.Structure s) = []
existentials_of (item.SetTerm s) = []
existentials_of (item.Choice c) = []

-- all that an item gives, where it stands behind so many others of its article
abbrev pub of_item : Numbering → Item → Environment
of_item at x = record {
  functors = functor_rows x;
  modes = mode_rows x;
  structures = structures_of x;
  sethoods = sethoods_of x;
  notations = notations_of x;
  typing = typing_clauses x;
  further = further_clauses x;
  equalities = equality_clauses x;
  steps = unfoldings_of x;
  expansions = unfoldings_of x;
  registrations = existentials_of x;
  theorems = statements_cited at x;
  schemes = schemes_cited at x;
}
