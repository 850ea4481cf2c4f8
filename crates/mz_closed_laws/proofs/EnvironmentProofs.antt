-- Environments of items.
use Rattle.std.proofs.Common.{◌≡◌, refl, true}
use Rattle.std.specs.List.{list_all}
use Rattle.std.proofs.lemmas.Bool.{and_from}
use Rattle.mz_core.specs.declared.item.Item.{Item}
use Rattle.mz_core.specs.declared.item.Item.TheVariants.{Axiom, AxiomScheme, Primitive, Theorem, Scheme, FunctorMeans, FunctorEquals, Predicate, Attribute, ModeMeans, Abbreviation, Notation, RedefinedFunctor, RedefinedMode, RedefinedPredicate, RedefinedAttribute, Property, Existential, Conditional, Functorial, Reduction, Identification, Structure, SetTerm, Choice}
use Rattle.mz_core.proofs.AllLemmas.{all-append}
use Rattle.mz_items.specs.Closed.{contents_closed, structure_closed, notation_closed}
use Rattle.mz_environment.specs.Environment.{structures_of, existentials_of}
use Rattle.mz_closed_laws.specs.ClosedClauses.{clause_closed, row_closed, unfolding_closed}
use Rattle.mz_closed_laws.specs.ClosedEnvironment.{existential_closed, cited_statement_closed, cited_scheme_closed}
use Rattle.mz_closed_laws.specs.EnvironmentLaws.{GivenLaw, NothingLaw, JoinedLaw}
use Rattle.mz_closed_laws.proofs.ItemProofs.{contents, typing_law, further_law, equality_law}
use Rattle.mz_closed_laws.proofs.UnfoldingProofs.{functor_row_law, mode_row_law, unfolding_law}
use Rattle.mz_closed_laws.proofs.NotationProofs.{notations_closed}
use Rattle.mz_closed_laws.proofs.CitedProofs.{statements_closed, schemes_closed}

structures_closed : (i : Item) → contents_closed i ≡ true → list_all structure_closed (structures_of i) ≡ true
structures_closed (Axiom s) h = refl
structures_closed (AxiomScheme s) h = refl
structures_closed (Primitive n) h = refl
structures_closed (Theorem s) h = refl
structures_closed (Scheme s) h = refl
structures_closed (FunctorMeans d) h = refl
structures_closed (FunctorEquals d) h = refl
structures_closed (Predicate d) h = refl
structures_closed (Attribute d) h = refl
structures_closed (ModeMeans d) h = refl
structures_closed (Abbreviation n) h = refl
structures_closed (Notation n) h = refl
structures_closed (RedefinedFunctor d) h = refl
structures_closed (RedefinedMode d) h = refl
structures_closed (RedefinedPredicate d) h = refl
structures_closed (RedefinedAttribute d) h = refl
structures_closed (Property p) h = refl
structures_closed (Existential r) h = refl
structures_closed (Conditional r) h = refl
structures_closed (Functorial r) h = refl
structures_closed (Reduction r) h = refl
structures_closed (Identification r) h = refl
structures_closed (Structure s) h = and_from _ _ h refl
structures_closed (SetTerm s) h = refl
structures_closed (Choice c) h = refl

existentials_closed : (i : Item) → contents_closed i ≡ true → list_all existential_closed (existentials_of i) ≡ true
existentials_closed (Axiom s) h = refl
existentials_closed (AxiomScheme s) h = refl
existentials_closed (Primitive n) h = refl
existentials_closed (Theorem s) h = refl
existentials_closed (Scheme s) h = refl
existentials_closed (FunctorMeans d) h = refl
existentials_closed (FunctorEquals d) h = refl
existentials_closed (Predicate d) h = refl
existentials_closed (Attribute d) h = refl
existentials_closed (ModeMeans d) h = refl
existentials_closed (Abbreviation n) h = refl
existentials_closed (Notation n) h = refl
existentials_closed (RedefinedFunctor d) h = refl
existentials_closed (RedefinedMode d) h = refl
existentials_closed (RedefinedPredicate d) h = refl
existentials_closed (RedefinedAttribute d) h = refl
existentials_closed (Property p) h = refl
existentials_closed (Existential r) h = and_from _ _ h refl
existentials_closed (Conditional r) h = refl
existentials_closed (Functorial r) h = refl
existentials_closed (Reduction r) h = refl
existentials_closed (Identification r) h = refl
existentials_closed (Structure s) h = refl
existentials_closed (SetTerm s) h = refl
existentials_closed (Choice c) h = refl

pub given_law : GivenLaw
given_law at i h = record {
  functors = functor_row_law i h;
  modes = mode_row_law i h;
  structures = structures_closed i (contents i h);
  notations = notations_closed i h;
  typing = typing_law i h;
  further = further_law i h;
  equalities = equality_law i h;
  steps = unfolding_law i h;
  expansions = unfolding_law i h;
  registrations = existentials_closed i (contents i h);
  theorems = statements_closed at i (contents i h);
  schemes = schemes_closed at i (contents i h);
}

pub nothing_law : NothingLaw
nothing_law = record { functors = refl; modes = refl; structures = refl; notations = refl; typing = refl; further = refl; equalities = refl; steps = refl; expansions = refl; registrations = refl; theorems = refl; schemes = refl }

pub joined_law : JoinedLaw
joined_law e f p q = record {
  functors = all-append row_closed e.functors f.functors p.functors q.functors;
  modes = all-append row_closed e.modes f.modes p.modes q.modes;
  structures = all-append structure_closed e.structures f.structures p.structures q.structures;
  notations = all-append notation_closed e.notations f.notations p.notations q.notations;
  typing = all-append clause_closed e.typing f.typing p.typing q.typing;
  further = all-append clause_closed e.further f.further p.further q.further;
  equalities = all-append clause_closed e.equalities f.equalities p.equalities q.equalities;
  steps = all-append unfolding_closed e.steps f.steps p.steps q.steps;
  expansions = all-append unfolding_closed e.expansions f.expansions p.expansions q.expansions;
  registrations = all-append existential_closed e.registrations f.registrations p.registrations q.registrations;
  theorems = all-append cited_statement_closed e.theorems f.theorems p.theorems q.theorems;
  schemes = all-append cited_scheme_closed e.schemes f.schemes p.schemes q.schemes;
}
