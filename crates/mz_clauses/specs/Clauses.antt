-- The clauses of items and exports.
use Rattle.std.specs.Prelude.{List, [], ◌∷◌, ◌++◌, flat_map, length}
use Rattle.mz_core.specs.Guard.{guard_literals}
use Rattle.mz_core.specs.declared.outcome.Export.{Export}
use Rattle.mz_core.specs.declared.scheme.SchemeLetter.{SchemeLetter}
use Rattle.mz_core.specs.declared.scheme.SchemeLetter.TheVariants.{OfFunctor, OfPredicate}
use Rattle.mz_core.specs.declared.item.Item.{Item}
use Rattle.mz_core.specs.declared.item.Item.TheVariants.{Axiom, AxiomScheme, Primitive, Theorem, Scheme, FunctorMeans, FunctorEquals, Predicate, Attribute, ModeMeans, Abbreviation, Notation, RedefinedFunctor, RedefinedMode, RedefinedPredicate, RedefinedAttribute, Property, Existential, Conditional, Functorial, Reduction, Identification, Structure, SetTerm, Choice}
use Rattle.mz_ground.specs.declared.clause.Clause.{Clause}
use Rattle.mz_items.specs.Loci.{term_on, mode_on}
use Rattle.mz_clauses.specs.declared.clause_groups.ClauseGroup.{ClauseGroup}
use Rattle.mz_clauses.specs.declared.item_groups.ItemGroups.{ItemGroups}
use Rattle.mz_clauses.specs.Groups.{groups_clauses}
use Rattle.mz_clauses.specs.DefinitionClauses.{functor_type_groups, new_functor_type_groups, mode_parent_groups, new_mode_parent_groups, equality_groups}
use Rattle.mz_clauses.specs.RegistrationClauses.{functorial_groups, conditional_groups, registered_equation_groups}
use Rattle.mz_clauses.specs.StructureClauses.{part_groups, aggregate_groups, strict_groups}
use Rattle.mz_clauses.specs.PropertyClauses.{property_groups}

abbrev pub item_groups : List ClauseGroup → List ClauseGroup → List ClauseGroup → ItemGroups
item_groups typing further equalities = record { typing = typing; further = further; equalities = equalities }

abbrev pub no_groups : ItemGroups
no_groups = item_groups [] [] []

abbrev pub typing_alone : List ClauseGroup → ItemGroups
typing_alone gs = item_groups gs [] []

abbrev pub further_alone : List ClauseGroup → ItemGroups
further_alone gs = item_groups [] gs []

-- what an item gives: typing clauses, further clauses, and equality clauses, which definitions alone give
abbrev pub groups_of : Item → ItemGroups
groups_of (Axiom s) = no_groups
groups_of (AxiomScheme s) = no_groups
groups_of (Primitive n) = no_groups
groups_of (Theorem s) = no_groups
groups_of (Scheme s) = no_groups
groups_of (FunctorMeans d) = typing_alone (functor_type_groups d.pattern.loci (term_on d.pattern.loci d.sym) d.ty)
groups_of (FunctorEquals d) = item_groups (functor_type_groups d.pattern.loci (term_on d.pattern.loci d.sym) d.ty) [] (equality_groups d.pattern.loci (term_on d.pattern.loci d.sym) d.definiens)
groups_of (Predicate d) = no_groups
groups_of (Attribute d) = no_groups
groups_of (ModeMeans d) = typing_alone (mode_parent_groups d.pattern.loci (mode_on d.pattern.loci d.sym) d.ty)
groups_of (Abbreviation n) = no_groups
groups_of (Notation n) = no_groups
groups_of (RedefinedFunctor d) = typing_alone (new_functor_type_groups d.pattern.loci d.term d.ty)
groups_of (RedefinedMode d) = typing_alone (new_mode_parent_groups d.pattern.loci d.mode d.ty)
groups_of (RedefinedPredicate d) = no_groups
groups_of (RedefinedAttribute d) = no_groups
groups_of (Property p) = further_alone (property_groups p.loci p.form)
groups_of (Existential r) = no_groups
groups_of (Conditional r) = typing_alone (conditional_groups r)
groups_of (Functorial r) = typing_alone (functorial_groups r)
groups_of (Reduction r) = further_alone (registered_equation_groups r)
groups_of (Identification r) = further_alone (registered_equation_groups r)
groups_of (Structure s) = item_groups (part_groups s ++ aggregate_groups s) (strict_groups s) []
groups_of (SetTerm s) = no_groups
groups_of (Choice c) = typing_alone (functor_type_groups c.loci (term_on c.loci c.sym) c.ty)

abbrev pub typing_clauses : Item → List Clause
typing_clauses item = groups_clauses (groups_of item).typing

abbrev pub further_clauses : Item → List Clause
further_clauses item = groups_clauses (groups_of item).further

abbrev pub equality_clauses : Item → List Clause
equality_clauses item = groups_clauses (groups_of item).equalities

-- the clauses of an item: its typing clauses, further ones, and equality clauses
unfoldable pub item_clauses : Item → List Clause
item_clauses item = typing_clauses item ++ further_clauses item ++ equality_clauses item

-- the clauses of an export are those of its items, in the items' order
unfoldable pub clauses_of : Export → List Clause
clauses_of e = flat_map item_clauses e.items

-- the type of a functor letter, under its places
abbrev pub letter_groups : SchemeLetter → List ClauseGroup
letter_groups (OfFunctor s places ty) = functor_type_groups places (term_on places s) ty
letter_groups (OfPredicate s places) = []

unfoldable pub letter_clauses : SchemeLetter → List Clause
letter_clauses l = groups_clauses (letter_groups l)
