-- How many symbols of each kind an article has made.
use Rattle.std.specs.Prelude.{ℕ, ◌+◌, Bool, true, false, ◌&&◌, nat_eq, nat_lt, List, count_by}
use Rattle.mz_core.specs.declared.item.Item.{Item}
use Rattle.mz_core.specs.declared.item.Item.TheVariants as item
use Rattle.mz_core.specs.declared.scheme.SchemeLetter.{SchemeLetter}
use Rattle.mz_core.specs.declared.scheme.SchemeLetter.TheVariants.{OfFunctor, OfPredicate}
use Rattle.mz_core.specs.declared.structure.Field.{Field}
use Rattle.mz_core.specs.declared.structure.Structure.{Structure}
use Rattle.mz_context.specs.declared.context.SymbolCounts.{SymbolCounts}

-- the selector of a field is a new one of the article where its number is above those that were given; that of an ancestor's field is
-- the ancestor's
abbrev pub is_new_selector : ℕ → ℕ → Field → Bool
is_new_selector article given f = nat_eq f.selector.article article && nat_lt given f.selector.number

-- how many new selectors the fields of a structure of the article have, where so many were given
abbrev pub new_selectors : ℕ → ℕ → List Field → ℕ
new_selectors article given fs = count_by (is_new_selector article given) fs

abbrev pub is_functor_letter : SchemeLetter → Bool
is_functor_letter (OfFunctor s places ty) = true
is_functor_letter (OfPredicate s places) = false

abbrev pub is_predicate_letter : SchemeLetter → Bool
is_predicate_letter (OfFunctor s places ty) = false
is_predicate_letter (OfPredicate s places) = true

-- one symbol more
abbrev pub with_mode : SymbolCounts → SymbolCounts
with_mode c = record c { modes = c.modes + 1 }

abbrev pub with_attribute : SymbolCounts → SymbolCounts
with_attribute c = record c { attributes = c.attributes + 1 }

abbrev pub with_functor : SymbolCounts → SymbolCounts
with_functor c = record c { functors = c.functors + 1 }

abbrev pub with_predicate : SymbolCounts → SymbolCounts
with_predicate c = record c { predicates = c.predicates + 1 }

-- a structure, its attribute `strict`, its aggregate, and the new selectors of its fields
abbrev pub with_structure : SymbolCounts → Structure → SymbolCounts
with_structure c s = record c {
  structures = c.structures + 1;
  attributes = c.attributes + 1;
  aggregates = c.aggregates + 1;
  selectors = c.selectors + new_selectors s.sym.article c.selectors s.fields;
}

-- the letters of a scheme
abbrev pub with_letters : SymbolCounts → List SchemeLetter → SymbolCounts
with_letters c ls = record c {
  functor_letters = c.functor_letters + count_by is_functor_letter ls;
  predicate_letters = c.predicate_letters + count_by is_predicate_letter ls;
}

-- behind an item. An abbreviation, a notation, a redefinition, a property and a registration make no symbol
abbrev pub counted : SymbolCounts → Item → SymbolCounts
counted c (item.Axiom s) = c
counted c (item.AxiomScheme s) = with_letters c s.letters
counted c (item.Primitive n) = c
counted c (item.Theorem s) = c
counted c (item.Scheme s) = with_letters c s.letters
counted c (item.FunctorMeans d) = with_functor c
counted c (item.FunctorEquals d) = with_functor c
counted c (item.Predicate d) = with_predicate c
counted c (item.Attribute d) = with_attribute c
counted c (item.ModeMeans d) = with_mode c
counted c (item.Abbreviation n) = c
counted c (item.Notation n) = c
counted c (item.RedefinedFunctor d) = c
counted c (item.RedefinedMode d) = c
counted c (item.RedefinedPredicate d) = c
counted c (item.RedefinedAttribute d) = c
counted c (item.Property p) = c
counted c (item.Existential r) = c
counted c (item.Conditional r) = c
counted c (item.Functorial r) = c
counted c (item.Reduction r) = c
counted c (item.Identification r) = c
counted c (item.Structure s) = with_structure c s
counted c (item.SetTerm t) = with_functor c
counted c (item.Choice t) = with_functor c
