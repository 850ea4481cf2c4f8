-- How many items of each kind an article has.
use Rattle.std.specs.Prelude.{◌+◌, List, fold}
use Rattle.mz_core.specs.declared.verdict.Counts.{Counts}
use Rattle.mz_core.specs.declared.item.Item.{Item}
use Rattle.mz_core.specs.declared.item.Item.TheVariants.{Axiom, AxiomScheme, Primitive, Theorem, Scheme, FunctorMeans, FunctorEquals, Predicate, Attribute, ModeMeans, Abbreviation, Notation, RedefinedFunctor, RedefinedMode, RedefinedPredicate, RedefinedAttribute, Property, Existential, Conditional, Functorial, Reduction, Identification, Structure, SetTerm, Choice}
use Rattle.mz_rows.specs.declared.counts.ItemKind.{ItemKind}
use Rattle.mz_rows.specs.declared.counts.ItemKind.TheVariants as kind

abbrev pub no_counts : Counts
no_counts = record { theorems = 0; definitions = 0; registrations = 0; schemes = 0 }

-- what an item is counted as: definitions are the headings other than abbreviations, structures and
-- redefinitions among them
abbrev pub kind_of : Item → ItemKind
kind_of (Axiom s) = kind.Other
kind_of (AxiomScheme s) = kind.Other
kind_of (Primitive n) = kind.Other
kind_of (Theorem s) = kind.Theorem
kind_of (Scheme s) = kind.Scheme
kind_of (FunctorMeans d) = kind.Definition
kind_of (FunctorEquals d) = kind.Definition
kind_of (Predicate d) = kind.Definition
kind_of (Attribute d) = kind.Definition
kind_of (ModeMeans d) = kind.Definition
kind_of (Abbreviation n) = kind.Other
kind_of (Notation n) = kind.Other
kind_of (RedefinedFunctor d) = kind.Definition
kind_of (RedefinedMode d) = kind.Definition
kind_of (RedefinedPredicate d) = kind.Definition
kind_of (RedefinedAttribute d) = kind.Definition
kind_of (Property p) = kind.Other
kind_of (Existential r) = kind.Registration
kind_of (Conditional r) = kind.Registration
kind_of (Functorial r) = kind.Registration
kind_of (Reduction r) = kind.Registration
kind_of (Identification r) = kind.Registration
kind_of (Structure s) = kind.Definition
kind_of (SetTerm s) = kind.Other
kind_of (Choice c) = kind.Other

-- the counts with one more of the kind
abbrev pub one_more : Counts → ItemKind → Counts
one_more c kind.Theorem = record c { theorems = c.theorems + 1 }
one_more c kind.Definition = record c { definitions = c.definitions + 1 }
one_more c kind.Registration = record c { registrations = c.registrations + 1 }
one_more c kind.Scheme = record c { schemes = c.schemes + 1 }
one_more c kind.Other = c

abbrev pub with_item : Counts → Item → Counts
with_item c item = one_more c (kind_of item)

abbrev pub counts_of : List Item → Counts
counts_of items = fold with_item no_counts items
