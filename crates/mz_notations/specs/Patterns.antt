-- Patterns of every kind: their symbols, places and identifiers.
use Rattle.std.specs.Prelude.{ℕ, List, [], ◌∷◌, Option, Some, None}
use Rattle.mz_base.specs.declared.place.Place.{Place}
use Rattle.mz_logic.specs.declared.kind.Kind.{Kind}
use Rattle.mz_logic.specs.declared.kind.Kind.TheVariants as kind
use Rattle.mz_tree.specs.declared.lists.Separated.{Separated}
use Rattle.mz_tree_heading.specs.declared.patterns.FunctorPatternTree.{FunctorPatternTree}
use Rattle.mz_tree_heading.specs.declared.patterns.FunctorPatternTree.TheVariants.{Symbol, Brackets, Braces, Squares}
use Rattle.mz_tree_heading.specs.declared.patterns.IdentifierTree.{IdentifierTree}
use Rattle.mz_tree_heading.specs.declared.patterns.LociTree.{LociTree}
use Rattle.mz_tree_heading.specs.declared.patterns.LociTree.TheVariants.{One, Several}
use Rattle.mz_tree_heading.specs.declared.patterns.PatternTree.{PatternTree}
use Rattle.mz_tree_heading.specs.declared.patterns.PatternTree.TheVariants.{Functor, Predicate, Attribute, Mode}
use Rattle.mz_patterns.specs.Patterns.{identifier, identifiers_in, identifiers_beside}
use Rattle.mz_patterns.specs.Functors.{functor_left, functor_right, functor_symbol, functor_closing, mode_right}

abbrev pub kind_of : PatternTree → Kind
kind_of (Functor t) = kind.Functor
kind_of (Predicate t) = kind.Predicate
kind_of (Attribute t) = kind.Attribute
kind_of (Mode t) = kind.Mode

-- the identifiers before and behind the symbol; of an attribute the subject alone stands behind it
abbrev pub names_before : PatternTree → List IdentifierTree
names_before (Functor t) = functor_left t
names_before (Predicate t) = identifiers_in t.left
names_before (Attribute t) = identifiers_beside t.loci
names_before (Mode t) = []

abbrev pub names_behind : PatternTree → List IdentifierTree
names_behind (Functor t) = functor_right t
names_behind (Predicate t) = identifiers_in t.right
names_behind (Attribute t) = identifier t.subject ∷ []
names_behind (Mode t) = mode_right t

-- the symbol, of brackets the left one, and the right bracket, which is empty elsewhere
abbrev pub symbol_of : PatternTree → List ℕ
symbol_of (Functor t) = functor_symbol t
symbol_of (Predicate t) = t.symbol.spelling
symbol_of (Attribute t) = t.symbol.spelling
symbol_of (Mode t) = t.symbol.spelling

abbrev pub closing_of : PatternTree → List ℕ
closing_of (Functor t) = functor_closing t
closing_of (Predicate t) = []
closing_of (Attribute t) = []
closing_of (Mode t) = []

-- the place of the symbol
abbrev pub functor_place : FunctorPatternTree → Place
functor_place (Symbol t) = t.symbol.place
functor_place (Brackets l ws r) = l.place
functor_place (Braces l ws r) = l
functor_place (Squares l ws r) = l

abbrev pub symbol_place : PatternTree → Place
symbol_place (Functor t) = functor_place t
symbol_place (Predicate t) = t.symbol.place
symbol_place (Attribute t) = t.symbol.place
symbol_place (Mode t) = t.symbol.place

-- the place of the first token
abbrev pub loci_place : LociTree → Place
loci_place (One w) = w.place
loci_place (Several left ws right) = left

abbrev pub loci_or : Place → Option LociTree → Place
loci_or place None = place
loci_or place (Some t) = loci_place t

abbrev pub functor_first : FunctorPatternTree → Place
functor_first (Symbol t) = loci_or t.symbol.place t.left
functor_first (Brackets l ws r) = l.place
functor_first (Braces l ws r) = l
functor_first (Squares l ws r) = l

abbrev pub names_or : Place → Option (Separated IdentifierTree) → Place
names_or place None = place
names_or place (Some ws) = ws.first.name.place

abbrev pub first_of : PatternTree → Place
first_of (Functor t) = functor_first t
first_of (Predicate t) = names_or t.symbol.place t.left
first_of (Attribute t) = t.subject.place
first_of (Mode t) = t.symbol.place
