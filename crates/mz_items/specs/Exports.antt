-- What an article gives to others: its statements and its notations.
use Rattle.std.specs.Prelude.{◌≡◌, Bool, true, false, List, [], ◌∷◌, ◌++◌, flat_map}
use Rattle.mz_logic.specs.declared.sequent.Sequent.{Sequent}
use Rattle.mz_logic.specs.Formula.{Formula}
use Rattle.mz_core.specs.declared.outcome.Export.{Export}
use Rattle.mz_core.specs.declared.item.Item.{Item}
use Rattle.mz_core.specs.declared.pattern.Pattern.{Pattern}
use Rattle.mz_core.specs.declared.notation.Notation.{Notation as TheNotation}
use Rattle.mz_core.specs.declared.notation.Meaning.{Meaning}
use Rattle.mz_core.specs.declared.notation.Meaning.TheVariants.{OfTerm, OfLiteral, OfType}
use Rattle.mz_core.specs.declared.item.Item.TheVariants.{Axiom, AxiomScheme, Primitive, Theorem, Scheme, FunctorMeans, FunctorEquals, Predicate, Attribute, ModeMeans, Abbreviation, Notation, RedefinedFunctor, RedefinedMode, RedefinedPredicate, RedefinedAttribute, Property, Existential, Conditional, Functorial, Reduction, Identification, Structure, SetTerm, Choice}
use Rattle.mz_items.specs.Items.{owes, grants}
use Rattle.mz_items.specs.Loci.{term_on, predicate_on, attribute_on, mode_on}

-- the item is one of those that the built-in articles alone have
abbrev pub is_primitive : Item → Bool
is_primitive (Axiom s) = true
is_primitive (AxiomScheme s) = true
is_primitive (Primitive n) = true
is_primitive (Theorem s) = false
is_primitive (Scheme s) = false
is_primitive (FunctorMeans d) = false
is_primitive (FunctorEquals d) = false
is_primitive (Predicate d) = false
is_primitive (Attribute d) = false
is_primitive (ModeMeans d) = false
is_primitive (Abbreviation n) = false
is_primitive (Notation n) = false
is_primitive (RedefinedFunctor d) = false
is_primitive (RedefinedMode d) = false
is_primitive (RedefinedPredicate d) = false
is_primitive (RedefinedAttribute d) = false
is_primitive (Property p) = false
is_primitive (Existential r) = false
is_primitive (Conditional r) = false
is_primitive (Functorial r) = false
is_primitive (Reduction r) = false
is_primitive (Identification r) = false
is_primitive (Structure s) = false
is_primitive (SetTerm s) = false
is_primitive (Choice c) = false

-- the conclusion of a sequent, if it has no premises
abbrev pub without_premises : List Formula → Formula → List Formula
without_premises [] f = f ∷ []
without_premises (p ∷ ps) f = []

abbrev pub conclusion_alone : Sequent → List Formula
conclusion_alone s = without_premises s.premises s.conclusion

-- what an item grants, and what it owes without premises
abbrev pub item_statements : Item → List Formula
item_statements item = grants item ++ flat_map conclusion_alone (owes item)

-- what the items of an article grant and owe without premises, in the items' order
abbrev pub statements_of : Export → List Formula
statements_of e = flat_map item_statements e.items

-- a pattern with what it reads to
abbrev pub notation_of : Pattern → Meaning → TheNotation
notation_of p m = record { pattern = p; meaning = m }

-- the notations of an item: each pattern with what it reads to, for a definition its own symbol on the loci
abbrev pub notations_of : Item → List TheNotation
notations_of (Axiom s) = []
notations_of (AxiomScheme s) = []
notations_of (Primitive n) = n ∷ []
notations_of (Theorem s) = []
notations_of (Scheme s) = []
notations_of (FunctorMeans d) = notation_of d.pattern (OfTerm (term_on d.pattern.loci d.sym)) ∷ []
notations_of (FunctorEquals d) = notation_of d.pattern (OfTerm (term_on d.pattern.loci d.sym)) ∷ []
notations_of (Predicate d) = notation_of d.pattern (OfLiteral (predicate_on d.pattern.loci d.sym)) ∷ []
notations_of (Attribute d) = notation_of d.pattern (OfLiteral (attribute_on d.pattern.loci d.subject d.sym)) ∷ []
notations_of (ModeMeans d) = notation_of d.pattern (OfType (mode_on d.pattern.loci d.sym)) ∷ []
notations_of (Abbreviation n) = n ∷ []
notations_of (Notation n) = n ∷ []
notations_of (RedefinedFunctor d) = notation_of d.pattern (OfTerm d.term) ∷ []
notations_of (RedefinedMode d) = notation_of d.pattern (OfType d.mode) ∷ []
notations_of (RedefinedPredicate d) = notation_of d.pattern (OfLiteral d.literal) ∷ []
notations_of (RedefinedAttribute d) = notation_of d.pattern (OfLiteral d.literal) ∷ []
notations_of (Property p) = []
notations_of (Existential r) = []
notations_of (Conditional r) = []
notations_of (Functorial r) = []
notations_of (Reduction r) = []
notations_of (Identification r) = []
notations_of (Structure s) = s.notations
notations_of (SetTerm s) = []
notations_of (Choice c) = []

-- the notations of an article are those of its items, in the items' order
abbrev pub HasNotationsOfItems : Export → Type 0
HasNotationsOfItems e = e.notations ≡ flat_map notations_of e.items
