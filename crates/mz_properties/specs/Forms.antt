-- The property that a word states of an item.
use Rattle.std.specs.Prelude.{◌+◌, ◌-◌, ℕ, Bool, if◌then◌else◌, List, [], ◌∷◌, ◌++◌, length, Option, Some, None}
use Rattle.mz_logic.specs.Term.{Term}
use Rattle.mz_logic.specs.declared.literal.Literal.{Literal}
use Rattle.mz_core.specs.declared.item.Item.{Item}
use Rattle.mz_core.specs.declared.item.Item.TheVariants as item
use Rattle.mz_core.specs.declared.pattern.Pattern.{Pattern}
use Rattle.mz_core.specs.declared.property.Operation.{Operation}
use Rattle.mz_core.specs.declared.property.Property.{Property}
use Rattle.mz_core.specs.declared.property.PropertyForm.{PropertyForm}
use Rattle.mz_core.specs.declared.property.PropertyForm.TheVariants as form
use Rattle.mz_core.specs.declared.property.Relation.{Relation}
use Rattle.mz_core.specs.declared.property.UnaryOperation.{UnaryOperation}
use Rattle.mz_core.specs.declared.soft_type.SoftType.{SoftType}
use Rattle.mz_clauses.specs.SameTypes.{same_type}
use Rattle.mz_items.specs.Loci.{term_on, predicate_on}
use Rattle.mz_items.specs.PropertyRows.{locus_type}
use Rattle.mz_tree_part.specs.declared.words.PropertyWord.{PropertyWord}
use Rattle.mz_tree_part.specs.declared.words.PropertyWord.TheVariants as word

-- what a word states of a relation, of an operation on two loci, and of one on one locus
abbrev pub of_relation : PropertyWord → Relation → Option PropertyForm
of_relation word.Reflexivity r = Some (form.Reflexivity r)
of_relation word.Irreflexivity r = Some (form.Irreflexivity r)
of_relation word.Symmetry r = Some (form.Symmetry r)
of_relation word.Asymmetry r = Some (form.Asymmetry r)
of_relation word.Connectedness r = Some (form.Connectedness r)
of_relation word.Commutativity r = None
of_relation word.Idempotence r = None
of_relation word.Involutiveness r = None
of_relation word.Projectivity r = None
of_relation word.Sethood r = None

abbrev pub of_operation : PropertyWord → Operation → Option PropertyForm
of_operation word.Reflexivity o = None
of_operation word.Irreflexivity o = None
of_operation word.Symmetry o = None
of_operation word.Asymmetry o = None
of_operation word.Connectedness o = None
of_operation word.Commutativity o = Some (form.Commutativity o)
of_operation word.Idempotence o = Some (form.Idempotence o)
of_operation word.Involutiveness o = None
of_operation word.Projectivity o = None
of_operation word.Sethood o = None

abbrev pub of_unary : PropertyWord → UnaryOperation → Option PropertyForm
of_unary word.Reflexivity o = None
of_unary word.Irreflexivity o = None
of_unary word.Symmetry o = None
of_unary word.Asymmetry o = None
of_unary word.Connectedness o = None
of_unary word.Commutativity o = None
of_unary word.Idempotence o = None
of_unary word.Involutiveness o = Some (form.Involutiveness o)
of_unary word.Projectivity o = Some (form.Projectivity o)
of_unary word.Sethood o = None

-- the index of the locus at a place, of so many loci
abbrev pub index_of : ℕ → ℕ → ℕ
index_of count place = count - (place + 1)

-- the loci at two places have the same type
abbrev pub are_alike : List SoftType → ℕ → ℕ → Bool
are_alike loci x y = same_type (locus_type loci (index_of (length loci) x)) (locus_type loci (index_of (length loci) y))

abbrev pub relation_at : List SoftType → Literal → ℕ → ℕ → Relation
relation_at loci l x y = record { literal = l; left = index_of (length loci) x; right = index_of (length loci) y }

abbrev pub operation_at : List SoftType → Term → ℕ → ℕ → Operation
operation_at loci t x y = record { term = t; left = index_of (length loci) x; right = index_of (length loci) y }

abbrev pub unary_at : List SoftType → Term → ℕ → UnaryOperation
unary_at loci t x = record { term = t; place = index_of (length loci) x }

abbrev pub if_alike : List SoftType → ℕ → ℕ → Option PropertyForm → Option PropertyForm
if_alike loci x y o = if are_alike loci x y then o else None

-- what a word states of a literal under loci, of which those at these places are visible: of two, and these of the same type
abbrev pub form_of_literal : PropertyWord → List SoftType → Literal → List ℕ → Option PropertyForm
form_of_literal w loci l [] = None
form_of_literal w loci l (x ∷ []) = None
form_of_literal w loci l (x ∷ y ∷ []) = if_alike loci x y (of_relation w (relation_at loci l x y))
form_of_literal w loci l (x ∷ y ∷ z ∷ zs) = None

-- of a term alike, or of one that is visible
abbrev pub form_of_term : PropertyWord → List SoftType → Term → List ℕ → Option PropertyForm
form_of_term w loci t [] = None
form_of_term w loci t (x ∷ []) = of_unary w (unary_at loci t x)
form_of_term w loci t (x ∷ y ∷ []) = if_alike loci x y (of_operation w (operation_at loci t x y))
form_of_term w loci t (x ∷ y ∷ z ∷ zs) = None

abbrev pub visible_in : Pattern → List ℕ
visible_in p = p.left ++ p.right

abbrev pub property_in : List SoftType → Option PropertyForm → Option Property
property_in loci None = None
property_in loci (Some f) = Some (record { loci = loci; form = f })

abbrev pub literal_property : PropertyWord → Pattern → Literal → Option Property
literal_property w p l = property_in p.loci (form_of_literal w p.loci l (visible_in p))

abbrev pub term_property : PropertyWord → Pattern → Term → Option Property
term_property w p t = property_in p.loci (form_of_term w p.loci t (visible_in p))

-- the property that the word states of an item: of what the pattern of a predicate or a functor reads to. There is none where the word is no
-- property of the item's kind, or where the pattern has other visible loci than the property wants
abbrev pub property_of : PropertyWord → Item → Option Property
property_of w (item.Axiom s) = None
property_of w (item.AxiomScheme s) = None
property_of w (item.Primitive n) = None
property_of w (item.Theorem s) = None
property_of w (item.Scheme s) = None
property_of w (item.FunctorMeans d) = term_property w d.pattern (term_on d.pattern.loci d.sym)
property_of w (item.FunctorEquals d) = term_property w d.pattern (term_on d.pattern.loci d.sym)
property_of w (item.Predicate d) = literal_property w d.pattern (predicate_on d.pattern.loci d.sym)
property_of w (item.Attribute d) = None
property_of w (item.ModeMeans d) = None
property_of w (item.Abbreviation n) = None
property_of w (item.Notation n) = None
property_of w (item.RedefinedFunctor d) = term_property w d.pattern d.term
property_of w (item.RedefinedMode d) = None
property_of w (item.RedefinedPredicate d) = literal_property w d.pattern d.literal
property_of w (item.RedefinedAttribute d) = None
property_of w (item.Property p) = None
property_of w (item.Existential r) = None
property_of w (item.Conditional r) = None
property_of w (item.Functorial r) = None
property_of w (item.Reduction r) = None
property_of w (item.Identification r) = None
property_of w (item.Structure s) = None
property_of w (item.SetTerm s) = None
property_of w (item.Choice c) = None
