-- The rules beside the alternatives of the grammar, for parts of items.
use Rattle.std.specs.Prelude.{◌≡◌, Bool, true, false, Option, Some, None}
use Rattle.mz_base.specs.Name.{is_name}
use Rattle.mz_base.specs.declared.place.Place.{Place}
use Rattle.mz_tree.specs.Trees.{TypeData, ModeType, ModeOfType, StructureType, StructureOverType, no_adjectives, more_adjectives}
use Rattle.mz_tree.specs.Rules.{IsTerm, IsType, AreSomeAdjectives, AreDeclarations, ends_in_terms, Every, IfAny}
use Rattle.mz_tree.specs.Lists.{AreSeparated, AreDivided}
use Rattle.mz_tree_part.specs.declared.words.DirectiveWord.{DirectiveWord}
use Rattle.mz_tree_part.specs.declared.words.DirectiveWord.TheVariants as directive_words
use Rattle.mz_tree_part.specs.declared.words.ConditionWord.{ConditionWord}
use Rattle.mz_tree_part.specs.declared.words.ConditionWord.TheVariants as condition_words
use Rattle.mz_tree_part.specs.declared.words.PropertyWord.{PropertyWord}
use Rattle.mz_tree_part.specs.declared.words.PropertyWord.TheVariants as property_words
use Rattle.mz_tree_heading.specs.declared.patterns.IdentifierTree.{IdentifierTree}
use Rattle.mz_tree_part.specs.declared.directive.DirectiveTree.{DirectiveTree}
use Rattle.mz_tree_part.specs.declared.reserve.SegmentTree.{SegmentTree}
use Rattle.mz_tree_part.specs.declared.reserve.ReserveTree.{ReserveTree}
use Rattle.mz_tree_part.specs.declared.parameter.ParameterTree.{ParameterTree}
use Rattle.mz_tree_part.specs.declared.parameter.ParameterTree.TheVariants as parameter_tree
use Rattle.mz_tree_part.specs.declared.notation.BlockLetTree.{BlockLetTree}
use Rattle.mz_tree_part.specs.declared.notation.NotationPartTree.{NotationPartTree}
use Rattle.mz_tree_part.specs.declared.notation.NotationPartTree.TheVariants as notation_part_tree
use Rattle.mz_tree_part.specs.declared.notation.NotationTree.{NotationTree}
use Rattle.mz_tree_part.specs.declared.cluster.ForTypeTree.{ForTypeTree}
use Rattle.mz_tree_part.specs.declared.cluster.ExistentialTree.{ExistentialTree}
use Rattle.mz_tree_part.specs.declared.cluster.ConditionalTree.{ConditionalTree}
use Rattle.mz_tree_part.specs.declared.cluster.FunctorialTree.{FunctorialTree}
use Rattle.mz_tree_part.specs.declared.cluster.ClusterTree.{ClusterTree}
use Rattle.mz_tree_part.specs.declared.cluster.ClusterTree.TheVariants as cluster_tree

-- The words of the language so far.
abbrev pub is_directive_yet : DirectiveWord → Bool
is_directive_yet directive_words.Vocabularies = true
is_directive_yet directive_words.Notations = true
is_directive_yet directive_words.Constructors = true
is_directive_yet directive_words.Registrations = true
is_directive_yet directive_words.Definitions = true
is_directive_yet directive_words.Equalities = false
is_directive_yet directive_words.Expansions = false
is_directive_yet directive_words.Theorems = true
is_directive_yet directive_words.Schemes = true
is_directive_yet directive_words.Requirements = true

abbrev pub is_condition_yet : ConditionWord → Bool
is_condition_yet condition_words.Existence = true
is_condition_yet condition_words.Uniqueness = true
is_condition_yet condition_words.Coherence = true
is_condition_yet condition_words.Compatibility = true
is_condition_yet condition_words.Consistency = true
is_condition_yet condition_words.Correctness = true
is_condition_yet condition_words.Reducibility = false

abbrev pub is_property_yet : PropertyWord → Bool
is_property_yet property_words.Reflexivity = true
is_property_yet property_words.Irreflexivity = true
is_property_yet property_words.Symmetry = true
is_property_yet property_words.Asymmetry = true
is_property_yet property_words.Connectedness = true
is_property_yet property_words.Commutativity = true
is_property_yet property_words.Idempotence = true
is_property_yet property_words.Involutiveness = true
is_property_yet property_words.Projectivity = true
is_property_yet property_words.Sethood = false

abbrev pub IsNamed : IdentifierTree → Type 0
IsNamed a = is_name a.name.spelling ≡ true

abbrev pub IsDirective : DirectiveTree → Type 0
IsDirective a = (is_directive_yet a.word ≡ true) × AreSeparated IsNamed a.names

abbrev pub IsSegment : SegmentTree → Type 0
IsSegment a = IsType false a.ty

abbrev pub segment_ends_in_terms : SegmentTree → Bool
segment_ends_in_terms a = ends_in_terms a.ty

abbrev pub IsReserve : ReserveTree → Type 0
IsReserve a = AreDivided IsSegment segment_ends_in_terms a.segments

abbrev pub IsParameter : ParameterTree → Type 0
IsParameter (parameter_tree.Functor a p ts q r t) = IfAny (AreDivided (IsType false) ends_in_terms) ts × IsType false t
IsParameter (parameter_tree.Predicate a p ts q) = IfAny (AreDivided (IsType false) ends_in_terms) ts

abbrev pub parameter_ends_in_terms : ParameterTree → Bool
parameter_ends_in_terms (parameter_tree.Functor a p ts q r t) = ends_in_terms t
parameter_ends_in_terms (parameter_tree.Predicate a p ts q) = false

abbrev pub IsLoci : BlockLetTree → Type 0
IsLoci a = AreDeclarations false a.declarations

abbrev pub IsNotationPart : NotationPartTree → Type 0
IsNotationPart (notation_part_tree.Let a) = IsLoci a
IsNotationPart (notation_part_tree.Notation p w a q b r) = Unit {0}

abbrev pub IsNotation : NotationTree → Type 0
IsNotation a = Every IsNotationPart a.parts

abbrev pub HasNoAdjectives : TypeData → Type 0
HasNoAdjectives (ModeType no_adjectives a) = Unit {0}
HasNoAdjectives (ModeType (more_adjectives x xs) a) = ⊥
HasNoAdjectives (ModeOfType no_adjectives a p b) = Unit {0}
HasNoAdjectives (ModeOfType (more_adjectives x xs) a p b) = ⊥
HasNoAdjectives (StructureType no_adjectives a) = Unit {0}
HasNoAdjectives (StructureType (more_adjectives x xs) a) = ⊥
HasNoAdjectives (StructureOverType no_adjectives a p b) = Unit {0}
HasNoAdjectives (StructureOverType (more_adjectives x xs) a p b) = ⊥

abbrev pub IsForType : ForTypeTree → Type 0
IsForType a = IsType false a.ty

-- Without `for` all adjectives belong to the cluster, and the type has none of its own.
abbrev pub MayHaveAdjectives : Option Place → TypeData → Type 0
MayHaveAdjectives None t = HasNoAdjectives t
MayHaveAdjectives (Some p) t = Unit {0}

abbrev pub IsExistential : ExistentialTree → Type 0
IsExistential a = AreSomeAdjectives false a.adjectives × IsType false a.ty × MayHaveAdjectives a.for_ a.ty

abbrev pub IsConditional : ConditionalTree → Type 0
IsConditional a = IfAny (AreSomeAdjectives false) a.premises × AreSomeAdjectives false a.adjectives × IsForType a.for_type

abbrev pub IsFunctorial : FunctorialTree → Type 0
IsFunctorial a = IsTerm false a.term × AreSomeAdjectives false a.adjectives × IfAny IsForType a.for_type

abbrev pub IsCluster : ClusterTree → Type 0
IsCluster (cluster_tree.Existential a) = IsExistential a
IsCluster (cluster_tree.Conditional a) = IsConditional a
IsCluster (cluster_tree.Functorial a) = IsFunctorial a
-- not in the language yet
IsCluster (cluster_tree.Reduce a) = ⊥
IsCluster (cluster_tree.Identify a) = ⊥
