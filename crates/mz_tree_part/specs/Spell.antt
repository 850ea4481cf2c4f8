-- The spelling of parts of items: one case for each alternative of the grammar.
use Rattle.std.specs.Prelude.{List, [], ◌∷◌, ◌++◌, codes}
use Rattle.std.specs.List.{flat_map}
use Rattle.mz_base.specs.declared.token.MarkedToken.{MarkedToken}
use Rattle.mz_tree.specs.Spelled.{reserved, special, reserved_if, maybe}
use Rattle.mz_tree.specs.Spell.{spell_term, spell_type, spell_adjectives, spell_declarations}
use Rattle.mz_tree.specs.Lists.{spell_separated}
use Rattle.mz_tree_part.specs.Keywords.{directive_word, notation_word}
use Rattle.mz_tree_part.specs.declared.directive.DirectiveTree.{DirectiveTree}
use Rattle.mz_tree_part.specs.declared.reserve.SegmentTree.{SegmentTree}
use Rattle.mz_tree_part.specs.declared.reserve.ReserveTree.{ReserveTree}
use Rattle.mz_tree_part.specs.declared.parameter.ParameterTree.{ParameterTree}
use Rattle.mz_tree_part.specs.declared.parameter.ParameterTree.TheVariants as parameter_tree
use Rattle.mz_tree_part.specs.declared.notation.BlockLetTree.{BlockLetTree}
use Rattle.mz_tree_part.specs.declared.notation.NotationPartTree.{NotationPartTree}
use Rattle.mz_tree_part.specs.declared.notation.NotationPartTree.TheVariants as notation_part_tree
use Rattle.mz_tree_part.specs.declared.notation.NotationTree.{NotationTree}
use Rattle.mz_tree_part.specs.declared.cluster.ForTypeTree.{ForTypeTree}
use Rattle.mz_tree_part.specs.declared.cluster.ExistentialTree.{ExistentialTree}
use Rattle.mz_tree_part.specs.declared.cluster.ConditionalTree.{ConditionalTree}
use Rattle.mz_tree_part.specs.declared.cluster.FunctorialTree.{FunctorialTree}
use Rattle.mz_tree_part.specs.declared.cluster.ReduceTree.{ReduceTree}
use Rattle.mz_tree_part.specs.declared.cluster.IdentifyTree.{IdentifyTree}
use Rattle.mz_tree_part.specs.declared.cluster.ClusterTree.{ClusterTree}
use Rattle.mz_tree_part.specs.declared.cluster.ClusterTree.TheVariants as cluster_tree
use Rattle.mz_tree_heading.specs.Spell.{spell_identifier, spell_pattern}

abbrev pub spell_directive : DirectiveTree → List MarkedToken
spell_directive a = reserved a.place (directive_word a.word) ∷ spell_separated spell_identifier a.names ++ special a.semicolon (codes ";") ∷ []

abbrev pub spell_segment : SegmentTree → List MarkedToken
spell_segment a = spell_separated spell_identifier a.identifiers ++ reserved a.for_ (codes "for") ∷ spell_type a.ty

abbrev pub spell_reserve : ReserveTree → List MarkedToken
spell_reserve a = reserved a.reserve (codes "reserve") ∷ spell_separated spell_segment a.segments ++ special a.semicolon (codes ";") ∷ []

abbrev pub spell_parameter : ParameterTree → List MarkedToken
spell_parameter (parameter_tree.Functor identifiers left types right arrow ty) = spell_separated spell_identifier identifiers ++ special left (codes "(") ∷ maybe (spell_separated spell_type) types ++ special right (codes ")") ∷ special arrow (codes "->") ∷ spell_type ty
spell_parameter (parameter_tree.Predicate identifiers left types right) = spell_separated spell_identifier identifiers ++ special left (codes "[") ∷ maybe (spell_separated spell_type) types ++ special right (codes "]") ∷ []

abbrev pub spell_block_let : BlockLetTree → List MarkedToken
spell_block_let a = reserved a.let_ (codes "let") ∷ spell_declarations a.declarations ++ special a.semicolon (codes ";") ∷ []

abbrev pub spell_notation_part : NotationPartTree → List MarkedToken
spell_notation_part (notation_part_tree.Let loci) = spell_block_let loci
spell_notation_part (notation_part_tree.Notation place word first for_ second semicolon) = reserved place (notation_word word) ∷ spell_pattern first ++ reserved for_ (codes "for") ∷ spell_pattern second ++ special semicolon (codes ";") ∷ []

abbrev pub spell_notation : NotationTree → List MarkedToken
spell_notation a = reserved a.notation (codes "notation") ∷ flat_map spell_notation_part a.parts ++ reserved a.end (codes "end") ∷ special a.semicolon (codes ";") ∷ []

abbrev pub spell_for_type : ForTypeTree → List MarkedToken
spell_for_type a = reserved a.for_ (codes "for") ∷ spell_type a.ty

abbrev pub spell_existential : ExistentialTree → List MarkedToken
spell_existential a = reserved a.cluster (codes "cluster") ∷ spell_adjectives a.adjectives ++ reserved_if a.for_ (codes "for") ++ spell_type a.ty ++ special a.semicolon (codes ";") ∷ []

abbrev pub spell_conditional : ConditionalTree → List MarkedToken
spell_conditional a = reserved a.cluster (codes "cluster") ∷ maybe spell_adjectives a.premises ++ special a.arrow (codes "->") ∷ spell_adjectives a.adjectives ++ spell_for_type a.for_type ++ special a.semicolon (codes ";") ∷ []

abbrev pub spell_functorial : FunctorialTree → List MarkedToken
spell_functorial a = reserved a.cluster (codes "cluster") ∷ spell_term a.term ++ special a.arrow (codes "->") ∷ spell_adjectives a.adjectives ++ maybe spell_for_type a.for_type ++ special a.semicolon (codes ";") ∷ []

abbrev pub spell_reduce : ReduceTree → List MarkedToken
spell_reduce a = reserved a.reduce (codes "reduce") ∷ spell_term a.first ++ reserved a.to (codes "to") ∷ spell_term a.second ++ special a.semicolon (codes ";") ∷ []

abbrev pub spell_identify : IdentifyTree → List MarkedToken
spell_identify a = reserved a.identify (codes "identify") ∷ spell_term a.first ++ reserved a.with (codes "with") ∷ spell_term a.second ++ special a.semicolon (codes ";") ∷ []

abbrev pub spell_cluster : ClusterTree → List MarkedToken
spell_cluster (cluster_tree.Existential cluster) = spell_existential cluster
spell_cluster (cluster_tree.Conditional cluster) = spell_conditional cluster
spell_cluster (cluster_tree.Functorial cluster) = spell_functorial cluster
spell_cluster (cluster_tree.Reduce cluster) = spell_reduce cluster
spell_cluster (cluster_tree.Identify cluster) = spell_identify cluster
