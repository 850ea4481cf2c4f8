-- How many constructs are open at each token of parts of items. A bracket counts from its opening token up to the one before its
-- closing token.
use Rattle.std.specs.Prelude.{ℕ, suc, List, [], ◌∷◌, ◌++◌, map}
use Rattle.std.specs.List.{flat_map}
use Rattle.mz_tree.specs.Spelled.{maybe}
use Rattle.mz_tree.specs.Levels.{levels_if, levels_term, levels_type, levels_adjectives, levels_declarations}
use Rattle.mz_tree.specs.Lists.{levels_separated}
use Rattle.mz_tree_part.specs.declared.directive.DirectiveTree.{DirectiveTree}
use Rattle.mz_tree_part.specs.declared.reserve.SegmentTree.{SegmentTree}
use Rattle.mz_tree_part.specs.declared.reserve.ReserveTree.{ReserveTree}
use Rattle.mz_tree_part.specs.declared.parameter.ParameterTree.{ParameterTree}
use Rattle.mz_tree_part.specs.declared.parameter.ParameterTree.TheVariants as parameter_tree
use Rattle.mz_tree_part.specs.declared.notation.BlockLetTree.{BlockLetTree}
use Rattle.mz_tree_part.specs.declared.notation.NotationPartTree.{NotationPartTree}
use Rattle.mz_tree_part.specs.declared.notation.NotationPartTree.TheVariants as notation_part_tree
use Rattle.mz_tree_part.specs.declared.notation.NotationTree.{NotationTree}
use Rattle.mz_tree_part.specs.declared.cluster.ForTypeTree.{ForTypeTree}
use Rattle.mz_tree_part.specs.declared.cluster.ExistentialTree.{ExistentialTree}
use Rattle.mz_tree_part.specs.declared.cluster.ConditionalTree.{ConditionalTree}
use Rattle.mz_tree_part.specs.declared.cluster.FunctorialTree.{FunctorialTree}
use Rattle.mz_tree_part.specs.declared.cluster.ReduceTree.{ReduceTree}
use Rattle.mz_tree_part.specs.declared.cluster.IdentifyTree.{IdentifyTree}
use Rattle.mz_tree_part.specs.declared.cluster.ClusterTree.{ClusterTree}
use Rattle.mz_tree_part.specs.declared.cluster.ClusterTree.TheVariants as cluster_tree
use Rattle.mz_tree_heading.specs.Levels.{levels_identifier, levels_pattern}

abbrev pub levels_directive : DirectiveTree → List ℕ
levels_directive a = 0 ∷ levels_separated levels_identifier a.names ++ 0 ∷ []

abbrev pub levels_segment : SegmentTree → List ℕ
levels_segment a = levels_separated levels_identifier a.identifiers ++ 0 ∷ levels_type a.ty

abbrev pub levels_reserve : ReserveTree → List ℕ
levels_reserve a = 0 ∷ levels_separated levels_segment a.segments ++ 0 ∷ []

abbrev pub levels_parameter : ParameterTree → List ℕ
levels_parameter (parameter_tree.Functor identifiers left types right arrow ty) = levels_separated levels_identifier identifiers ++ 1 ∷ map suc (maybe (levels_separated levels_type) types) ++ 0 ∷ 0 ∷ levels_type ty
levels_parameter (parameter_tree.Predicate identifiers left types right) = levels_separated levels_identifier identifiers ++ 1 ∷ map suc (maybe (levels_separated levels_type) types) ++ 0 ∷ []

abbrev pub levels_block_let : BlockLetTree → List ℕ
levels_block_let a = 0 ∷ levels_declarations a.declarations ++ 0 ∷ []

abbrev pub levels_notation_part : NotationPartTree → List ℕ
levels_notation_part (notation_part_tree.Let loci) = levels_block_let loci
levels_notation_part (notation_part_tree.Notation place word first for_ second semicolon) = 0 ∷ levels_pattern first ++ 0 ∷ levels_pattern second ++ 0 ∷ []

abbrev pub levels_notation : NotationTree → List ℕ
levels_notation a = 0 ∷ flat_map levels_notation_part a.parts ++ 0 ∷ 0 ∷ []

abbrev pub levels_for_type : ForTypeTree → List ℕ
levels_for_type a = 0 ∷ levels_type a.ty

abbrev pub levels_existential : ExistentialTree → List ℕ
levels_existential a = 0 ∷ levels_adjectives a.adjectives ++ levels_if a.for_ ++ levels_type a.ty ++ 0 ∷ []

abbrev pub levels_conditional : ConditionalTree → List ℕ
levels_conditional a = 0 ∷ maybe levels_adjectives a.premises ++ 0 ∷ levels_adjectives a.adjectives ++ levels_for_type a.for_type ++ 0 ∷ []

abbrev pub levels_functorial : FunctorialTree → List ℕ
levels_functorial a = 0 ∷ levels_term a.term ++ 0 ∷ levels_adjectives a.adjectives ++ maybe levels_for_type a.for_type ++ 0 ∷ []

abbrev pub levels_reduce : ReduceTree → List ℕ
levels_reduce a = 0 ∷ levels_term a.first ++ 0 ∷ levels_term a.second ++ 0 ∷ []

abbrev pub levels_identify : IdentifyTree → List ℕ
levels_identify a = 0 ∷ levels_term a.first ++ 0 ∷ levels_term a.second ++ 0 ∷ []

abbrev pub levels_cluster : ClusterTree → List ℕ
levels_cluster (cluster_tree.Existential cluster) = levels_existential cluster
levels_cluster (cluster_tree.Conditional cluster) = levels_conditional cluster
levels_cluster (cluster_tree.Functorial cluster) = levels_functorial cluster
levels_cluster (cluster_tree.Reduce cluster) = levels_reduce cluster
levels_cluster (cluster_tree.Identify cluster) = levels_identify cluster
