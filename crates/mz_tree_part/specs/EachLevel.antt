-- There is one level for each token of parts of items.
use Rattle.std.specs.Prelude.{◌≡◌, suc, [], ◌∷◌, ◌++◌, map, length, refl, codes}
use Rattle.std.specs.List.{flat_map}
use Rattle.std.proofs.Common.{ap}
use Rattle.mz_forms.specs.Form.{each_append}
use Rattle.mz_tree.specs.Spelled.{reserved, special, reserved_if, maybe}
use Rattle.mz_tree.specs.Levels.{levels_if, levels_term, levels_type, levels_adjectives, levels_declarations, each_if, each_maybe, each_flat, each_term, each_type, each_adjectives, each_declarations, nested_each}
use Rattle.mz_tree.specs.Spell.{spell_term, spell_type, spell_adjectives, spell_declarations}
use Rattle.mz_tree.specs.Lists.{spell_separated, levels_separated, each_separated}
use Rattle.mz_tree_part.specs.Keywords.{directive_word, notation_word}
use Rattle.mz_tree_heading.specs.Spell.{spell_identifier, spell_pattern}
use Rattle.mz_tree_part.specs.Spell.{spell_directive, spell_segment, spell_reserve, spell_parameter, spell_block_let, spell_notation_part, spell_notation, spell_for_type, spell_existential, spell_conditional, spell_functorial, spell_reduce, spell_identify, spell_cluster}
use Rattle.mz_tree_heading.specs.Levels.{levels_identifier, levels_pattern}
use Rattle.mz_tree_part.specs.Levels.{levels_directive, levels_segment, levels_reserve, levels_parameter, levels_block_let, levels_notation_part, levels_notation, levels_for_type, levels_existential, levels_conditional, levels_functorial, levels_reduce, levels_identify, levels_cluster}
use Rattle.mz_tree_part.specs.declared.directive.DirectiveTree.{DirectiveTree}
use Rattle.mz_tree_part.specs.declared.reserve.SegmentTree.{SegmentTree}
use Rattle.mz_tree_part.specs.declared.reserve.ReserveTree.{ReserveTree}
use Rattle.mz_tree_part.specs.declared.parameter.ParameterTree.{ParameterTree}
use Rattle.mz_tree_part.specs.declared.parameter.ParameterTree.TheVariants as parameter_tree
use Rattle.mz_tree_part.specs.declared.notation.BlockLetTree.{BlockLetTree}
use Rattle.mz_tree_part.specs.declared.notation.NotationPartTree.{NotationPartTree}
use Rattle.mz_tree_part.specs.declared.notation.NotationPartTree.TheVariants as notation_part_tree
use Rattle.mz_tree_part.specs.declared.notation.NotationTree.{NotationTree}
use Rattle.mz_tree_part.specs.declared.cluster.ForTypeTree.{ForTypeTree}
use Rattle.mz_tree_part.specs.declared.cluster.ExistentialTree.{ExistentialTree}
use Rattle.mz_tree_part.specs.declared.cluster.ConditionalTree.{ConditionalTree}
use Rattle.mz_tree_part.specs.declared.cluster.FunctorialTree.{FunctorialTree}
use Rattle.mz_tree_part.specs.declared.cluster.ReduceTree.{ReduceTree}
use Rattle.mz_tree_part.specs.declared.cluster.IdentifyTree.{IdentifyTree}
use Rattle.mz_tree_part.specs.declared.cluster.ClusterTree.{ClusterTree}
use Rattle.mz_tree_part.specs.declared.cluster.ClusterTree.TheVariants as cluster_tree
use Rattle.mz_tree_heading.specs.EachLevel.{each_identifier, each_pattern}

pub each_directive : (t : DirectiveTree) → length (levels_directive t) ≡ length (spell_directive t)
each_directive a = each_append (0 ∷ levels_separated levels_identifier a.names) (0 ∷ []) (reserved a.place (directive_word a.word) ∷ spell_separated spell_identifier a.names) (special a.semicolon (codes ";") ∷ []) (ap suc (each_separated levels_identifier spell_identifier each_identifier a.names)) refl

pub each_segment : (t : SegmentTree) → length (levels_segment t) ≡ length (spell_segment t)
each_segment a = each_append (levels_separated levels_identifier a.identifiers) (0 ∷ levels_type a.ty) (spell_separated spell_identifier a.identifiers) (reserved a.for_ (codes "for") ∷ spell_type a.ty) (each_separated levels_identifier spell_identifier each_identifier a.identifiers) (ap suc (each_type a.ty))

pub each_reserve : (t : ReserveTree) → length (levels_reserve t) ≡ length (spell_reserve t)
each_reserve a = each_append (0 ∷ levels_separated levels_segment a.segments) (0 ∷ []) (reserved a.reserve (codes "reserve") ∷ spell_separated spell_segment a.segments) (special a.semicolon (codes ";") ∷ []) (ap suc (each_separated levels_segment spell_segment each_segment a.segments)) refl

pub each_parameter : (t : ParameterTree) → length (levels_parameter t) ≡ length (spell_parameter t)
each_parameter (parameter_tree.Functor identifiers left types right arrow ty) = each_append (levels_separated levels_identifier identifiers ++ 1 ∷ map suc (maybe (levels_separated levels_type) types)) (0 ∷ 0 ∷ levels_type ty) (spell_separated spell_identifier identifiers ++ special left (codes "(") ∷ maybe (spell_separated spell_type) types) (special right (codes ")") ∷ special arrow (codes "->") ∷ spell_type ty) (each_append (levels_separated levels_identifier identifiers) (1 ∷ map suc (maybe (levels_separated levels_type) types)) (spell_separated spell_identifier identifiers) (special left (codes "(") ∷ maybe (spell_separated spell_type) types) (each_separated levels_identifier spell_identifier each_identifier identifiers) (ap suc (nested_each (maybe (levels_separated levels_type) types) (maybe (spell_separated spell_type) types) (each_maybe (levels_separated levels_type) (spell_separated spell_type) (each_separated levels_type spell_type each_type) types)))) (ap suc (ap suc (each_type ty)))
each_parameter (parameter_tree.Predicate identifiers left types right) = each_append (levels_separated levels_identifier identifiers ++ 1 ∷ map suc (maybe (levels_separated levels_type) types)) (0 ∷ []) (spell_separated spell_identifier identifiers ++ special left (codes "[") ∷ maybe (spell_separated spell_type) types) (special right (codes "]") ∷ []) (each_append (levels_separated levels_identifier identifiers) (1 ∷ map suc (maybe (levels_separated levels_type) types)) (spell_separated spell_identifier identifiers) (special left (codes "[") ∷ maybe (spell_separated spell_type) types) (each_separated levels_identifier spell_identifier each_identifier identifiers) (ap suc (nested_each (maybe (levels_separated levels_type) types) (maybe (spell_separated spell_type) types) (each_maybe (levels_separated levels_type) (spell_separated spell_type) (each_separated levels_type spell_type each_type) types)))) refl

pub each_block_let : (t : BlockLetTree) → length (levels_block_let t) ≡ length (spell_block_let t)
each_block_let a = each_append (0 ∷ levels_declarations a.declarations) (0 ∷ []) (reserved a.let_ (codes "let") ∷ spell_declarations a.declarations) (special a.semicolon (codes ";") ∷ []) (ap suc (each_declarations a.declarations)) refl

pub each_notation_part : (t : NotationPartTree) → length (levels_notation_part t) ≡ length (spell_notation_part t)
each_notation_part (notation_part_tree.Let loci) = each_block_let loci
each_notation_part (notation_part_tree.Notation place word first for_ second semicolon) = each_append (0 ∷ levels_pattern first ++ 0 ∷ levels_pattern second) (0 ∷ []) (reserved place (notation_word word) ∷ spell_pattern first ++ reserved for_ (codes "for") ∷ spell_pattern second) (special semicolon (codes ";") ∷ []) (each_append (0 ∷ levels_pattern first) (0 ∷ levels_pattern second) (reserved place (notation_word word) ∷ spell_pattern first) (reserved for_ (codes "for") ∷ spell_pattern second) (ap suc (each_pattern first)) (ap suc (each_pattern second))) refl

pub each_notation : (t : NotationTree) → length (levels_notation t) ≡ length (spell_notation t)
each_notation a = each_append (0 ∷ flat_map levels_notation_part a.parts) (0 ∷ 0 ∷ []) (reserved a.notation (codes "notation") ∷ flat_map spell_notation_part a.parts) (reserved a.end (codes "end") ∷ special a.semicolon (codes ";") ∷ []) (ap suc (each_flat levels_notation_part spell_notation_part each_notation_part a.parts)) refl

pub each_for_type : (t : ForTypeTree) → length (levels_for_type t) ≡ length (spell_for_type t)
each_for_type a = ap suc (each_type a.ty)

pub each_existential : (t : ExistentialTree) → length (levels_existential t) ≡ length (spell_existential t)
each_existential a = each_append (0 ∷ levels_adjectives a.adjectives ++ levels_if a.for_ ++ levels_type a.ty) (0 ∷ []) (reserved a.cluster (codes "cluster") ∷ spell_adjectives a.adjectives ++ reserved_if a.for_ (codes "for") ++ spell_type a.ty) (special a.semicolon (codes ";") ∷ []) (each_append (0 ∷ levels_adjectives a.adjectives ++ levels_if a.for_) (levels_type a.ty) (reserved a.cluster (codes "cluster") ∷ spell_adjectives a.adjectives ++ reserved_if a.for_ (codes "for")) (spell_type a.ty) (each_append (0 ∷ levels_adjectives a.adjectives) (levels_if a.for_) (reserved a.cluster (codes "cluster") ∷ spell_adjectives a.adjectives) (reserved_if a.for_ (codes "for")) (ap suc (each_adjectives a.adjectives)) (each_if a.for_ (codes "for"))) (each_type a.ty)) refl

pub each_conditional : (t : ConditionalTree) → length (levels_conditional t) ≡ length (spell_conditional t)
each_conditional a = each_append (0 ∷ maybe levels_adjectives a.premises ++ 0 ∷ levels_adjectives a.adjectives ++ levels_for_type a.for_type) (0 ∷ []) (reserved a.cluster (codes "cluster") ∷ maybe spell_adjectives a.premises ++ special a.arrow (codes "->") ∷ spell_adjectives a.adjectives ++ spell_for_type a.for_type) (special a.semicolon (codes ";") ∷ []) (each_append (0 ∷ maybe levels_adjectives a.premises ++ 0 ∷ levels_adjectives a.adjectives) (levels_for_type a.for_type) (reserved a.cluster (codes "cluster") ∷ maybe spell_adjectives a.premises ++ special a.arrow (codes "->") ∷ spell_adjectives a.adjectives) (spell_for_type a.for_type) (each_append (0 ∷ maybe levels_adjectives a.premises) (0 ∷ levels_adjectives a.adjectives) (reserved a.cluster (codes "cluster") ∷ maybe spell_adjectives a.premises) (special a.arrow (codes "->") ∷ spell_adjectives a.adjectives) (ap suc (each_maybe levels_adjectives spell_adjectives each_adjectives a.premises)) (ap suc (each_adjectives a.adjectives))) (each_for_type a.for_type)) refl

pub each_functorial : (t : FunctorialTree) → length (levels_functorial t) ≡ length (spell_functorial t)
each_functorial a = each_append (0 ∷ levels_term a.term ++ 0 ∷ levels_adjectives a.adjectives ++ maybe levels_for_type a.for_type) (0 ∷ []) (reserved a.cluster (codes "cluster") ∷ spell_term a.term ++ special a.arrow (codes "->") ∷ spell_adjectives a.adjectives ++ maybe spell_for_type a.for_type) (special a.semicolon (codes ";") ∷ []) (each_append (0 ∷ levels_term a.term ++ 0 ∷ levels_adjectives a.adjectives) (maybe levels_for_type a.for_type) (reserved a.cluster (codes "cluster") ∷ spell_term a.term ++ special a.arrow (codes "->") ∷ spell_adjectives a.adjectives) (maybe spell_for_type a.for_type) (each_append (0 ∷ levels_term a.term) (0 ∷ levels_adjectives a.adjectives) (reserved a.cluster (codes "cluster") ∷ spell_term a.term) (special a.arrow (codes "->") ∷ spell_adjectives a.adjectives) (ap suc (each_term a.term)) (ap suc (each_adjectives a.adjectives))) (each_maybe levels_for_type spell_for_type each_for_type a.for_type)) refl

pub each_reduce : (t : ReduceTree) → length (levels_reduce t) ≡ length (spell_reduce t)
each_reduce a = each_append (0 ∷ levels_term a.first ++ 0 ∷ levels_term a.second) (0 ∷ []) (reserved a.reduce (codes "reduce") ∷ spell_term a.first ++ reserved a.to (codes "to") ∷ spell_term a.second) (special a.semicolon (codes ";") ∷ []) (each_append (0 ∷ levels_term a.first) (0 ∷ levels_term a.second) (reserved a.reduce (codes "reduce") ∷ spell_term a.first) (reserved a.to (codes "to") ∷ spell_term a.second) (ap suc (each_term a.first)) (ap suc (each_term a.second))) refl

pub each_identify : (t : IdentifyTree) → length (levels_identify t) ≡ length (spell_identify t)
each_identify a = each_append (0 ∷ levels_term a.first ++ 0 ∷ levels_term a.second) (0 ∷ []) (reserved a.identify (codes "identify") ∷ spell_term a.first ++ reserved a.with (codes "with") ∷ spell_term a.second) (special a.semicolon (codes ";") ∷ []) (each_append (0 ∷ levels_term a.first) (0 ∷ levels_term a.second) (reserved a.identify (codes "identify") ∷ spell_term a.first) (reserved a.with (codes "with") ∷ spell_term a.second) (ap suc (each_term a.first)) (ap suc (each_term a.second))) refl

pub each_cluster : (t : ClusterTree) → length (levels_cluster t) ≡ length (spell_cluster t)
each_cluster (cluster_tree.Existential cluster) = each_existential cluster
each_cluster (cluster_tree.Conditional cluster) = each_conditional cluster
each_cluster (cluster_tree.Functorial cluster) = each_functorial cluster
each_cluster (cluster_tree.Reduce cluster) = each_reduce cluster
each_cluster (cluster_tree.Identify cluster) = each_identify cluster
