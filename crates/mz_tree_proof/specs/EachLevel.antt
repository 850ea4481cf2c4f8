-- There is one level for each token of what reasonings are made of.
use Rattle.std.specs.Prelude.{◌≡◌, suc, List, [], ◌∷◌, ◌++◌, map, length, refl, codes}
use Rattle.std.specs.List.{flat_map}
use Rattle.std.proofs.Common.{ap}
use Rattle.mz_forms.specs.Form.{each_append}
use Rattle.mz_tree.specs.Spelled.{reserved, special, identifier, numeral, equals_sign, reserved_if, maybe}
use Rattle.mz_tree.specs.Spell.{spell_term, spell_type, spell_declarations, spell_formula}
use Rattle.mz_tree.specs.Levels.{levels_if, levels_term, levels_type, levels_declarations, levels_formula, each_if, each_maybe, each_flat, nested_each, each_term, each_type, each_declarations, each_formula}
use Rattle.mz_tree.specs.Lists.{spell_separated, levels_separated, each_separated}
use Rattle.mz_tree_proof.specs.Spell.{spell_label, spell_proposition, spell_and_proposition, spell_propositions, spell_hypotheses, spell_such, spell_number, spell_reference, spell_scheme_reference, spell_premises, spell_simple, spell_equality_step, spell_named_term, spell_retyped, spell_taken, spell_consider, spell_reconsider, spell_set, spell_deffunc, spell_defpred, spell_introduction, spell_let, spell_assume, spell_given, spell_take, spell_skeleton, spell_split}
use Rattle.mz_tree_proof.specs.Levels.{levels_label, levels_proposition, levels_and_proposition, levels_propositions, levels_hypotheses, levels_such, levels_number, levels_reference, levels_scheme_reference, levels_premises, levels_simple, levels_equality_step, levels_named_term, levels_retyped, levels_taken, levels_consider, levels_reconsider, levels_set, levels_deffunc, levels_defpred, levels_introduction, levels_let, levels_assume, levels_given, levels_take, levels_skeleton, levels_split}
use Rattle.mz_tree_proof.specs.declared.references.LabelTree.{LabelTree}
use Rattle.mz_tree_proof.specs.declared.propositions.PropositionTree.{PropositionTree}
use Rattle.mz_tree_proof.specs.declared.propositions.AndPropositionTree.{AndPropositionTree}
use Rattle.mz_tree_proof.specs.declared.propositions.PropositionsTree.{PropositionsTree}
use Rattle.mz_tree_proof.specs.declared.propositions.HypothesesTree.{HypothesesTree}
use Rattle.mz_tree_proof.specs.declared.propositions.HypothesesTree.TheVariants as hypotheses_tree
use Rattle.mz_tree_proof.specs.declared.propositions.SuchTree.{SuchTree}
use Rattle.mz_tree_proof.specs.declared.references.NumberTree.{NumberTree}
use Rattle.mz_tree_proof.specs.declared.references.NumberTree.TheVariants as number_tree
use Rattle.mz_tree_proof.specs.declared.references.ReferenceTree.{ReferenceTree}
use Rattle.mz_tree_proof.specs.declared.references.ReferenceTree.TheVariants as reference_tree
use Rattle.mz_tree_proof.specs.declared.references.SchemeReferenceTree.{SchemeReferenceTree}
use Rattle.mz_tree_proof.specs.declared.references.SchemeReferenceTree.TheVariants as scheme_reference_tree
use Rattle.mz_tree_proof.specs.declared.references.PremisesTree.{PremisesTree}
use Rattle.mz_tree_proof.specs.declared.references.SimpleTree.{SimpleTree}
use Rattle.mz_tree_proof.specs.declared.references.SimpleTree.TheVariants as simple_tree
use Rattle.mz_tree_proof.specs.declared.equality_step.EqualityStepTree.{EqualityStepTree}
use Rattle.mz_tree_proof.specs.declared.introduction.NamedTermTree.{NamedTermTree}
use Rattle.mz_tree_proof.specs.declared.introduction.RetypedTree.{RetypedTree}
use Rattle.mz_tree_proof.specs.declared.introduction.RetypedTree.TheVariants as retyped_tree
use Rattle.mz_tree_proof.specs.declared.skeleton.TakenTree.{TakenTree}
use Rattle.mz_tree_proof.specs.declared.skeleton.TakenTree.TheVariants as taken_tree
use Rattle.mz_tree_proof.specs.declared.introduction.ConsiderTree.{ConsiderTree}
use Rattle.mz_tree_proof.specs.declared.introduction.ReconsiderTree.{ReconsiderTree}
use Rattle.mz_tree_proof.specs.declared.introduction.SetTree.{SetTree}
use Rattle.mz_tree_proof.specs.declared.introduction.DeffuncTree.{DeffuncTree}
use Rattle.mz_tree_proof.specs.declared.introduction.DefpredTree.{DefpredTree}
use Rattle.mz_tree_proof.specs.declared.introduction.IntroductionTree.{IntroductionTree}
use Rattle.mz_tree_proof.specs.declared.introduction.IntroductionTree.TheVariants as introduction_tree
use Rattle.mz_tree_proof.specs.declared.skeleton.LetTree.{LetTree}
use Rattle.mz_tree_proof.specs.declared.skeleton.AssumeTree.{AssumeTree}
use Rattle.mz_tree_proof.specs.declared.skeleton.GivenTree.{GivenTree}
use Rattle.mz_tree_proof.specs.declared.skeleton.TakeTree.{TakeTree}
use Rattle.mz_tree_proof.specs.declared.skeleton.SkeletonTree.{SkeletonTree}
use Rattle.mz_tree_proof.specs.declared.skeleton.SkeletonTree.TheVariants as skeleton_tree
use Rattle.mz_tree_proof.specs.declared.skeleton.SplitTree.{SplitTree}

pub each_label : (t : LabelTree) → length (levels_label t) ≡ length (spell_label t)
each_label a = refl

pub each_proposition : (t : PropositionTree) → length (levels_proposition t) ≡ length (spell_proposition t)
each_proposition a = each_append (maybe levels_label a.label) (levels_formula a.formula) (maybe spell_label a.label) (spell_formula a.formula) (each_maybe levels_label spell_label each_label a.label) (each_formula a.formula)

pub each_and_proposition : (t : AndPropositionTree) → length (levels_and_proposition t) ≡ length (spell_and_proposition t)
each_and_proposition a = ap suc (each_proposition a.proposition)

pub each_propositions : (t : PropositionsTree) → length (levels_propositions t) ≡ length (spell_propositions t)
each_propositions a = each_append (levels_proposition a.first) (flat_map levels_and_proposition a.more) (spell_proposition a.first) (flat_map spell_and_proposition a.more) (each_proposition a.first) (each_flat levels_and_proposition spell_and_proposition each_and_proposition a.more)

pub each_hypotheses : (t : HypothesesTree) → length (levels_hypotheses t) ≡ length (spell_hypotheses t)
each_hypotheses (hypotheses_tree.One proposition) = each_proposition proposition
each_hypotheses (hypotheses_tree.That that_ propositions) = ap suc (each_propositions propositions)

pub each_such : (t : SuchTree) → length (levels_such t) ≡ length (spell_such t)
each_such a = ap suc (ap suc (each_propositions a.propositions))

pub each_number : (t : NumberTree) → length (levels_number t) ≡ length (spell_number t)
each_number (number_tree.Theorem number) = refl
each_number (number_tree.Definition def number) = refl

pub each_reference : (t : ReferenceTree) → length (levels_reference t) ≡ length (spell_reference t)
each_reference (reference_tree.Label name) = refl
each_reference (reference_tree.Numbered article colon numbers) = ap suc (ap suc (each_separated levels_number spell_number each_number numbers))

pub each_scheme_reference : (t : SchemeReferenceTree) → length (levels_scheme_reference t) ≡ length (spell_scheme_reference t)
each_scheme_reference (scheme_reference_tree.Label name) = refl
each_scheme_reference (scheme_reference_tree.Numbered article colon sch number) = refl

pub each_premises : (t : PremisesTree) → length (levels_premises t) ≡ length (spell_premises t)
each_premises a = each_append (1 ∷ map suc (levels_separated levels_reference a.references)) (0 ∷ []) (special a.left (codes "(") ∷ spell_separated spell_reference a.references) (special a.right (codes ")") ∷ []) (ap suc (nested_each (levels_separated levels_reference a.references) (spell_separated spell_reference a.references) (each_separated levels_reference spell_reference each_reference a.references))) refl

pub each_simple : (t : SimpleTree) → length (levels_simple t) ≡ length (spell_simple t)
each_simple simple_tree.Nothing = refl
each_simple (simple_tree.By by references) = ap suc (each_separated levels_reference spell_reference each_reference references)
each_simple (simple_tree.From from_ scheme premises) = each_append (0 ∷ levels_scheme_reference scheme) (maybe levels_premises premises) (reserved from_ (codes "from") ∷ spell_scheme_reference scheme) (maybe spell_premises premises) (ap suc (each_scheme_reference scheme)) (each_maybe levels_premises spell_premises each_premises premises)

pub each_equality_step : (t : EqualityStepTree) → length (levels_equality_step t) ≡ length (spell_equality_step t)
each_equality_step a = each_append (0 ∷ levels_term a.term) (levels_simple a.simple) (special a.sign (codes ".=") ∷ spell_term a.term) (spell_simple a.simple) (ap suc (each_term a.term)) (each_simple a.simple)

pub each_named_term : (t : NamedTermTree) → length (levels_named_term t) ≡ length (spell_named_term t)
each_named_term a = ap suc (ap suc (each_term a.term))

pub each_retyped : (t : RetypedTree) → length (levels_retyped t) ≡ length (spell_retyped t)
each_retyped (retyped_tree.Itself name) = refl
each_retyped (retyped_tree.Named named) = each_named_term named

pub each_taken : (t : TakenTree) → length (levels_taken t) ≡ length (spell_taken t)
each_taken (taken_tree.Plain term) = each_term term
each_taken (taken_tree.Named named) = each_named_term named

pub each_consider : (t : ConsiderTree) → length (levels_consider t) ≡ length (spell_consider t)
each_consider a = each_append (levels_if a.then ++ 0 ∷ levels_declarations a.declarations ++ levels_such a.such ++ levels_simple a.simple) (0 ∷ []) (reserved_if a.then (codes "then") ++ reserved a.consider (codes "consider") ∷ spell_declarations a.declarations ++ spell_such a.such ++ spell_simple a.simple) (special a.semicolon (codes ";") ∷ []) (each_append (levels_if a.then ++ 0 ∷ levels_declarations a.declarations ++ levels_such a.such) (levels_simple a.simple) (reserved_if a.then (codes "then") ++ reserved a.consider (codes "consider") ∷ spell_declarations a.declarations ++ spell_such a.such) (spell_simple a.simple) (each_append (levels_if a.then ++ 0 ∷ levels_declarations a.declarations) (levels_such a.such) (reserved_if a.then (codes "then") ++ reserved a.consider (codes "consider") ∷ spell_declarations a.declarations) (spell_such a.such) (each_append (levels_if a.then) (0 ∷ levels_declarations a.declarations) (reserved_if a.then (codes "then")) (reserved a.consider (codes "consider") ∷ spell_declarations a.declarations) (each_if a.then (codes "then")) (ap suc (each_declarations a.declarations))) (each_such a.such)) (each_simple a.simple)) refl

pub each_reconsider : (t : ReconsiderTree) → length (levels_reconsider t) ≡ length (spell_reconsider t)
each_reconsider a = each_append (levels_if a.then ++ 0 ∷ levels_separated levels_retyped a.retyped ++ 0 ∷ levels_type a.ty ++ levels_simple a.simple) (0 ∷ []) (reserved_if a.then (codes "then") ++ reserved a.reconsider (codes "reconsider") ∷ spell_separated spell_retyped a.retyped ++ reserved a.as_ (codes "as") ∷ spell_type a.ty ++ spell_simple a.simple) (special a.semicolon (codes ";") ∷ []) (each_append (levels_if a.then ++ 0 ∷ levels_separated levels_retyped a.retyped ++ 0 ∷ levels_type a.ty) (levels_simple a.simple) (reserved_if a.then (codes "then") ++ reserved a.reconsider (codes "reconsider") ∷ spell_separated spell_retyped a.retyped ++ reserved a.as_ (codes "as") ∷ spell_type a.ty) (spell_simple a.simple) (each_append (levels_if a.then ++ 0 ∷ levels_separated levels_retyped a.retyped) (0 ∷ levels_type a.ty) (reserved_if a.then (codes "then") ++ reserved a.reconsider (codes "reconsider") ∷ spell_separated spell_retyped a.retyped) (reserved a.as_ (codes "as") ∷ spell_type a.ty) (each_append (levels_if a.then) (0 ∷ levels_separated levels_retyped a.retyped) (reserved_if a.then (codes "then")) (reserved a.reconsider (codes "reconsider") ∷ spell_separated spell_retyped a.retyped) (each_if a.then (codes "then")) (ap suc (each_separated levels_retyped spell_retyped each_retyped a.retyped))) (ap suc (each_type a.ty))) (each_simple a.simple)) refl

pub each_set : (t : SetTree) → length (levels_set t) ≡ length (spell_set t)
each_set a = each_append (0 ∷ levels_separated levels_named_term a.named) (0 ∷ []) (reserved a.set (codes "set") ∷ spell_separated spell_named_term a.named) (special a.semicolon (codes ";") ∷ []) (ap suc (each_separated levels_named_term spell_named_term each_named_term a.named)) refl

pub each_deffunc : (t : DeffuncTree) → length (levels_deffunc t) ≡ length (spell_deffunc t)
each_deffunc a = each_append (0 ∷ 0 ∷ 1 ∷ map suc (maybe (levels_separated levels_type) a.types) ++ 0 ∷ 0 ∷ levels_term a.term) (0 ∷ []) (reserved a.deffunc (codes "deffunc") ∷ identifier a.name ∷ special a.left (codes "(") ∷ maybe (spell_separated spell_type) a.types ++ special a.right (codes ")") ∷ equals_sign a.equals ∷ spell_term a.term) (special a.semicolon (codes ";") ∷ []) (each_append (0 ∷ 0 ∷ 1 ∷ map suc (maybe (levels_separated levels_type) a.types)) (0 ∷ 0 ∷ levels_term a.term) (reserved a.deffunc (codes "deffunc") ∷ identifier a.name ∷ special a.left (codes "(") ∷ maybe (spell_separated spell_type) a.types) (special a.right (codes ")") ∷ equals_sign a.equals ∷ spell_term a.term) (ap suc (ap suc (ap suc (nested_each (maybe (levels_separated levels_type) a.types) (maybe (spell_separated spell_type) a.types) (each_maybe (levels_separated levels_type) (spell_separated spell_type) (each_separated levels_type spell_type each_type) a.types))))) (ap suc (ap suc (each_term a.term)))) refl

pub each_defpred : (t : DefpredTree) → length (levels_defpred t) ≡ length (spell_defpred t)
each_defpred a = each_append (0 ∷ 0 ∷ 1 ∷ map suc (maybe (levels_separated levels_type) a.types) ++ 0 ∷ 0 ∷ levels_formula a.formula) (0 ∷ []) (reserved a.defpred (codes "defpred") ∷ identifier a.name ∷ special a.left (codes "[") ∷ maybe (spell_separated spell_type) a.types ++ special a.right (codes "]") ∷ reserved a.means (codes "means") ∷ spell_formula a.formula) (special a.semicolon (codes ";") ∷ []) (each_append (0 ∷ 0 ∷ 1 ∷ map suc (maybe (levels_separated levels_type) a.types)) (0 ∷ 0 ∷ levels_formula a.formula) (reserved a.defpred (codes "defpred") ∷ identifier a.name ∷ special a.left (codes "[") ∷ maybe (spell_separated spell_type) a.types) (special a.right (codes "]") ∷ reserved a.means (codes "means") ∷ spell_formula a.formula) (ap suc (ap suc (ap suc (nested_each (maybe (levels_separated levels_type) a.types) (maybe (spell_separated spell_type) a.types) (each_maybe (levels_separated levels_type) (spell_separated spell_type) (each_separated levels_type spell_type each_type) a.types))))) (ap suc (ap suc (each_formula a.formula)))) refl

pub each_introduction : (t : IntroductionTree) → length (levels_introduction t) ≡ length (spell_introduction t)
each_introduction (introduction_tree.Consider tree) = each_consider tree
each_introduction (introduction_tree.Reconsider tree) = each_reconsider tree
each_introduction (introduction_tree.Set tree) = each_set tree
each_introduction (introduction_tree.Deffunc tree) = each_deffunc tree
each_introduction (introduction_tree.Defpred tree) = each_defpred tree

pub each_let : (t : LetTree) → length (levels_let t) ≡ length (spell_let t)
each_let a = each_append (0 ∷ levels_declarations a.declarations ++ maybe levels_such a.such) (0 ∷ []) (reserved a.let_ (codes "let") ∷ spell_declarations a.declarations ++ maybe spell_such a.such) (special a.semicolon (codes ";") ∷ []) (each_append (0 ∷ levels_declarations a.declarations) (maybe levels_such a.such) (reserved a.let_ (codes "let") ∷ spell_declarations a.declarations) (maybe spell_such a.such) (ap suc (each_declarations a.declarations)) (each_maybe levels_such spell_such each_such a.such)) refl

pub each_assume : (t : AssumeTree) → length (levels_assume t) ≡ length (spell_assume t)
each_assume a = each_append (0 ∷ levels_hypotheses a.hypotheses) (0 ∷ []) (reserved a.assume (codes "assume") ∷ spell_hypotheses a.hypotheses) (special a.semicolon (codes ";") ∷ []) (ap suc (each_hypotheses a.hypotheses)) refl

pub each_given : (t : GivenTree) → length (levels_given t) ≡ length (spell_given t)
each_given a = each_append (0 ∷ levels_declarations a.declarations ++ levels_such a.such) (0 ∷ []) (reserved a.given (codes "given") ∷ spell_declarations a.declarations ++ spell_such a.such) (special a.semicolon (codes ";") ∷ []) (each_append (0 ∷ levels_declarations a.declarations) (levels_such a.such) (reserved a.given (codes "given") ∷ spell_declarations a.declarations) (spell_such a.such) (ap suc (each_declarations a.declarations)) (each_such a.such)) refl

pub each_take : (t : TakeTree) → length (levels_take t) ≡ length (spell_take t)
each_take a = each_append (0 ∷ levels_separated levels_taken a.taken) (0 ∷ []) (reserved a.take (codes "take") ∷ spell_separated spell_taken a.taken) (special a.semicolon (codes ";") ∷ []) (ap suc (each_separated levels_taken spell_taken each_taken a.taken)) refl

pub each_skeleton : (t : SkeletonTree) → length (levels_skeleton t) ≡ length (spell_skeleton t)
each_skeleton (skeleton_tree.Let tree) = each_let tree
each_skeleton (skeleton_tree.Assume tree) = each_assume tree
each_skeleton (skeleton_tree.Given tree) = each_given tree
each_skeleton (skeleton_tree.Take tree) = each_take tree

pub each_split : (t : SplitTree) → length (levels_split t) ≡ length (spell_split t)
each_split a = each_append (levels_if a.then ++ 0 ∷ 0 ∷ levels_simple a.simple) (0 ∷ []) (reserved_if a.then (codes "then") ++ reserved a.per (codes "per") ∷ reserved a.cases (codes "cases") ∷ spell_simple a.simple) (special a.semicolon (codes ";") ∷ []) (each_append (levels_if a.then) (0 ∷ 0 ∷ levels_simple a.simple) (reserved_if a.then (codes "then")) (reserved a.per (codes "per") ∷ reserved a.cases (codes "cases") ∷ spell_simple a.simple) (each_if a.then (codes "then")) (ap suc (ap suc (each_simple a.simple)))) refl
