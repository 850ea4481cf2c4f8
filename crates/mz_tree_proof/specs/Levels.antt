-- How many constructs are open at each token of what reasonings are made of. A bracket is open from its token on up to the
-- token before the one that closes it; what is open within expressions counts as there.
use Rattle.std.specs.Prelude.{ℕ, suc, List, [], ◌∷◌, ◌++◌, map}
use Rattle.std.specs.List.{flat_map}
use Rattle.mz_tree.specs.Spelled.{maybe}
use Rattle.mz_tree.specs.Levels.{levels_if, levels_term, levels_type, levels_declarations, levels_formula}
use Rattle.mz_tree.specs.Lists.{levels_separated}
use Rattle.mz_tree_proof.specs.declared.references.LabelTree.{LabelTree}
use Rattle.mz_tree_proof.specs.declared.propositions.PropositionTree.{PropositionTree}
use Rattle.mz_tree_proof.specs.declared.propositions.AndPropositionTree.{AndPropositionTree}
use Rattle.mz_tree_proof.specs.declared.propositions.PropositionsTree.{PropositionsTree}
use Rattle.mz_tree_proof.specs.declared.propositions.HypothesesTree.{HypothesesTree}
use Rattle.mz_tree_proof.specs.declared.propositions.HypothesesTree.TheVariants as hypotheses_tree
use Rattle.mz_tree_proof.specs.declared.propositions.SuchTree.{SuchTree}
use Rattle.mz_tree_proof.specs.declared.references.NumberTree.{NumberTree}
use Rattle.mz_tree_proof.specs.declared.references.NumberTree.TheVariants as number_tree
use Rattle.mz_tree_proof.specs.declared.references.ReferenceTree.{ReferenceTree}
use Rattle.mz_tree_proof.specs.declared.references.ReferenceTree.TheVariants as reference_tree
use Rattle.mz_tree_proof.specs.declared.references.SchemeReferenceTree.{SchemeReferenceTree}
use Rattle.mz_tree_proof.specs.declared.references.SchemeReferenceTree.TheVariants as scheme_reference_tree
use Rattle.mz_tree_proof.specs.declared.references.PremisesTree.{PremisesTree}
use Rattle.mz_tree_proof.specs.declared.references.SimpleTree.{SimpleTree}
use Rattle.mz_tree_proof.specs.declared.references.SimpleTree.TheVariants as simple_tree
use Rattle.mz_tree_proof.specs.declared.equality_step.EqualityStepTree.{EqualityStepTree}
use Rattle.mz_tree_proof.specs.declared.introduction.NamedTermTree.{NamedTermTree}
use Rattle.mz_tree_proof.specs.declared.introduction.RetypedTree.{RetypedTree}
use Rattle.mz_tree_proof.specs.declared.introduction.RetypedTree.TheVariants as retyped_tree
use Rattle.mz_tree_proof.specs.declared.skeleton.TakenTree.{TakenTree}
use Rattle.mz_tree_proof.specs.declared.skeleton.TakenTree.TheVariants as taken_tree
use Rattle.mz_tree_proof.specs.declared.introduction.ConsiderTree.{ConsiderTree}
use Rattle.mz_tree_proof.specs.declared.introduction.ReconsiderTree.{ReconsiderTree}
use Rattle.mz_tree_proof.specs.declared.introduction.SetTree.{SetTree}
use Rattle.mz_tree_proof.specs.declared.introduction.DeffuncTree.{DeffuncTree}
use Rattle.mz_tree_proof.specs.declared.introduction.DefpredTree.{DefpredTree}
use Rattle.mz_tree_proof.specs.declared.introduction.IntroductionTree.{IntroductionTree}
use Rattle.mz_tree_proof.specs.declared.introduction.IntroductionTree.TheVariants as introduction_tree
use Rattle.mz_tree_proof.specs.declared.skeleton.LetTree.{LetTree}
use Rattle.mz_tree_proof.specs.declared.skeleton.AssumeTree.{AssumeTree}
use Rattle.mz_tree_proof.specs.declared.skeleton.GivenTree.{GivenTree}
use Rattle.mz_tree_proof.specs.declared.skeleton.TakeTree.{TakeTree}
use Rattle.mz_tree_proof.specs.declared.skeleton.SkeletonTree.{SkeletonTree}
use Rattle.mz_tree_proof.specs.declared.skeleton.SkeletonTree.TheVariants as skeleton_tree
use Rattle.mz_tree_proof.specs.declared.skeleton.SplitTree.{SplitTree}

abbrev pub levels_label : LabelTree → List ℕ
levels_label a = 0 ∷ 0 ∷ []

abbrev pub levels_proposition : PropositionTree → List ℕ
levels_proposition a = maybe levels_label a.label ++ levels_formula a.formula

abbrev pub levels_and_proposition : AndPropositionTree → List ℕ
levels_and_proposition a = 0 ∷ levels_proposition a.proposition

abbrev pub levels_propositions : PropositionsTree → List ℕ
levels_propositions a = levels_proposition a.first ++ flat_map levels_and_proposition a.more

abbrev pub levels_hypotheses : HypothesesTree → List ℕ
levels_hypotheses (hypotheses_tree.One proposition) = levels_proposition proposition
levels_hypotheses (hypotheses_tree.That that_ propositions) = 0 ∷ levels_propositions propositions

abbrev pub levels_such : SuchTree → List ℕ
levels_such a = 0 ∷ 0 ∷ levels_propositions a.propositions

abbrev pub levels_number : NumberTree → List ℕ
levels_number (number_tree.Theorem number) = 0 ∷ []
levels_number (number_tree.Definition def number) = 0 ∷ 0 ∷ []

abbrev pub levels_reference : ReferenceTree → List ℕ
levels_reference (reference_tree.Label name) = 0 ∷ []
levels_reference (reference_tree.Numbered article colon numbers) = 0 ∷ 0 ∷ levels_separated levels_number numbers

abbrev pub levels_scheme_reference : SchemeReferenceTree → List ℕ
levels_scheme_reference (scheme_reference_tree.Label name) = 0 ∷ []
levels_scheme_reference (scheme_reference_tree.Numbered article colon sch number) = 0 ∷ 0 ∷ 0 ∷ 0 ∷ []

abbrev pub levels_premises : PremisesTree → List ℕ
levels_premises a = 1 ∷ map suc (levels_separated levels_reference a.references) ++ 0 ∷ []

abbrev pub levels_simple : SimpleTree → List ℕ
levels_simple simple_tree.Nothing = []
levels_simple (simple_tree.By by references) = 0 ∷ levels_separated levels_reference references
levels_simple (simple_tree.From from_ scheme premises) = 0 ∷ levels_scheme_reference scheme ++ maybe levels_premises premises

abbrev pub levels_equality_step : EqualityStepTree → List ℕ
levels_equality_step a = 0 ∷ levels_term a.term ++ levels_simple a.simple

abbrev pub levels_named_term : NamedTermTree → List ℕ
levels_named_term a = 0 ∷ 0 ∷ levels_term a.term

abbrev pub levels_retyped : RetypedTree → List ℕ
levels_retyped (retyped_tree.Itself name) = 0 ∷ []
levels_retyped (retyped_tree.Named named) = levels_named_term named

abbrev pub levels_taken : TakenTree → List ℕ
levels_taken (taken_tree.Plain term) = levels_term term
levels_taken (taken_tree.Named named) = levels_named_term named

abbrev pub levels_consider : ConsiderTree → List ℕ
levels_consider a = levels_if a.then ++ 0 ∷ levels_declarations a.declarations ++ levels_such a.such ++ levels_simple a.simple ++ 0 ∷ []

abbrev pub levels_reconsider : ReconsiderTree → List ℕ
levels_reconsider a = levels_if a.then ++ 0 ∷ levels_separated levels_retyped a.retyped ++ 0 ∷ levels_type a.ty ++ levels_simple a.simple ++ 0 ∷ []

abbrev pub levels_set : SetTree → List ℕ
levels_set a = 0 ∷ levels_separated levels_named_term a.named ++ 0 ∷ []

abbrev pub levels_deffunc : DeffuncTree → List ℕ
levels_deffunc a = 0 ∷ 0 ∷ 1 ∷ map suc (maybe (levels_separated levels_type) a.types) ++ 0 ∷ 0 ∷ levels_term a.term ++ 0 ∷ []

abbrev pub levels_defpred : DefpredTree → List ℕ
levels_defpred a = 0 ∷ 0 ∷ 1 ∷ map suc (maybe (levels_separated levels_type) a.types) ++ 0 ∷ 0 ∷ levels_formula a.formula ++ 0 ∷ []

abbrev pub levels_introduction : IntroductionTree → List ℕ
levels_introduction (introduction_tree.Consider tree) = levels_consider tree
levels_introduction (introduction_tree.Reconsider tree) = levels_reconsider tree
levels_introduction (introduction_tree.Set tree) = levels_set tree
levels_introduction (introduction_tree.Deffunc tree) = levels_deffunc tree
levels_introduction (introduction_tree.Defpred tree) = levels_defpred tree

abbrev pub levels_let : LetTree → List ℕ
levels_let a = 0 ∷ levels_declarations a.declarations ++ maybe levels_such a.such ++ 0 ∷ []

abbrev pub levels_assume : AssumeTree → List ℕ
levels_assume a = 0 ∷ levels_hypotheses a.hypotheses ++ 0 ∷ []

abbrev pub levels_given : GivenTree → List ℕ
levels_given a = 0 ∷ levels_declarations a.declarations ++ levels_such a.such ++ 0 ∷ []

abbrev pub levels_take : TakeTree → List ℕ
levels_take a = 0 ∷ levels_separated levels_taken a.taken ++ 0 ∷ []

abbrev pub levels_skeleton : SkeletonTree → List ℕ
levels_skeleton (skeleton_tree.Let tree) = levels_let tree
levels_skeleton (skeleton_tree.Assume tree) = levels_assume tree
levels_skeleton (skeleton_tree.Given tree) = levels_given tree
levels_skeleton (skeleton_tree.Take tree) = levels_take tree

abbrev pub levels_split : SplitTree → List ℕ
levels_split a = levels_if a.then ++ 0 ∷ 0 ∷ levels_simple a.simple ++ 0 ∷ []
