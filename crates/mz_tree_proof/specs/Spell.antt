-- The spelling of what reasonings are made of: one case for each alternative of the grammar.
use Rattle.std.specs.Prelude.{List, [], ◌∷◌, ◌++◌, codes}
use Rattle.std.specs.List.{flat_map}
use Rattle.mz_base.specs.declared.token.MarkedToken.{MarkedToken}
use Rattle.mz_tree.specs.Spelled.{reserved, special, identifier, numeral, equals_sign, reserved_if, maybe}
use Rattle.mz_tree.specs.Spell.{spell_term, spell_type, spell_declarations, spell_formula}
use Rattle.mz_tree.specs.Lists.{spell_separated}
use Rattle.mz_tree_proof.specs.declared.references.LabelTree.{LabelTree}
use Rattle.mz_tree_proof.specs.declared.propositions.PropositionTree.{PropositionTree}
use Rattle.mz_tree_proof.specs.declared.propositions.AndPropositionTree.{AndPropositionTree}
use Rattle.mz_tree_proof.specs.declared.propositions.PropositionsTree.{PropositionsTree}
use Rattle.mz_tree_proof.specs.declared.propositions.HypothesesTree.{HypothesesTree}
use Rattle.mz_tree_proof.specs.declared.propositions.HypothesesTree.TheVariants as hypotheses_tree
use Rattle.mz_tree_proof.specs.declared.propositions.SuchTree.{SuchTree}
use Rattle.mz_tree_proof.specs.declared.references.NumberTree.{NumberTree}
use Rattle.mz_tree_proof.specs.declared.references.NumberTree.TheVariants as number_tree
use Rattle.mz_tree_proof.specs.declared.references.ReferenceTree.{ReferenceTree}
use Rattle.mz_tree_proof.specs.declared.references.ReferenceTree.TheVariants as reference_tree
use Rattle.mz_tree_proof.specs.declared.references.SchemeReferenceTree.{SchemeReferenceTree}
use Rattle.mz_tree_proof.specs.declared.references.SchemeReferenceTree.TheVariants as scheme_reference_tree
use Rattle.mz_tree_proof.specs.declared.references.PremisesTree.{PremisesTree}
use Rattle.mz_tree_proof.specs.declared.references.SimpleTree.{SimpleTree}
use Rattle.mz_tree_proof.specs.declared.references.SimpleTree.TheVariants as simple_tree
use Rattle.mz_tree_proof.specs.declared.equality_step.EqualityStepTree.{EqualityStepTree}
use Rattle.mz_tree_proof.specs.declared.introduction.NamedTermTree.{NamedTermTree}
use Rattle.mz_tree_proof.specs.declared.introduction.RetypedTree.{RetypedTree}
use Rattle.mz_tree_proof.specs.declared.introduction.RetypedTree.TheVariants as retyped_tree
use Rattle.mz_tree_proof.specs.declared.skeleton.TakenTree.{TakenTree}
use Rattle.mz_tree_proof.specs.declared.skeleton.TakenTree.TheVariants as taken_tree
use Rattle.mz_tree_proof.specs.declared.introduction.ConsiderTree.{ConsiderTree}
use Rattle.mz_tree_proof.specs.declared.introduction.ReconsiderTree.{ReconsiderTree}
use Rattle.mz_tree_proof.specs.declared.introduction.SetTree.{SetTree}
use Rattle.mz_tree_proof.specs.declared.introduction.DeffuncTree.{DeffuncTree}
use Rattle.mz_tree_proof.specs.declared.introduction.DefpredTree.{DefpredTree}
use Rattle.mz_tree_proof.specs.declared.introduction.IntroductionTree.{IntroductionTree}
use Rattle.mz_tree_proof.specs.declared.introduction.IntroductionTree.TheVariants as introduction_tree
use Rattle.mz_tree_proof.specs.declared.skeleton.LetTree.{LetTree}
use Rattle.mz_tree_proof.specs.declared.skeleton.AssumeTree.{AssumeTree}
use Rattle.mz_tree_proof.specs.declared.skeleton.GivenTree.{GivenTree}
use Rattle.mz_tree_proof.specs.declared.skeleton.TakeTree.{TakeTree}
use Rattle.mz_tree_proof.specs.declared.skeleton.SkeletonTree.{SkeletonTree}
use Rattle.mz_tree_proof.specs.declared.skeleton.SkeletonTree.TheVariants as skeleton_tree
use Rattle.mz_tree_proof.specs.declared.skeleton.SplitTree.{SplitTree}

abbrev pub spell_label : LabelTree → List MarkedToken
spell_label a = identifier a.name ∷ special a.colon (codes ":") ∷ []

abbrev pub spell_proposition : PropositionTree → List MarkedToken
spell_proposition a = maybe spell_label a.label ++ spell_formula a.formula

abbrev pub spell_and_proposition : AndPropositionTree → List MarkedToken
spell_and_proposition a = reserved a.and (codes "and") ∷ spell_proposition a.proposition

abbrev pub spell_propositions : PropositionsTree → List MarkedToken
spell_propositions a = spell_proposition a.first ++ flat_map spell_and_proposition a.more

abbrev pub spell_hypotheses : HypothesesTree → List MarkedToken
spell_hypotheses (hypotheses_tree.One proposition) = spell_proposition proposition
spell_hypotheses (hypotheses_tree.That that_ propositions) = reserved that_ (codes "that") ∷ spell_propositions propositions

abbrev pub spell_such : SuchTree → List MarkedToken
spell_such a = reserved a.such (codes "such") ∷ reserved a.that (codes "that") ∷ spell_propositions a.propositions

abbrev pub spell_number : NumberTree → List MarkedToken
spell_number (number_tree.Theorem number) = numeral number ∷ []
spell_number (number_tree.Definition def number) = reserved def (codes "def") ∷ numeral number ∷ []

abbrev pub spell_reference : ReferenceTree → List MarkedToken
spell_reference (reference_tree.Label name) = identifier name ∷ []
spell_reference (reference_tree.Numbered article colon numbers) = identifier article ∷ special colon (codes ":") ∷ spell_separated spell_number numbers

abbrev pub spell_scheme_reference : SchemeReferenceTree → List MarkedToken
spell_scheme_reference (scheme_reference_tree.Label name) = identifier name ∷ []
spell_scheme_reference (scheme_reference_tree.Numbered article colon sch number) = identifier article ∷ special colon (codes ":") ∷ reserved sch (codes "sch") ∷ numeral number ∷ []

abbrev pub spell_premises : PremisesTree → List MarkedToken
spell_premises a = special a.left (codes "(") ∷ spell_separated spell_reference a.references ++ special a.right (codes ")") ∷ []

abbrev pub spell_simple : SimpleTree → List MarkedToken
spell_simple simple_tree.Nothing = []
spell_simple (simple_tree.By by references) = reserved by (codes "by") ∷ spell_separated spell_reference references
spell_simple (simple_tree.From from_ scheme premises) = reserved from_ (codes "from") ∷ spell_scheme_reference scheme ++ maybe spell_premises premises

abbrev pub spell_equality_step : EqualityStepTree → List MarkedToken
spell_equality_step a = special a.sign (codes ".=") ∷ spell_term a.term ++ spell_simple a.simple

abbrev pub spell_named_term : NamedTermTree → List MarkedToken
spell_named_term a = identifier a.name ∷ equals_sign a.equals ∷ spell_term a.term

abbrev pub spell_retyped : RetypedTree → List MarkedToken
spell_retyped (retyped_tree.Itself name) = identifier name ∷ []
spell_retyped (retyped_tree.Named named) = spell_named_term named

abbrev pub spell_taken : TakenTree → List MarkedToken
spell_taken (taken_tree.Plain term) = spell_term term
spell_taken (taken_tree.Named named) = spell_named_term named

abbrev pub spell_consider : ConsiderTree → List MarkedToken
spell_consider a = reserved_if a.then (codes "then") ++ reserved a.consider (codes "consider") ∷ spell_declarations a.declarations ++ spell_such a.such ++ spell_simple a.simple ++ special a.semicolon (codes ";") ∷ []

abbrev pub spell_reconsider : ReconsiderTree → List MarkedToken
spell_reconsider a = reserved_if a.then (codes "then") ++ reserved a.reconsider (codes "reconsider") ∷ spell_separated spell_retyped a.retyped ++ reserved a.as_ (codes "as") ∷ spell_type a.ty ++ spell_simple a.simple ++ special a.semicolon (codes ";") ∷ []

abbrev pub spell_set : SetTree → List MarkedToken
spell_set a = reserved a.set (codes "set") ∷ spell_separated spell_named_term a.named ++ special a.semicolon (codes ";") ∷ []

abbrev pub spell_deffunc : DeffuncTree → List MarkedToken
spell_deffunc a = reserved a.deffunc (codes "deffunc") ∷ identifier a.name ∷ special a.left (codes "(") ∷ maybe (spell_separated spell_type) a.types ++ special a.right (codes ")") ∷ equals_sign a.equals ∷ spell_term a.term ++ special a.semicolon (codes ";") ∷ []

abbrev pub spell_defpred : DefpredTree → List MarkedToken
spell_defpred a = reserved a.defpred (codes "defpred") ∷ identifier a.name ∷ special a.left (codes "[") ∷ maybe (spell_separated spell_type) a.types ++ special a.right (codes "]") ∷ reserved a.means (codes "means") ∷ spell_formula a.formula ++ special a.semicolon (codes ";") ∷ []

abbrev pub spell_introduction : IntroductionTree → List MarkedToken
spell_introduction (introduction_tree.Consider tree) = spell_consider tree
spell_introduction (introduction_tree.Reconsider tree) = spell_reconsider tree
spell_introduction (introduction_tree.Set tree) = spell_set tree
spell_introduction (introduction_tree.Deffunc tree) = spell_deffunc tree
spell_introduction (introduction_tree.Defpred tree) = spell_defpred tree

abbrev pub spell_let : LetTree → List MarkedToken
spell_let a = reserved a.let_ (codes "let") ∷ spell_declarations a.declarations ++ maybe spell_such a.such ++ special a.semicolon (codes ";") ∷ []

abbrev pub spell_assume : AssumeTree → List MarkedToken
spell_assume a = reserved a.assume (codes "assume") ∷ spell_hypotheses a.hypotheses ++ special a.semicolon (codes ";") ∷ []

abbrev pub spell_given : GivenTree → List MarkedToken
spell_given a = reserved a.given (codes "given") ∷ spell_declarations a.declarations ++ spell_such a.such ++ special a.semicolon (codes ";") ∷ []

abbrev pub spell_take : TakeTree → List MarkedToken
spell_take a = reserved a.take (codes "take") ∷ spell_separated spell_taken a.taken ++ special a.semicolon (codes ";") ∷ []

abbrev pub spell_skeleton : SkeletonTree → List MarkedToken
spell_skeleton (skeleton_tree.Let tree) = spell_let tree
spell_skeleton (skeleton_tree.Assume tree) = spell_assume tree
spell_skeleton (skeleton_tree.Given tree) = spell_given tree
spell_skeleton (skeleton_tree.Take tree) = spell_take tree

abbrev pub spell_split : SplitTree → List MarkedToken
spell_split a = reserved_if a.then (codes "then") ++ reserved a.per (codes "per") ∷ reserved a.cases (codes "cases") ∷ spell_simple a.simple ++ special a.semicolon (codes ";") ∷ []
