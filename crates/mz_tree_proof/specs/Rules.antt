-- The rules beside the alternatives of the grammar, for what reasonings are made of.
use Rattle.std.specs.Prelude.{◌≡◌, Bool, true, false}
use Rattle.mz_base.specs.Name.{is_name}
use Rattle.mz_tree.specs.Trees.{TypeData}
use Rattle.mz_tree.specs.Rules.{IsTerm, IsType, AreDeclarations, IsFormula, ends_in_terms, term_ends_in_list, Every, IfAny}
use Rattle.mz_tree.specs.declared.lists.Separated.{Separated}
use Rattle.mz_tree.specs.Lists.{AreSeparated, AreDivided}
use Rattle.mz_tree_proof.specs.declared.propositions.PropositionTree.{PropositionTree}
use Rattle.mz_tree_proof.specs.declared.propositions.AndPropositionTree.{AndPropositionTree}
use Rattle.mz_tree_proof.specs.declared.propositions.PropositionsTree.{PropositionsTree}
use Rattle.mz_tree_proof.specs.declared.propositions.HypothesesTree.{HypothesesTree}
use Rattle.mz_tree_proof.specs.declared.propositions.HypothesesTree.TheVariants as hypotheses_tree
use Rattle.mz_tree_proof.specs.declared.propositions.SuchTree.{SuchTree}
use Rattle.mz_tree_proof.specs.declared.references.ReferenceTree.{ReferenceTree}
use Rattle.mz_tree_proof.specs.declared.references.ReferenceTree.TheVariants as reference_tree
use Rattle.mz_tree_proof.specs.declared.references.SchemeReferenceTree.{SchemeReferenceTree}
use Rattle.mz_tree_proof.specs.declared.references.SchemeReferenceTree.TheVariants as scheme_reference_tree
use Rattle.mz_tree_proof.specs.declared.references.PremisesTree.{PremisesTree}
use Rattle.mz_tree_proof.specs.declared.references.SimpleTree.{SimpleTree}
use Rattle.mz_tree_proof.specs.declared.references.SimpleTree.TheVariants as simple_tree
use Rattle.mz_tree_proof.specs.declared.equality_step.EqualityStepTree.{EqualityStepTree}
use Rattle.mz_tree_proof.specs.declared.introduction.NamedTermTree.{NamedTermTree}
use Rattle.mz_tree_proof.specs.declared.introduction.RetypedTree.{RetypedTree}
use Rattle.mz_tree_proof.specs.declared.introduction.RetypedTree.TheVariants as retyped_tree
use Rattle.mz_tree_proof.specs.declared.skeleton.TakenTree.{TakenTree}
use Rattle.mz_tree_proof.specs.declared.skeleton.TakenTree.TheVariants as taken_tree
use Rattle.mz_tree_proof.specs.declared.introduction.ConsiderTree.{ConsiderTree}
use Rattle.mz_tree_proof.specs.declared.introduction.ReconsiderTree.{ReconsiderTree}
use Rattle.mz_tree_proof.specs.declared.introduction.SetTree.{SetTree}
use Rattle.mz_tree_proof.specs.declared.introduction.DeffuncTree.{DeffuncTree}
use Rattle.mz_tree_proof.specs.declared.introduction.DefpredTree.{DefpredTree}
use Rattle.mz_tree_proof.specs.declared.introduction.IntroductionTree.{IntroductionTree}
use Rattle.mz_tree_proof.specs.declared.introduction.IntroductionTree.TheVariants as introduction_tree
use Rattle.mz_tree_proof.specs.declared.skeleton.LetTree.{LetTree}
use Rattle.mz_tree_proof.specs.declared.skeleton.AssumeTree.{AssumeTree}
use Rattle.mz_tree_proof.specs.declared.skeleton.GivenTree.{GivenTree}
use Rattle.mz_tree_proof.specs.declared.skeleton.TakeTree.{TakeTree}
use Rattle.mz_tree_proof.specs.declared.skeleton.SkeletonTree.{SkeletonTree}
use Rattle.mz_tree_proof.specs.declared.skeleton.SkeletonTree.TheVariants as skeleton_tree
use Rattle.mz_tree_proof.specs.declared.skeleton.SplitTree.{SplitTree}

abbrev pub IsProposition : PropositionTree → Type 0
IsProposition a = IsFormula false a.formula

abbrev pub IsAndProposition : AndPropositionTree → Type 0
IsAndProposition a = IsProposition a.proposition

abbrev pub ArePropositions : PropositionsTree → Type 0
ArePropositions a = IsProposition a.first × Every IsAndProposition a.more

abbrev pub AreHypotheses : HypothesesTree → Type 0
AreHypotheses (hypotheses_tree.One a) = IsProposition a
AreHypotheses (hypotheses_tree.That p a) = ArePropositions a

abbrev pub IsSuch : SuchTree → Type 0
IsSuch a = ArePropositions a.propositions

-- only a name may have a colon behind it
abbrev pub IsReference : ReferenceTree → Type 0
IsReference (reference_tree.Label a) = Unit {0}
IsReference (reference_tree.Numbered a p ns) = is_name a.spelling ≡ true

abbrev pub IsSchemeReference : SchemeReferenceTree → Type 0
IsSchemeReference (scheme_reference_tree.Label a) = Unit {0}
IsSchemeReference (scheme_reference_tree.Numbered a p q n) = is_name a.spelling ≡ true

abbrev pub ArePremises : PremisesTree → Type 0
ArePremises a = AreSeparated IsReference a.references

abbrev pub IsSimple : SimpleTree → Type 0
IsSimple simple_tree.Nothing = Unit {0}
IsSimple (simple_tree.By p a) = AreSeparated IsReference a
IsSimple (simple_tree.From p a b) = IsSchemeReference a × IfAny ArePremises b

abbrev pub IsEqualityStep : EqualityStepTree → Type 0
IsEqualityStep a = IsTerm false a.term × IsSimple a.simple

abbrev pub AreTypes : Separated TypeData → Type 0
AreTypes a = AreDivided (IsType false) ends_in_terms a

abbrev pub IsNamedTerm : NamedTermTree → Type 0
IsNamedTerm a = IsTerm false a.term

abbrev pub named_term_ends_in_list : NamedTermTree → Bool
named_term_ends_in_list a = term_ends_in_list a.term

abbrev pub IsRetyped : RetypedTree → Type 0
IsRetyped (retyped_tree.Itself a) = Unit {0}
IsRetyped (retyped_tree.Named a) = IsNamedTerm a

abbrev pub retyped_ends_in_list : RetypedTree → Bool
retyped_ends_in_list (retyped_tree.Itself a) = false
retyped_ends_in_list (retyped_tree.Named a) = named_term_ends_in_list a

abbrev pub IsTaken : TakenTree → Type 0
IsTaken (taken_tree.Plain t) = IsTerm false t
IsTaken (taken_tree.Named a) = IsNamedTerm a

abbrev pub taken_ends_in_list : TakenTree → Bool
taken_ends_in_list (taken_tree.Plain t) = term_ends_in_list t
taken_ends_in_list (taken_tree.Named a) = named_term_ends_in_list a

abbrev pub IsConsider : ConsiderTree → Type 0
IsConsider a = AreDeclarations false a.declarations × IsSuch a.such × IsSimple a.simple

abbrev pub IsReconsider : ReconsiderTree → Type 0
IsReconsider a = AreDivided IsRetyped retyped_ends_in_list a.retyped × IsType false a.ty × IsSimple a.simple

abbrev pub IsSet : SetTree → Type 0
IsSet a = AreDivided IsNamedTerm named_term_ends_in_list a.named

abbrev pub IsDeffunc : DeffuncTree → Type 0
IsDeffunc a = IfAny AreTypes a.types × IsTerm false a.term

abbrev pub IsDefpred : DefpredTree → Type 0
IsDefpred a = IfAny AreTypes a.types × IsFormula false a.formula

abbrev pub IsIntroduction : IntroductionTree → Type 0
IsIntroduction (introduction_tree.Consider a) = IsConsider a
IsIntroduction (introduction_tree.Reconsider a) = IsReconsider a
IsIntroduction (introduction_tree.Set a) = IsSet a
IsIntroduction (introduction_tree.Deffunc a) = IsDeffunc a
IsIntroduction (introduction_tree.Defpred a) = IsDefpred a

abbrev pub IsLet : LetTree → Type 0
IsLet a = AreDeclarations false a.declarations × IfAny IsSuch a.such

abbrev pub IsAssume : AssumeTree → Type 0
IsAssume a = AreHypotheses a.hypotheses

abbrev pub IsGiven : GivenTree → Type 0
IsGiven a = AreDeclarations false a.declarations × IsSuch a.such

abbrev pub IsTake : TakeTree → Type 0
IsTake a = AreDivided IsTaken taken_ends_in_list a.taken

abbrev pub IsSkeleton : SkeletonTree → Type 0
IsSkeleton (skeleton_tree.Let a) = IsLet a
IsSkeleton (skeleton_tree.Assume a) = IsAssume a
IsSkeleton (skeleton_tree.Given a) = IsGiven a
IsSkeleton (skeleton_tree.Take a) = IsTake a

abbrev pub IsSplit : SplitTree → Type 0
IsSplit a = IsSimple a.simple
