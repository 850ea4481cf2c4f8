-- Laws of statements without a proof within them: each leads to one outcome.
use Rattle.std.specs.Prelude.{Bool, List}
use Rattle.mz_base.specs.declared.place.Place.{Place}
use Rattle.mz_core.specs.Statement.{Statement}
use Rattle.mz_core.specs.declared.outcome.Left.{Left}
use Rattle.mz_context.specs.declared.context.Context.{Context}
use Rattle.mz_environment.specs.declared.environment.Environment.{Environment}
use Rattle.mz_tree_proof.specs.Reasoning.{JustData}
use Rattle.mz_tree_proof.specs.declared.equality_step.EqualityStepTree.{EqualityStepTree}
use Rattle.mz_tree_proof.specs.declared.introduction.IntroductionTree.{IntroductionTree}
use Rattle.mz_tree_proof.specs.declared.propositions.PropositionTree.{PropositionTree}
use Rattle.mz_obligations.specs.declared.obligation.Extent.{Extent}
use Rattle.mz_justified_laws.specs.Determined.{AtMostOne, IsDetermined}
use Rattle.mz_walk.specs.Walked.{State}
use Rattle.mz_walk.specs.Introductions.{Introduces}
use Rattle.mz_walk.specs.Compact.{CompactRead, JustifiesSides}
use Rattle.mz_walk.specs.Ahead.{KeepsAhead}

abbrev pub OneIntroductionLaw : Type 0
OneIntroductionLaw = (e : Environment) (at : Extent) (first : Place) (s : State) (t : IntroductionTree) → AtMostOne (Introduces e at first s t)

abbrev pub OneCompactLaw : Type 0
OneCompactLaw = (e : Environment) (c : Context) (first : Place) (left : Left) (p : PropositionTree) (ks : List EqualityStepTree) → IsDetermined (CompactRead e c first left p ks)

abbrev pub OneSidesJustifiedLaw : Type 0
OneSidesJustifiedLaw = (e : Environment) (at : Extent) (c : Context) (first semicolon : Place) (ks : List EqualityStepTree) (ss : List Statement) (l : Left) → AtMostOne (JustifiesSides e at c first semicolon ks ss l)

abbrev pub OneAheadLaw : Type 0
OneAheadLaw = (e : Environment) (c : Context) (linked : Bool) (left : Left) (p : PropositionTree) (j : JustData) (ks : List EqualityStepTree) → AtMostOne (KeepsAhead e c linked left p j ks)
