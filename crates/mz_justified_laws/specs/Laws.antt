-- Laws of justifications without proofs: each gives one thing at most, and behind what it gives one thing is left.
use Rattle.std.specs.Prelude.{Bool, List}
use Rattle.mz_base.specs.declared.place.Place.{Place}
use Rattle.mz_core.specs.Statement.{Statement}
use Rattle.mz_core.specs.declared.outcome.Left.{Left}
use Rattle.mz_context.specs.declared.context.Context.{Context}
use Rattle.mz_environment.specs.declared.environment.Environment.{Environment}
use Rattle.mz_tree_proof.specs.declared.references.SimpleTree.{SimpleTree}
use Rattle.mz_obligations.specs.declared.obligation.Extent.{Extent}
use Rattle.mz_given.specs.declared.given.Given.{Given}
use Rattle.mz_justified.specs.Justified.{Grounds, Owes, Justified}
use Rattle.mz_justified_laws.specs.Determined.{AtMostOne, IsDetermined}

abbrev pub OneGroundLaw : Type 0
OneGroundLaw = (e : Environment) (c : Context) (first : Place) (linked : Bool) (behind : Place) (t : SimpleTree) (left : Left) → IsDetermined (Grounds e c first linked behind t left)

abbrev pub OneOwedLaw : Type 0
OneOwedLaw = (e : Environment) (at : Extent) (c : Context) (given : Given) (s : Statement) (place : Place) → AtMostOne (Owes e at c given s place)

abbrev pub OneJustificationLaw : Type 0
OneJustificationLaw = (e : Environment) (at : Extent) (c : Context) (first : Place) (linked : Bool) (behind : Place) (t : SimpleTree) (s : Statement) (left : Left) → IsDetermined (Justified e at c first linked behind t s left)
