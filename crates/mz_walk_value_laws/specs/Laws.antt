-- Laws of the walk: each part of a reasoning leads to one outcome, which is the obligations that it makes and what stands behind
-- it, or a refusal.
use Rattle.std.specs.Prelude.{Bool}
use Rattle.mz_base.specs.declared.place.Place.{Place}
use Rattle.mz_core.specs.declared.outcome.Left.{Left}
use Rattle.mz_context.specs.declared.context.Context.{Context}
use Rattle.mz_environment.specs.declared.environment.Environment.{Environment}
use Rattle.mz_formulas.specs.declared.sentence.Sentence.{Sentence}
use Rattle.mz_tree_proof.specs.Reasoning.{JustData, StatementData, StepData, StepList, SupposeList}
use Rattle.mz_obligations.specs.declared.obligation.Extent.{Extent}
use Rattle.mz_justified_laws.specs.Determined.{AtMostOne}
use Rattle.mz_walk.specs.Walked.{State}
use Rattle.mz_walk.specs.Walk.{Justifies, Proves, States, Goes, Supposes, GoesAll}

abbrev pub OneJustifiedLaw : Type 0
OneJustifiedLaw =
    (e : Environment) (at : Extent) (c : Context) (first : Place) (linked : Bool) (behind : Place) (j : JustData) (x : Sentence) (l : Left) → AtMostOne (Justifies e at c first linked behind j x l)

abbrev pub OneProofLaw : Type 0
OneProofLaw = (e : Environment) (at : Extent) (c : Context) (ds : StepList) (end : Place) (l : Left) → AtMostOne (Proves e at c ds end l)

abbrev pub OneStatementLaw : Type 0
OneStatementLaw = (e : Environment) (at : Extent) (s : State) (first : Place) (t : StatementData) → AtMostOne (States e at s first t)

abbrev pub OneStepLaw : Type 0
OneStepLaw = (e : Environment) (at : Extent) (s : State) (first : Place) (d : StepData) → AtMostOne (Goes e at s first d)

abbrev pub OneCasesLaw : Type 0
OneCasesLaw = (e : Environment) (at : Extent) (c : Context) (us : SupposeList) (l : Left) → AtMostOne (Supposes e at c us l)

abbrev pub OneWalkLaw : Type 0
OneWalkLaw = (e : Environment) (at : Extent) (s : State) (ds : StepList) → AtMostOne (GoesAll e at s ds)
