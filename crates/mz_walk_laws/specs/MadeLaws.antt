-- What obligations carry.
use Rattle.std.specs.Prelude.{◌≡◌, Bool, List, Contains}
use Rattle.mz_base.specs.declared.place.Place.{Place}
use Rattle.mz_core.specs.declared.outcome.Left.{Left}
use Rattle.mz_context.specs.declared.context.Context.{Context}
use Rattle.mz_context.specs.declared.letters.NamedLetter.{NamedLetter}
use Rattle.mz_environment.specs.declared.environment.Environment.{Environment}
use Rattle.mz_types.specs.Known.{letters_clauses}
use Rattle.mz_formulas.specs.declared.sentence.Sentence.{Sentence}
use Rattle.mz_tree_proof.specs.Reasoning.{JustData, StatementData}
use Rattle.mz_steps.specs.declared.block.Block.TheVariants.{Proof}
use Rattle.mz_obligations.specs.declared.obligation.Extent.{Extent}
use Rattle.mz_obligations.specs.declared.obligation.Obligation.{Obligation}
use Rattle.mz_walk.specs.Walked.{State, state, Made}
use Rattle.mz_walk.specs.Walk.{Justifies, States}

-- it says how much stood above its place, and has the clauses of these letters
abbrev pub IsMadeAt : Extent → List NamedLetter → Obligation → Type 0
IsMadeAt at letters o = (o.extent ≡ at) × (o.letters ≡ letters_clauses letters)

abbrev pub AreMadeAt : Extent → List NamedLetter → List Obligation → Type 0
AreMadeAt at letters os = (o : Obligation) → Contains os o → IsMadeAt at letters o

-- so it is with each obligation of a justification, and of a statement
abbrev pub JustificationMadeLaw : Type 0
JustificationMadeLaw =
    (e : Environment) (at : Extent) (c : Context) (first behind : Place) (linked : Bool) (j : JustData) (x : Sentence) (left after : Left) (os : List Obligation) →
    Justifies e at c first linked behind j x left (Made os after) → AreMadeAt at c.letters os

abbrev pub StatementMadeLaw : Type 0
StatementMadeLaw =
    (e : Environment) (at : Extent) (c : Context) (first : Place) (t : StatementData) (left : Left) (os : List Obligation) (d : State) →
    States e at (state c Proof left) first t (Made os d) → AreMadeAt at c.letters os × (d.context.letters ≡ c.letters)
