-- A step as it was read leads to one state at most, and so do steps that are taken one by one.
use Rattle.std.proofs.Common.{◌≡◌, List, [], ◌∷◌, Option, Some, None, refl}
use Rattle.std.specs.Prelude.{Result, Ok, Err}
use Rattle.mz_base.specs.declared.place.Place.{Place}
use Rattle.mz_context.specs.declared.labelled.LabelledStatement.{LabelledStatement}
use Rattle.mz_environment.specs.declared.environment.Environment.{Environment}
use Rattle.mz_names.specs.declared.refusal.Refusal.{Refusal}
use Rattle.mz_names.specs.declared.refusal.Refusal.TheVariants.{TooLarge}
use Rattle.mz_types.specs.Known.{typing}
use Rattle.mz_steps.specs.Effects.{Acts}
use Rattle.mz_steps.specs.declared.block.Effect.{Effect}
use Rattle.mz_steps.specs.declared.read_step.ReadStep.{ReadStep}
use Rattle.mz_steps.proofs.OneEffect.{one_effect_law}
use Rattle.mz_justified.specs.declared.proof_fault.ProofRefusal.{ProofRefusal}
use Rattle.mz_justified.specs.declared.proof_fault.ProofRefusal.TheVariants.{StepNoFit, Resolve}
use Rattle.mz_justified_laws.specs.Determined.{AtMostOne}
use Rattle.mz_justified_laws.proofs.Sequence.{one_by, one_value, IfSo, if_so, if_not, one_if, NextSome, one_next_some, NextOk, one_next_ok, After, one_after}
use Rattle.mz_walk.specs.Walked as wa
use Rattle.mz_walk.specs.Walked.{State, OneByOne}
use Rattle.mz_walk.specs.Performing as pe
use Rattle.mz_walk.specs.Performing.{keeps, state_after, Performs, PerformsAlone}
use Rattle.mz_skeleton_laws.specs.Laws.{OnePerformedLaw}

-- refusals
abbrev pub refusal : {X : Type 0} → ProofRefusal → Result X ProofRefusal
refusal r = Err r

abbrev pub unread : {X : Type 0} → Refusal → Result X ProofRefusal
unread r = Err (Resolve r)

-- a step as it was read
abbrev no_fit : Place → Result State ProofRefusal
no_fit first = Err (StepNoFit first)

abbrev too_large : Place → Result State ProofRefusal
too_large first = Err (Resolve (TooLarge first))

abbrev IsTooLarge : Place → Result State ProofRefusal → Type 0
IsTooLarge first o = o ≡ too_large first

abbrev led : State → ReadStep → Effect → List LabelledStatement → Result State ProofRefusal
led s r a ps = Ok (state_after s r a ps)

abbrev IsLed : State → ReadStep → List LabelledStatement → Effect → Result State ProofRefusal → Type 0
IsLed s r ps a o = o ≡ led s r a ps

abbrev EffectNext : Place → State → ReadStep → List LabelledStatement → Effect → Result State ProofRefusal → Type 0
EffectNext first s r ps a o = IfSo (keeps a) (IsLed s r ps a o) (IsTooLarge first o)

abbrev ActsIn : Environment → State → ReadStep → Option Effect → Type 0
ActsIn e s r o = Acts (typing e s.context) e.steps s.block s.context r o

abbrev PerformsAs : Environment → Place → State → ReadStep → List LabelledStatement → Result State ProofRefusal → Type 0
PerformsAs e first s r ps o = After (ActsIn e s r) (NextSome (no_fit first) (EffectNext first s r ps)) o

performs_as : (e : Environment) (first : Place) (s : State) (r : ReadStep) (ps : List LabelledStatement) (o : Result State ProofRefusal) → Performs e first s r ps o → PerformsAs e first s r ps o
performs_as e first s r ps o (pe.unfit h) = (None, h, refl)
performs_as e first s r ps o (pe.beyond a h k) = (Some a, h, if_not (keeps a) (IsLed s r ps a o) (IsTooLarge first o) k refl)
performs_as e first s r ps o (pe.performed a h k) = (Some a, h, if_so (keeps a) (IsLed s r ps a o) (IsTooLarge first o) k refl)

one_effect_next : (first : Place) (s : State) (r : ReadStep) (ps : List LabelledStatement) (a : Effect) → AtMostOne (EffectNext first s r ps a)
one_effect_next first s r ps a = one_if (keeps a) (IsLed s r ps a) (IsTooLarge first) (one_value (led s r a ps)) (one_value (too_large first))

one_acts : (e : Environment) (s : State) (r : ReadStep) → AtMostOne (ActsIn e s r)
one_acts e s r o p h k = one_effect_law (typing e s.context) e.steps s.block s.context r o p h k

pub one_performed : OnePerformedLaw
one_performed e first s r ps =
    one_by (Performs e first s r ps) (PerformsAs e first s r ps) (performs_as e first s r ps)
    (one_after (ActsIn e s r) (NextSome (no_fit first) (EffectNext first s r ps)) (one_acts e s r)
    (one_next_some (no_fit first) (EffectNext first s r ps) (one_effect_next first s r ps)))

-- members of a list, one by one
abbrev TakenNext : {S X : Type 0} → (S → X → Result S ProofRefusal → Type 0) → List X → S → Result S ProofRefusal → Type 0
TakenNext part xs t o = OneByOne part t xs o

abbrev TakenAs : {S X : Type 0} → (S → X → Result S ProofRefusal → Type 0) → S → List X → Result S ProofRefusal → Type 0
TakenAs part s [] o = o ≡ Ok s
TakenAs part s (x ∷ xs) o = After (part s x) (NextOk refusal (TakenNext part xs)) o

taken_as : {S X : Type 0} (part : S → X → Result S ProofRefusal → Type 0) (s : S) (xs : List X) (o : Result S ProofRefusal) → OneByOne part s xs o → TakenAs part s xs o
taken_as part s xs o (wa.none_left _) = refl
taken_as part s xs o (wa.one_refused _ x rest r h) = (Err r, h, refl)
taken_as part s xs o (wa.one_taken _ t x rest _ h k) = (Ok t, h, k)

pub one_by_one : {S X : Type 0} (part : S → X → Result S ProofRefusal → Type 0) → ((s : S) (x : X) → AtMostOne (part s x)) → (xs : List X) (s : S) → AtMostOne (OneByOne part s xs)
one_by_one part one [] s = one_by (OneByOne part s []) (TakenAs part s []) (taken_as part s []) (one_value (Ok s))
one_by_one part one (x ∷ xs) s =
    one_by (OneByOne part s (x ∷ xs)) (TakenAs part s (x ∷ xs)) (taken_as part s (x ∷ xs))
    (one_after (part s x) (NextOk refusal (TakenNext part xs)) (one s x) (one_next_ok refusal (TakenNext part xs) (one_by_one part one xs)))

-- steps that state nothing
pub one_alone : (e : Environment) (first : Place) (s : State) (r : ReadStep) → AtMostOne (PerformsAlone e first s r)
one_alone e first s r = one_performed e first s r []

pub one_each : (e : Environment) (first : Place) (s : State) (rs : List ReadStep) → AtMostOne (OneByOne (PerformsAlone e first) s rs)
one_each e first s rs = one_by_one (PerformsAlone e first) (one_alone e first) rs s
