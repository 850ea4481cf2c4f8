-- What the code of steps tells.
use Rattle.std.proofs.Common.{◌≡◌, ℕ, List, [], ◌∷◌, length, Bool, true, false, refl, sym, ap, ◌∙◌, subst, Option, Some, None}
use Rattle.std.specs.Prelude.{Result, Ok, Err}
use Rattle.mz_base.specs.declared.place.Place.{Place}
use Rattle.mz_core.specs.Statement.{Statement}
use Rattle.mz_core.specs.declared.outcome.Left.{Left}
use Rattle.mz_context.specs.declared.context.Context.{Context}
use Rattle.mz_context.specs.declared.labelled.LabelledStatement.{LabelledStatement}
use Rattle.mz_environment.specs.declared.environment.Environment.{Environment}
use Rattle.mz_names.specs.declared.refusal.Refusal.{Refusal}
use Rattle.mz_names.specs.declared.refusal.Refusal.TheVariants.{TooLarge}
use Rattle.mz_types.specs.Known.{typing}
use Rattle.mz_thesis.specs.declared.thesis_fault.ThesisFault.{ThesisFault}
use Rattle.mz_thesis.specs.declared.thesis_fault.ThesisFault.TheVariants.{NoFit, Memory}
use Rattle.mz_fits.proofs.FitLemmas.{empty}
use Rattle.mz_steps.specs.Changes.{block_after, context_after, with_stated}
use Rattle.mz_steps.specs.Effects.{Acts, IsUnfit}
use Rattle.mz_steps.specs.declared.block.Block.{Block}
use Rattle.mz_steps.specs.declared.block.Effect.{Effect}
use Rattle.mz_steps.specs.declared.read_step.ReadStep.{ReadStep}
use Rattle.mz_parts.specs.Joined.{joined_within}
use Rattle.mz_justified.specs.Answers.{OnMade}
use Rattle.mz_justified.specs.declared.proof_fault.ProofFault.{ProofFault}
use Rattle.mz_justified.specs.declared.proof_fault.ProofFault.TheVariants as fault
use Rattle.mz_justified.specs.declared.proof_fault.ProofRefusal.{ProofRefusal}
use Rattle.mz_justified.specs.declared.proof_fault.ProofRefusal.TheVariants.{StepNoFit, Resolve}
use Rattle.mz_walk.specs.Walked.{State, state, OneByOne}
use Rattle.mz_walk.specs.Performing as pf
use Rattle.mz_walk.specs.Performing.{keeps, Performs, PerformsAlone, stating_if, stating_within}
use Rattle.mz_walk.specs.Answers.{reached}
use Rattle.mz_performing.specs.Begun.{Fits}
use Rattle.mz_performing.proofs.AnswerLemmas.{on_err, on_ok}
use Rattle.mz_performing.proofs.TakingLemmas.{Taking, taking_end, taking_stop, taking_turn}

pub told_unfit : (e : Environment) (first : Place) (c : Context) (b : Block) (r : ReadStep) → IsUnfit (typing e c) e.steps b c r NoFit → (l : Left) (ps : List LabelledStatement) → Performs e first (state c b l) r ps (Err (StepNoFit first))
told_unfit e first c b r h l ps = pf.unfit h

pub told_too_large : (e : Environment) (first : Place) (c : Context) (b : Block) (r : ReadStep) (a : Effect) (k : Bool) → Acts (typing e c) e.steps b c r (Some a) → k ≡ keeps a → k ≡ false → (l : Left) (ps : List LabelledStatement) → Performs e first (state c b l) r ps (Err (Resolve (TooLarge first)))
told_too_large e first c b r a k h ek e0 l ps = pf.beyond a h (sym ek ∙ e0)

pub told_fits : (e : Environment) (first : Place) (c : Context) (b : Block) (r : ReadStep) (a : Effect) (k : Bool) → Acts (typing e c) e.steps b c r (Some a) → k ≡ keeps a → k ≡ true → Acts (typing e c) e.steps b c r (Some a) × (keeps a ≡ true)
told_fits e first c b r a k h ek e1 = (h, sym ek ∙ e1)

pub ruleset fit_rules = (told_unfit, told_too_large, told_fits)

pub told_unperformed : (Y : Type 0) (e : Environment) (first : Place) (c : Context) (b : Block) (r : ReadStep) (ps : List LabelledStatement) (x : Result Effect ProofFault) (f : ProofFault) (d : Context) (b' : Block) → OnMade x (Fits e first c b r) → x ≡ Err f →
    (l : Left) → OnMade {X = Y} (Err f) (λ o. Performs e first (state c b l) r ps (reached o (state d b' l)))
told_unperformed Y e first c b r ps x f d b' h ex l =
    let Q : Result Y ProofRefusal → Type 0 = λ o. Performs e first (state c b l) r ps (reached o (state d b' l)) in
    on_err (Fits e first c b r) Q x f ex h (λ y k. k l ps)

pub told_performed : (e : Environment) (first : Place) (c d : Context) (b b' : Block) (r : ReadStep) (ps : List LabelledStatement) (a : Effect) (x : Result Effect ProofFault) → OnMade x (Fits e first c b r) → x ≡ Ok a →
    d ≡ context_after c r a ps → b' ≡ block_after b a → (l : Left) → Performs e first (state c b l) r ps (Ok (state d b' l))
told_performed e first c d b b' r ps a x h ex ed eb l =
    let P : State → Type 0 = λ t. Performs e first (state c b l) r ps (Ok t) in
    let fits : Acts (typing e c) e.steps b c r (Some a) × (keeps a ≡ true) = on_ok (Fits e first c b r) x a ex h in
    subst P (sym (ap (λ y. state y b' l) ed ∙ ap (λ y. state (context_after c r a ps) y l) eb)) (pf.performed a fits.0 fits.1)

pub ruleset perform_rules = (told_unperformed, told_performed)

-- a step that states nothing
pub told_alone : {X : Type 0} (e : Environment) (first : Place) (c d : Context) (b b' : Block) (r : ReadStep) (ps : List LabelledStatement) (x : Result X ProofFault) → ps ≡ [] →
    ((l : Left) → OnMade x (λ o. Performs e first (state c b l) r ps (reached o (state d b' l)))) → (l : Left) → OnMade x (λ o. PerformsAlone e first (state c b l) r (reached o (state d b' l)))
told_alone e first c d b b' r ps x ep h l = subst (λ qs. OnMade x (λ o. Performs e first (state c b l) r qs (reached o (state d b' l)))) ep (h l)

pub ruleset alone_rules = (told_alone)

-- steps one after another
abbrev pub Performing : Environment → Place → Context → Block → List ReadStep → Context → Block → List ReadStep → Type 0
Performing e first c b rest d b' all = (l : Left) → Taking (PerformsAlone e first) (state c b l) rest (state d b' l) all

pub told_all_begun : (e : Environment) (first : Place) (c : Context) (b : Block) (all : List ReadStep) → Performing e first c b all c b all
told_all_begun e first c b all l o h = h

pub told_all_end : (e : Environment) (first : Place) (c d : Context) (b b' : Block) (rest all : List ReadStep) → length rest ≡ 0 → Performing e first c b rest d b' all → (l : Left) → OneByOne (PerformsAlone e first) (state d b' l) all (Ok (state c b l))
told_all_end e first c d b b' rest all er g l = taking_end (PerformsAlone e first) (state c b l) (state d b' l) rest all (empty rest er) (g l)

pub told_all_stop : {X : Type 0} (Y : Type 0) (e : Environment) (first : Place) (c c' d : Context) (b b' f' : Block) (r : ReadStep) (rest others all : List ReadStep) (x : Result X ProofFault) (f : ProofFault) → rest ≡ r ∷ others →
    ((l : Left) → OnMade x (λ o. PerformsAlone e first (state c b l) r (reached o (state c' b' l)))) → x ≡ Err f → Performing e first c b rest d f' all →
    (l : Left) → OnMade {X = Y} (Err f) (λ o. OneByOne (PerformsAlone e first) (state d f' l) all (reached o (state c' b' l)))
told_all_stop Y e first c c' d b b' f' r rest others all x f er h ex g l = taking_stop Y (PerformsAlone e first) (state c b l) (state d f' l) (state c' b' l) (state c' b' l) r rest others all x f er (h l) ex (g l)

pub told_all_turn : {X : Type 0} (e : Environment) (first : Place) (c c' d : Context) (b b' f' : Block) (r : ReadStep) (rest others all : List ReadStep) (x : Result X ProofFault) (y : X) → rest ≡ r ∷ others →
    ((l : Left) → OnMade x (λ o. PerformsAlone e first (state c b l) r (reached o (state c' b' l)))) → x ≡ Ok y → Performing e first c b rest d f' all → Performing e first c' b' others d f' all
told_all_turn e first c c' d b b' f' r rest others all x y er h ex g l = taking_turn (PerformsAlone e first) (state c b l) (state d f' l) (state c' b' l) r rest others all x y er (h l) ex (g l)

pub ruleset all_rules = (told_all_begun, told_all_end, told_all_stop, told_all_turn)

-- what is stated last
pub told_unstated : (first : Place) (c : Context) (b : Block) (ps : List LabelledStatement) (o : Result Statement Refusal) (r : Refusal) → o ≡ joined_within first ps → o ≡ Err r → (l : Left) → Err (Resolve r) ≡ stating_within first (state c b l) ps
told_unstated first c b ps o r eo er l = ap (stating_if (state c b l) ps) (sym er ∙ eo)

pub told_stated : (first : Place) (c d : Context) (b : Block) (ps : List LabelledStatement) (o : Result Statement Refusal) (s : Statement) → o ≡ joined_within first ps → o ≡ Ok s → d ≡ with_stated c ps → (l : Left) → Ok (state d b l) ≡ stating_within first (state c b l) ps
told_stated first c d b ps o s eo es ed l = ap (λ y. Ok (state y b l)) ed ∙ ap (stating_if (state c b l) ps) (sym es ∙ eo)

pub ruleset state_rules = (told_unstated, told_stated)
