-- What the code of the calls tells.
use Rattle.std.proofs.Common.{◌≡◌, List, [], refl, sym, ap, ◌∙◌, subst, Some}
use Rattle.std.specs.Prelude.{Result, Ok, Err, OnOk}
use Rattle.mz_base.specs.declared.place.Place.{Place}
use Rattle.mz_core.specs.Statement.{Statement}
use Rattle.mz_core.specs.declared.outcome.Left.{Left}
use Rattle.mz_context.specs.declared.context.Context.{Context}
use Rattle.mz_environment.specs.declared.environment.Environment.{Environment}
use Rattle.mz_obligations.specs.declared.obligation.Extent.{Extent}
use Rattle.mz_obligations.specs.declared.obligation.Obligation.{Obligation}
use Rattle.mz_steps.specs.declared.block.Block.{Block}
use Rattle.mz_justified.specs.Answers.{OnMade}
use Rattle.mz_justified.specs.declared.proof_fault.ProofFault.{ProofFault}
use Rattle.mz_justified.specs.declared.proof_fault.ProofRefusal.{ProofRefusal}
use Rattle.mz_walk.specs.Answers.{IsBrought, Brings}
use Rattle.mz_performing.proofs.AnswerLemmas.{on_err, on_ok, on_made}
use Rattle.mz_tree.specs.Places.{first_place}
use Rattle.mz_steps.specs.Changes.{outside_of, at_start_of_proof}
use Rattle.mz_steps.specs.declared.block.Block.TheVariants.{Proof}
use Rattle.mz_steps.specs.declared.block.Outside.{Outside}
use Rattle.mz_tree_proof.specs.Reasoning.{StatementData, StepList}
use Rattle.mz_tree_proof.specs.SpellReasoning.{spell_statement}
use Rattle.mz_walk.specs.Walked.{state, Made}
use Rattle.mz_walk.specs.Walk.{Proves, States}
use Rattle.mz_performing.specs.Blocks.{restored}
use Rattle.mz_context.specs.Grown.{Grew}
use Rattle.mz_proof.proofs.ProofBlockLemmas.{states_proof}
use Rattle.mz_proof.proofs.JustifyLemmas.{made_so}
use Rattle.mz_proof.proofs.GrowLemmas.{grows_more, grows_into_proof, restored-grown}

-- the steps of a proof
pub told_not_proved : {X : Type 0} (Y : Type 0) (e : Environment) (at : Extent) (c d : Context) (thesis copy : Statement) (ds : StepList) (end : Place) (l m n : Left) (os ps qs rs : List Obligation) (y : Result X ProofFault) (f : ProofFault) → copy ≡ thesis → d ≡ at_start_of_proof c copy →
    OnMade y (Brings (Proves e at d ds end l) m os ps) → y ≡ Err f → OnMade {X = Y} (Err f) (Brings (Proves e at (at_start_of_proof c thesis) ds end l) n qs rs)
told_not_proved {X} Y e at c d thesis copy ds end l m n os ps qs rs y f et ed h ey =
    let P : Result X ProofRefusal → Type 0 = Brings (Proves e at (at_start_of_proof c thesis) ds end l) m os ps in
    let Q : Result Y ProofRefusal → Type 0 = Brings (Proves e at (at_start_of_proof c thesis) ds end l) n qs rs in
    on_err P Q y f ey (subst (λ z. OnMade y (Brings (Proves e at z ds end l) m os ps)) (ed ∙ ap (at_start_of_proof c) et) h) (λ r k. k)

pub told_proved : {X : Type 0} (e : Environment) (at : Extent) (c d : Context) (thesis copy : Statement) (ds : StepList) (end : Place) (l m : Left) (os ps : List Obligation) (y : Result X ProofFault) (z : X) → copy ≡ thesis → d ≡ at_start_of_proof c copy →
    OnMade y (Brings (Proves e at d ds end l) m os ps) → y ≡ Ok z → IsBrought (λ qs. Proves e at (at_start_of_proof c thesis) ds end l (Made qs m)) os ps
told_proved {X} e at c d thesis copy ds end l m os ps y z et ed h ey =
    let P : Result X ProofRefusal → Type 0 = Brings (Proves e at (at_start_of_proof c thesis) ds end l) m os ps in
    on_ok P y z ey (subst (λ w. OnMade y (Brings (Proves e at w ds end l) m os ps)) (ed ∙ ap (at_start_of_proof c) et) h)

pub told_back : {X : Type 0} (c d f g : Context) (copy : Statement) (o : Outside) (y : Result X ProofFault) (z : X) → d ≡ at_start_of_proof c copy → o ≡ outside_of c → OnOk y (Grew d f) → y ≡ Ok z → g ≡ restored f o → g ≡ c
told_back c d f g copy o y z ed eo h ey eg =
    let into : Grew c d = subst (Grew c) (sym ed) (grows_into_proof c [] copy) in
    eg ∙ (ap (restored f) eo ∙ restored-grown c f (grows_more c d f into (made_so y z ey h)))

-- a statement
pub told_stated : {X : Type 0} (e : Environment) (at : Extent) (c d : Context) (b f : Block) (l m : Left) (first : Place) (tree : StatementData) (os ps : List Obligation) (q : Result X ProofFault) → first_place (spell_statement tree) ≡ Some first → b ≡ Proof →
    OnMade q (Brings (States e at (state c b l) first tree) (state d f m) os ps) → OnMade q (λ o. (p : Place) × (first_place (spell_statement tree) ≡ Some p) × Brings (States e at (state c Proof l) p tree) (state d Proof m) os ps o)
told_stated {X} e at c d b f l m first tree os ps q ef eb h =
    let P : Result X ProofRefusal → Type 0 = Brings (States e at (state c Proof l) first tree) (state d f m) os ps in
    let Q : Result X ProofRefusal → Type 0 = λ o. (p : Place) × (first_place (spell_statement tree) ≡ Some p) × Brings (States e at (state c Proof l) p tree) (state d Proof m) os ps o in
    on_made P Q q (subst (λ z. OnMade q (Brings (States e at (state c z l) first tree) (state d f m) os ps)) eb h)
    (λ y k. (first, ef, record { made = k.made; is_made = subst (λ z. States e at (state c Proof l) first tree (Made k.made (state d z m))) (states_proof e at (state c Proof l) first tree (Made k.made (state d f m)) k.is_made refl) k.is_made; are_last = k.are_last }))
    (λ r k. (first, ef, k))
