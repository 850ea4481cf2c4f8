-- What the calls tell of the obligations, and what these are worth.
use Rattle.std.proofs.Common.{◌≡◌, List, [], ◌++◌, sym, ap, ◌∙◌, subst, Some, Bool}
use Rattle.std.specs.Prelude.{Result, Ok}
use Rattle.mz_base.specs.declared.place.Place.{Place}
use Rattle.mz_core.specs.Statement.{Statement}
use Rattle.mz_core.specs.declared.outcome.Left.{Left}
use Rattle.mz_context.specs.declared.context.Context.{Context}
use Rattle.mz_environment.specs.declared.environment.Environment.{Environment}
use Rattle.mz_closed_laws.specs.ClosedEnvironment.{IsClosedEnvironment}
use Rattle.mz_term_laws.specs.Whole.{IsWhole}
use Rattle.mz_formulas.specs.declared.sentence.Sentence.{Sentence}
use Rattle.mz_tree.specs.Places.{first_place}
use Rattle.mz_tree_proof.specs.Reasoning.{JustData, StatementData, StepList}
use Rattle.mz_tree_proof.specs.SpellReasoning.{spell_statement}
use Rattle.mz_steps.specs.Changes.{at_start_of_proof}
use Rattle.mz_steps.specs.declared.block.Block.TheVariants.{Proof}
use Rattle.mz_obligations.specs.declared.obligation.Extent.{Extent}
use Rattle.mz_obligations.specs.declared.obligation.Obligation.{Obligation}
use Rattle.mz_justified.specs.Answers.{OnMade}
use Rattle.mz_justified.specs.declared.proof_fault.ProofFault.{ProofFault}
use Rattle.mz_justified.specs.declared.proof_fault.ProofRefusal.{ProofRefusal}
use Rattle.mz_walk.specs.Walked.{state, Walked, Made}
use Rattle.mz_walk.specs.Walk.{Justifies, Proves, States}
use Rattle.mz_walk.specs.Answers.{IsBrought, Brings}
use Rattle.mz_walk_laws.specs.Grounds.{ReadsWell}
use Rattle.mz_walk_laws.proofs.WalkProofs.{skeleton_law, justification_law, statement_law}
use Rattle.mz_whole_laws.proofs.WholeProofs.{reads_well_law}
use Rattle.mz_sound_proof.specs.Sound.{IsProved, IsJustified, IsStated}

on_ok : {X : Type 0} (P : Result X ProofRefusal → Type 0) (x : Result X ProofFault) (y : X) → x ≡ Ok y → OnMade x P → P (Ok y)
on_ok P x y e h = subst (λ z. OnMade z P) e h

-- the obligations that were put behind none are all that were made
all_made : {Y : Type 0} (walks : Walked Y → Type 0) (y : Y) (none os : List Obligation) → none ≡ [] → IsBrought (λ qs. walks (Made qs y)) none os → walks (Made os y)
all_made walks y none os en g = subst (λ qs. walks (Made qs y)) (sym (g.are_last ∙ ap (λ xs. xs ++ g.made) en)) g.is_made

reads_well : (e f : Environment) → f ≡ e → IsClosedEnvironment e → ReadsWell f (IsWhole 0)
reads_well e f ef closed_e = reads_well_law f (subst IsClosedEnvironment (sym ef) closed_e)

pub told_proof : {X : Type 0} (e : Environment) (at : Extent) (c : Context) (thesis : Statement) (ds : StepList) (end : Place) (l m : Left) (none os : List Obligation) (y : Result X ProofFault) (z : X) → none ≡ [] →
    OnMade y (Brings (Proves e at (at_start_of_proof c thesis) ds end l) m none os) → y ≡ Ok z → IsProved e c thesis os
told_proof {X} e at c thesis ds end l m none os y z en h ey = λ stands b eb closed_e held grounded proper met.
    let P : Result X ProofRefusal → Type 0 = Brings (Proves e at (at_start_of_proof c thesis) ds end l) m none os in
    let walked : Proves e at (at_start_of_proof c thesis) ds end l (Made os m) = all_made (Proves e at (at_start_of_proof c thesis) ds end l) m none os en (on_ok P y z ey h) in
    skeleton_law (IsWhole 0) b (reads_well e b.env eb closed_e) held grounded c proper thesis stands at ds end l m os (subst (λ f. Proves f at (at_start_of_proof c thesis) ds end l (Made os m)) (sym eb) walked) met

pub told_justification : {X : Type 0} (e : Environment) (at : Extent) (c : Context) (first behind : Place) (linked : Bool) (j : JustData) (x : Sentence) (l m : Left) (none os : List Obligation) (y : Result X ProofFault) (z : X) → none ≡ [] →
    OnMade y (Brings (Justifies e at c first linked behind j x l) m none os) → y ≡ Ok z → IsJustified e c x os
told_justification {X} e at c first behind linked j x l m none os y z en h ey = λ stand is_closed b eb closed_e held grounded proper met.
    let P : Result X ProofRefusal → Type 0 = Brings (Justifies e at c first linked behind j x l) m none os in
    let walked : Justifies e at c first linked behind j x l (Made os m) = all_made (Justifies e at c first linked behind j x l) m none os en (on_ok P y z ey h) in
    justification_law (IsWhole 0) b (reads_well e b.env eb closed_e) held grounded c proper x stand is_closed at first behind linked j l m os (subst (λ f. Justifies f at c first linked behind j x l (Made os m)) (sym eb) walked) met

pub told_statement : {X : Type 0} (e : Environment) (at : Extent) (c d : Context) (t : StatementData) (l m : Left) (none os : List Obligation) (y : Result X ProofFault) (z : X) → none ≡ [] →
    OnMade y (λ o. (first : Place) × (first_place (spell_statement t) ≡ Some first) × Brings (States e at (state c Proof l) first t) (state d Proof m) none os o) → y ≡ Ok z → IsStated e c d os
told_statement {X} e at c d t l m none os y z en h ey = λ no_thesis b eb closed_e held grounded proper met.
    let P : Result X ProofRefusal → Type 0 = λ o. (first : Place) × (first_place (spell_statement t) ≡ Some first) × Brings (States e at (state c Proof l) first t) (state d Proof m) none os o in
    let g = on_ok P y z ey h in
    let walked : States e at (state c Proof l) g.0 t (Made os (state d Proof m)) = all_made (States e at (state c Proof l) g.0 t) (state d Proof m) none os en g.2 in
    statement_law (IsWhole 0) b (reads_well e b.env eb closed_e) held grounded c proper no_thesis at g.0 t l os (state d Proof m) (subst (λ f. States f at (state c Proof l) g.0 t (Made os (state d Proof m))) (sym eb) walked) met
