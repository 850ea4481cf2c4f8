-- What the code of justifications and proofs tells.
use Rattle.std.proofs.Common.{◌≡◌, List, [], ◌∷◌, Bool, true, false, sym, ap, ◌∙◌, subst}
use Rattle.std.specs.Prelude.{Result, Ok, Err, OnOk}
use Rattle.mz_base.specs.declared.place.Place.{Place}
use Rattle.mz_core.specs.declared.outcome.Left.{Left}
use Rattle.mz_context.specs.declared.context.Context.{Context}
use Rattle.mz_environment.specs.declared.environment.Environment.{Environment}
use Rattle.mz_formulas.specs.declared.sentence.Sentence.{Sentence}
use Rattle.mz_names.specs.Closing.{with_variables}
use Rattle.mz_obligations.specs.declared.obligation.Extent.{Extent}
use Rattle.mz_obligations.specs.declared.obligation.Obligation.{Obligation}
use Rattle.mz_steps.specs.declared.block.Block.{Block}
use Rattle.mz_justified.specs.Answers.{OnMade}
use Rattle.mz_justified.specs.declared.proof_fault.ProofFault.{ProofFault}
use Rattle.mz_justified.specs.declared.proof_fault.ProofRefusal.{ProofRefusal}
use Rattle.mz_walk.specs.Walk as wa
use Rattle.mz_walk.specs.Answers.{IsBrought, Brings}
use Rattle.mz_performing.proofs.AnswerLemmas.{on_err, on_ok, on_made}
use Rattle.mz_steps.specs.Changes.{outside_of, at_start_of_proof}
use Rattle.mz_steps.specs.declared.block.Block.TheVariants.{Proof}
use Rattle.mz_steps.specs.declared.block.Outside.{Outside}
use Rattle.mz_tree_proof.specs.Reasoning.{JustData, StepList, SimpleJust, ProofJust}
use Rattle.mz_tree_proof.specs.declared.references.SimpleTree.{SimpleTree}
use Rattle.mz_justified.specs.Justified.{Justified, Put}
use Rattle.mz_justified.specs.declared.proof_fault.ProofRefusal.TheVariants.{ThesisLeft}
use Rattle.mz_walk.specs.Walked.{state, Made, Refused}
use Rattle.mz_walk.specs.Walk.{is_proved, Justifies, Proves, GoesAll}
use Rattle.mz_performing.specs.Blocks.{restored}
use Rattle.mz_context.specs.Grown.{Grew}
use Rattle.mz_proof.proofs.GrowLemmas.{grows_more, grows_into_proof, restored-grown, goes_all_grow}

-- by references
pub told_simply : {X : Type 0} (e : Environment) (at : Extent) (c : Context) (first behind : Place) (linked : Bool) (tree : JustData) (t : SimpleTree) (x : Sentence) (l m : Left) (os ps : List Obligation) (y : Result X ProofFault) → tree ≡ SimpleJust t →
    OnMade y (Put (λ o. Justified e at c first linked behind t x.closed l o m) os ps) → OnMade y (Brings (Justifies e at c first linked behind tree x l) m os ps)
told_simply {X} e at c first behind linked tree t x l m os ps y et h =
    let P : Result X ProofRefusal → Type 0 = Put (λ o. Justified e at c first linked behind t x.closed l o m) os ps in
    let R : Result X ProofRefusal → Type 0 = Brings (Justifies e at c first linked behind (SimpleJust t) x l) m os ps in
    subst (λ z. OnMade y (Brings (Justifies e at c first linked behind z x l) m os ps)) (sym et) (on_made P R y h
    (λ w k. record { made = k.obligation ∷ []; is_made = wa.simply c first behind linked t x l m (Ok k.obligation) k.is_owed; are_last = k.is_last })
    (λ r k. wa.simply c first behind linked t x l m (Err r) k))

-- by a proof
pub told_not_proved : {X : Type 0} (Y : Type 0) (e : Environment) (at : Extent) (c d : Context) (first behind p end : Place) (linked : Bool) (tree : JustData) (ds : StepList) (x : Sentence) (l m n : Left) (os ps qs rs : List Obligation) (y : Result X ProofFault) (f : ProofFault) → tree ≡ ProofJust p ds end →
    d ≡ at_start_of_proof (with_variables c x.variables) x.inner → OnMade y (Brings (Proves e at d ds end l) m os ps) → y ≡ Err f → OnMade {X = Y} (Err f) (Brings (Justifies e at c first linked behind tree x l) n qs rs)
told_not_proved {X} Y e at c d first behind p end linked tree ds x l m n os ps qs rs y f et ed h ey =
    let P : Result X ProofRefusal → Type 0 = Brings (Proves e at (at_start_of_proof (with_variables c x.variables) x.inner) ds end l) m os ps in
    let Q : Result Y ProofRefusal → Type 0 = Brings (Justifies e at c first linked behind (ProofJust p ds end) x l) n qs rs in
    subst (λ z. OnMade {X = Y} (Err f) (Brings (Justifies e at c first linked behind z x l) n qs rs)) (sym et)
    (on_err P Q y f ey (subst (λ z. OnMade y (Brings (Proves e at z ds end l) m os ps)) ed h) (λ r k. wa.by_proof c first behind p end linked ds x l (Refused r) k))

pub told_by_proof : {X : Type 0} (e : Environment) (at : Extent) (c d : Context) (first behind p end : Place) (linked : Bool) (tree : JustData) (ds : StepList) (x : Sentence) (l m : Left) (os ps : List Obligation) (y : Result X ProofFault) (z : X) → tree ≡ ProofJust p ds end →
    d ≡ at_start_of_proof (with_variables c x.variables) x.inner → OnMade y (Brings (Proves e at d ds end l) m os ps) → y ≡ Ok z → IsBrought (λ qs. Justifies e at c first linked behind tree x l (Made qs m)) os ps
told_by_proof {X} e at c d first behind p end linked tree ds x l m os ps y z et ed h ey =
    let P : Result X ProofRefusal → Type 0 = Brings (Proves e at (at_start_of_proof (with_variables c x.variables) x.inner) ds end l) m os ps in
    let b : IsBrought (λ qs. Proves e at (at_start_of_proof (with_variables c x.variables) x.inner) ds end l (Made qs m)) os ps = on_ok P y z ey (subst (λ w. OnMade y (Brings (Proves e at w ds end l) m os ps)) ed h) in
    record { made = b.made; is_made = subst (λ w. Justifies e at c first linked behind w x l (Made b.made m)) (sym et) (wa.by_proof c first behind p end linked ds x l (Made b.made m) b.is_made); are_last = b.are_last }

pub made_so : {X E P : Type 0} (y : Result X E) (z : X) → y ≡ Ok z → OnOk y P → P
made_so {X} {E} {P} y z e h = subst (λ w. OnOk w P) e h

pub told_back : {X : Type 0} (c d f g : Context) (x : Sentence) (o : Outside) (y : Result X ProofFault) (z : X) → d ≡ at_start_of_proof (with_variables c x.variables) x.inner → o ≡ outside_of c → OnOk y (Grew d f) → y ≡ Ok z → g ≡ restored f o → g ≡ c
told_back c d f g x o y z ed eo h ey eg =
    let into : Grew c d = subst (Grew c) (sym ed) (grows_into_proof c x.variables x.inner) in
    eg ∙ (ap (restored f) eo ∙ restored-grown c f (grows_more c d f into (made_so y z ey h)))

-- proofs
pub told_stopped : {X : Type 0} (Y : Type 0) (e : Environment) (at : Extent) (c d : Context) (b f : Block) (ds : StepList) (end : Place) (l m n : Left) (os ps qs rs : List Obligation) (y : Result X ProofFault) (g : ProofFault) → b ≡ Proof →
    OnMade y (Brings (GoesAll e at (state c b l) ds) (state d f m) os ps) → y ≡ Err g → OnMade {X = Y} (Err g) (Brings (Proves e at c ds end l) n qs rs)
told_stopped {X} Y e at c d b f ds end l m n os ps qs rs y g eb h ey =
    let P : Result X ProofRefusal → Type 0 = Brings (GoesAll e at (state c Proof l) ds) (state d f m) os ps in
    let Q : Result Y ProofRefusal → Type 0 = Brings (Proves e at c ds end l) n qs rs in
    on_err P Q y g ey (subst (λ z. OnMade y (Brings (GoesAll e at (state c z l) ds) (state d f m) os ps)) eb h) (λ r k. wa.proof_stopped c ds end l r k)

pub told_left : {X : Type 0} (e : Environment) (at : Extent) (c d : Context) (b f : Block) (ds : StepList) (end : Place) (l m : Left) (os ps : List Obligation) (y : Result X ProofFault) (z : X) (k : Bool) → b ≡ Proof →
    OnMade y (Brings (GoesAll e at (state c b l) ds) (state d f m) os ps) → y ≡ Ok z → k ≡ is_proved d.thesis → k ≡ false → Proves e at c ds end l (Refused (ThesisLeft end))
told_left {X} e at c d b f ds end l m os ps y z k eb h ey ek e0 =
    let P : Result X ProofRefusal → Type 0 = Brings (GoesAll e at (state c Proof l) ds) (state d f m) os ps in
    let g : IsBrought (λ qs. GoesAll e at (state c Proof l) ds (Made qs (state d f m))) os ps = on_ok P y z ey (subst (λ w. OnMade y (Brings (GoesAll e at (state c w l) ds) (state d f m) os ps)) eb h) in
    wa.thesis_left c ds end l g.made (state d f m) g.is_made (sym ek ∙ e0)

pub told_proved : {X : Type 0} (e : Environment) (at : Extent) (c d : Context) (b f : Block) (ds : StepList) (end : Place) (l m : Left) (os ps : List Obligation) (y : Result X ProofFault) (z : X) (k : Bool) → b ≡ Proof →
    OnMade y (Brings (GoesAll e at (state c b l) ds) (state d f m) os ps) → y ≡ Ok z → k ≡ is_proved d.thesis → k ≡ true → IsBrought (λ qs. Proves e at c ds end l (Made qs m)) os ps
told_proved {X} e at c d b f ds end l m os ps y z k eb h ey ek e1 =
    let P : Result X ProofRefusal → Type 0 = Brings (GoesAll e at (state c Proof l) ds) (state d f m) os ps in
    let g : IsBrought (λ qs. GoesAll e at (state c Proof l) ds (Made qs (state d f m))) os ps = on_ok P y z ey (subst (λ w. OnMade y (Brings (GoesAll e at (state c w l) ds) (state d f m) os ps)) eb h) in
    record { made = g.made; is_made = wa.proved c ds end l g.made (state d f m) g.is_made (sym ek ∙ e1); are_last = g.are_last }

pub told_grown : {X : Type 0} (e : Environment) (at : Extent) (c d : Context) (b f : Block) (ds : StepList) (l m : Left) (os ps : List Obligation) (y : Result X ProofFault) (z : X) → OnMade y (Brings (GoesAll e at (state c b l) ds) (state d f m) os ps) → y ≡ Ok z → Grew c d
told_grown {X} e at c d b f ds l m os ps y z h ey =
    let P : Result X ProofRefusal → Type 0 = Brings (GoesAll e at (state c b l) ds) (state d f m) os ps in
    let g : IsBrought (λ qs. GoesAll e at (state c b l) ds (Made qs (state d f m))) os ps = on_ok P y z ey h in
    goes_all_grow e at (state c b l) ds (Made g.made (state d f m)) g.is_made
