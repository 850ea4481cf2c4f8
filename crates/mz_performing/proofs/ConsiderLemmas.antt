-- What the code of `consider` tells.
use Rattle.std.proofs.Common.{◌≡◌, ℕ, List, [], ◌∷◌, ◌++◌, Bool, true, false, refl, sym, ap, ◌∙◌, subst, Option, Some, None}
use Rattle.std.specs.Prelude.{Result, Ok, Err, is_some}
use Rattle.mz_base.specs.declared.place.Place.{Place}
use Rattle.mz_core.specs.Statement.{Statement}
use Rattle.mz_core.specs.declared.outcome.Left.{Left}
use Rattle.mz_context.specs.Context.{next}
use Rattle.mz_context.specs.declared.context.Context.{Context}
use Rattle.mz_environment.specs.declared.environment.Environment.{Environment}
use Rattle.mz_names.specs.Closing.{there_are}
use Rattle.mz_names.specs.declared.refusal.Refusal.{Refusal}
use Rattle.mz_resolve.specs.Answers.{OnRead}
use Rattle.mz_resolve.specs.declared.resolve_fault.ResolveFault.{ResolveFault}
use Rattle.mz_tree_proof.specs.declared.introduction.ConsiderTree.{ConsiderTree}
use Rattle.mz_tree_proof.specs.declared.references.SimpleTree.{SimpleTree}
use Rattle.mz_obligations.specs.declared.obligation.Extent.{Extent}
use Rattle.mz_obligations.specs.declared.obligation.Obligation.{Obligation}
use Rattle.mz_parts.specs.Described.{DescriptionRead}
use Rattle.mz_parts.specs.declared.described.Description.{Description}
use Rattle.mz_steps.specs.declared.block.Block.{Block}
use Rattle.mz_steps.specs.declared.read_step.ReadStep.TheVariants as read
use Rattle.mz_justified.specs.Answers.{OnMade}
use Rattle.mz_justified.specs.Justified.{Justified, IsPut, Put}
use Rattle.mz_justified.specs.declared.proof_fault.ProofFault.{ProofFault}
use Rattle.mz_justified.specs.declared.proof_fault.ProofRefusal.{ProofRefusal}
use Rattle.mz_justified.specs.declared.proof_fault.ProofRefusal.TheVariants.{StepNoFit, Resolve}
use Rattle.mz_walk.specs.Walked.{State, state, Made, Refused}
use Rattle.mz_walk.specs.Performing.{Performs, is_linked}
use Rattle.mz_walk.specs.Introductions as it
use Rattle.mz_walk.specs.Introductions.{Considers}
use Rattle.mz_walk.specs.Answers.{resolved, reached, IsBrought, Brings}
use Rattle.mz_performing.proofs.AnswerLemmas.{on_err, on_ok, on_made, on_unread, on_read}

-- the existential
pub told_existential : {X : Type 0} (e : Environment) (at : Extent) (c : Context) (first : Place) (linked k : Bool) (place : Place) (t : SimpleTree) (s s' : Statement) (l m : Left) (os ps : List Obligation) (x : Result X ProofFault) → k ≡ linked → s ≡ s' →
    OnMade x (Put (λ o. Justified e at c first k place t s l o m) os ps) → OnMade x (Put (λ o. Justified e at c first linked place t s' l o m) os ps)
told_existential e at c first linked k place t s s' l m os ps x ek es h =
    subst (λ y. OnMade x (Put (λ o. Justified e at c first linked place t y l o m) os ps)) es (subst (λ y. OnMade x (Put (λ o. Justified e at c first y place t s l o m) os ps)) ek h)

pub ruleset existential_rules = (told_existential)

-- all of it
pub told_follows_nothing : (e : Environment) (at : Extent) (first : Place) (s : State) (t : ConsiderTree) (k b : Bool) → k ≡ is_some t.then → b ≡ is_linked k s.context.previous → b ≡ false → Considers e at first s t (Refused (StepNoFit first))
told_follows_nothing e at first s t k b ek eb e0 = it.follows_nothing (ap (λ x. is_linked x s.context.previous) (sym ek) ∙ (sym eb ∙ e0))

pub told_unread : (Y : Type 0) (e : Environment) (at : Extent) (first : Place) (c : Context) (f : Block) (l l' : Left) (t : ConsiderTree) (k b : Bool) (x : Result Description ResolveFault) (g : ResolveFault) (y : ProofFault) (u : State) (os ps : List Obligation) → k ≡ is_some t.then → b ≡ is_linked k c.previous → b ≡ true →
    OnRead x (λ o. DescriptionRead e c 0 l first t.declarations t.such.propositions o l') → x ≡ Err g → y ≡ resolved g → OnMade {X = Y} (Err y) (Brings (λ o. Considers e at first (state c f l) t o) u os ps)
told_unread Y e at first c f l l' t k b x g y u os ps ek eb e1 h ex ey =
    let P : Result Description Refusal → Type 0 = λ o. DescriptionRead e c 0 l first t.declarations t.such.propositions o l' in
    let Q : Result Y ProofRefusal → Type 0 = Brings (λ o. Considers e at first (state c f l) t o) u os ps in
    on_unread P Q x g y ex ey h (λ r z. it.not_read r l' (ap (λ w. is_linked w c.previous) (sym ek) ∙ (sym eb ∙ e1)) z)

pub told_unjustified : {Z : Type 0} (Y : Type 0) (e : Environment) (at : Extent) (first : Place) (c d : Context) (f : Block) (l l' m : Left) (t : ConsiderTree) (k b : Bool) (x : Result Description ResolveFault) (p : Description) (z : Result Z ProofFault) (y : ProofFault) (u : State) (os ps qs : List Obligation) → k ≡ is_some t.then → b ≡ is_linked k c.previous → b ≡ true →
    OnRead x (λ o. DescriptionRead e c 0 l first t.declarations t.such.propositions o l') → x ≡ Ok p → d ≡ c →
    OnMade z (Put (λ o. Justified e at d first (is_some t.then) t.semicolon t.simple (there_are (next d) p.variables p.statement) l' o m) os ps) → z ≡ Err y → OnMade {X = Y} (Err y) (Brings (λ o. Considers e at first (state c f l) t o) u os qs)
told_unjustified {Z} Y e at first c d f l l' m t k b x p z y u os ps qs ek eb e1 h ex ed j ez =
    let P : Result Description Refusal → Type 0 = λ o. DescriptionRead e c 0 l first t.declarations t.such.propositions o l' in
    let J : Result Z ProofRefusal → Type 0 = Put (λ o. Justified e at c first (is_some t.then) t.semicolon t.simple (there_are (next c) p.variables p.statement) l' o m) os ps in
    let Q : Result Y ProofRefusal → Type 0 = Brings (λ o. Considers e at first (state c f l) t o) u os qs in
    let at_c : OnMade z J = subst (λ w. OnMade z (Put (λ o. Justified e at w first (is_some t.then) t.semicolon t.simple (there_are (next w) p.variables p.statement) l' o m) os ps)) ed j in
    on_err J Q z y ez at_c (λ r g. it.not_justified p l' m r (ap (λ w. is_linked w c.previous) (sym ek) ∙ (sym eb ∙ e1)) (on_read P x p ex h) g)

pub told_considered : {Y Z : Type 0} (e : Environment) (at : Extent) (first : Place) (c d c' : Context) (f f' : Block) (l l' m : Left) (t : ConsiderTree) (k b : Bool) (x : Result Description ResolveFault) (p : Description) (z : Result Z ProofFault) (w : Z) (y : Result Y ProofFault) (os ps : List Obligation) → k ≡ is_some t.then → b ≡ is_linked k c.previous → b ≡ true →
    OnRead x (λ o. DescriptionRead e c 0 l first t.declarations t.such.propositions o l') → x ≡ Ok p → d ≡ c →
    OnMade z (Put (λ o. Justified e at d first (is_some t.then) t.semicolon t.simple (there_are (next d) p.variables p.statement) l' o m) os ps) → z ≡ Ok w →
    ((n : Left) → OnMade y (λ o. Performs e first (state d f n) (read.Consider p.variables p.statement) p.propositions (reached o (state c' f' n)))) → OnMade y (Brings (λ o. Considers e at first (state c f l) t o) (state c' f' m) os ps)
told_considered {Y} {Z} e at first c d c' f f' l l' m t k b x p z w y os ps ek eb e1 h ex ed j ez g =
    let P : Result Description Refusal → Type 0 = λ o. DescriptionRead e c 0 l first t.declarations t.such.propositions o l' in
    let J : Result Z ProofRefusal → Type 0 = Put (λ o. Justified e at c first (is_some t.then) t.semicolon t.simple (there_are (next c) p.variables p.statement) l' o m) os ps in
    let F : Result Y ProofRefusal → Type 0 = λ o. Performs e first (state c f m) (read.Consider p.variables p.statement) p.propositions (reached o (state c' f' m)) in
    let Q : Result Y ProofRefusal → Type 0 = Brings (λ o. Considers e at first (state c f l) t o) (state c' f' m) os ps in
    let at_c : OnMade z J = subst (λ v. OnMade z (Put (λ o. Justified e at v first (is_some t.then) t.semicolon t.simple (there_are (next v) p.variables p.statement) l' o m) os ps)) ed j in
    let put : IsPut (λ o. Justified e at c first (is_some t.then) t.semicolon t.simple (there_are (next c) p.variables p.statement) l' (Ok o) m) os ps = on_ok J z w ez at_c in
    let performed : OnMade y F = subst (λ v. OnMade y (λ o. Performs e first (state v f m) (read.Consider p.variables p.statement) p.propositions (reached o (state c' f' m)))) ed (g m) in
    let link : is_linked (is_some t.then) c.previous ≡ true = ap (λ v. is_linked v c.previous) (sym ek) ∙ (sym eb ∙ e1) in
    on_made F Q y performed (λ v q. record { made = put.obligation ∷ []; is_made = it.considered p l' m put.obligation (Ok (state c' f' m)) link (on_read P x p ex h) put.is_owed q; are_last = put.is_last })
    (λ r q. it.considered p l' m put.obligation (Err r) link (on_read P x p ex h) put.is_owed q)

pub ruleset consider_rules = (told_follows_nothing, told_unread, told_unjustified, told_considered)
