-- What the code of `reconsider` tells.
use Rattle.std.proofs.Common.{◌≡◌, ℕ, List, [], ◌∷◌, ◌++◌, length, map, Bool, true, false, refl, sym, ap, ◌∙◌, subst, Option, Some, None}
use Rattle.std.specs.Prelude.{Result, Ok, Err, is_some}
use Rattle.std.proofs.lemmas.List.{append-nil}
use Rattle.mz_base.specs.declared.place.Place.{Place}
use Rattle.mz_core.specs.Statement.{Statement}
use Rattle.mz_core.specs.TypeStatements.{is_of_type}
use Rattle.mz_core.specs.declared.outcome.Left.{Left}
use Rattle.mz_context.specs.declared.context.Context.{Context}
use Rattle.mz_environment.specs.declared.environment.Environment.{Environment}
use Rattle.mz_names.specs.declared.refusal.Refusal.{Refusal}
use Rattle.mz_names.specs.declared.refusal.Refusal.TheVariants.{TooLarge}
use Rattle.mz_sizes.specs.Sizes.{statement_keeps}
use Rattle.mz_cited.specs.Cited.{members}
use Rattle.mz_resolve.specs.Answers.{OnRead}
use Rattle.mz_resolve.specs.declared.resolve_fault.ResolveFault.{ResolveFault}
use Rattle.mz_tree_proof.specs.declared.introduction.ReconsiderTree.{ReconsiderTree}
use Rattle.mz_obligations.specs.declared.obligation.Extent.{Extent}
use Rattle.mz_obligations.specs.declared.obligation.Obligation.{Obligation}
use Rattle.mz_parts.specs.Named.{RetypedRead}
use Rattle.mz_steps.specs.declared.block.Block.{Block}
use Rattle.mz_steps.specs.declared.read_step.Definition.{Definition}
use Rattle.mz_steps.specs.declared.read_step.ReadStep.{ReadStep}
use Rattle.mz_steps.specs.declared.read_step.ReadStep.TheVariants as read
use Rattle.mz_justified.specs.Answers.{OnMade}
use Rattle.mz_justified.specs.declared.proof_fault.ProofFault.{ProofFault}
use Rattle.mz_justified.specs.declared.proof_fault.ProofRefusal.{ProofRefusal}
use Rattle.mz_justified.specs.declared.proof_fault.ProofRefusal.TheVariants.{StepNoFit, Resolve}
use Rattle.mz_walk.specs.Walked.{State, state, OneByOne, Walked, Made, Refused}
use Rattle.mz_walk.specs.Within.{all_kept}
use Rattle.mz_walk.specs.Performing.{PerformsAlone, is_linked}
use Rattle.mz_walk.specs.Introductions as it
use Rattle.mz_walk.specs.Introductions.{JustifiesEach, type_owed, types_owed, Retypes, Reconsiders}
use Rattle.mz_walk.specs.Answers.{resolved, reached, IsBrought, Brings}
use Rattle.mz_performing.proofs.AnswerLemmas.{on_err, on_ok, on_made, on_unread, on_read}
use Rattle.mz_performing.proofs.KeptLemmas.{kept_behind, kept_begun, kept_turn, kept_stop, kept_end}

-- that the terms are of the type
pub kept_behind-told_begun : (ds : List Definition) (out : List Statement) → out ≡ [] → kept_behind out (all_kept (map type_owed ds)) ≡ all_kept (map type_owed ds)
kept_behind-told_begun ds out e = kept_begun out (all_kept (map type_owed ds)) e

pub kept_behind-told_turn : (rest others ds : List Definition) (d : Definition) (s : Statement) (out more : List Statement) (b : Bool) → rest ≡ d ∷ others → s ≡ is_of_type d.ty d.term → b ≡ statement_keeps s → b ≡ true → more ≡ out ++ s ∷ [] →
    kept_behind out (all_kept (map type_owed rest)) ≡ all_kept (map type_owed ds) → kept_behind more (all_kept (map type_owed others)) ≡ all_kept (map type_owed ds)
kept_behind-told_turn rest others ds d s out more b er es eb e1 em h = kept_turn type_owed rest others d s out more b (all_kept (map type_owed ds)) er es eb e1 em h

pub told_stop : (rest others ds : List Definition) (d : Definition) (s : Statement) (out : List Statement) (b : Bool) → rest ≡ d ∷ others → s ≡ is_of_type d.ty d.term → b ≡ statement_keeps s → b ≡ false →
    kept_behind out (all_kept (map type_owed rest)) ≡ all_kept (map type_owed ds) → None ≡ types_owed ds
told_stop rest others ds d s out b er es eb e0 h = kept_stop type_owed rest others d s out b (all_kept (map type_owed ds)) er es eb e0 h

pub told_end : (rest ds : List Definition) (out : List Statement) → length rest ≡ 0 → kept_behind out (all_kept (map type_owed rest)) ≡ all_kept (map type_owed ds) → Some out ≡ types_owed ds
told_end rest ds out er h = kept_end type_owed rest out (all_kept (map type_owed ds)) er h

pub ruleset owed_rules = (kept_behind-told_begun, kept_behind-told_turn, told_stop, told_end)

-- as it was read
pub told_too_large : (e : Environment) (at : Extent) (first : Place) (s : State) (t : ReconsiderTree) (ds : List Definition) (o : Option (List Statement)) → o ≡ types_owed ds → o ≡ None → Retypes e at first s t ds (Refused (Resolve (TooLarge first)))
told_too_large e at first s t ds o eo e0 = it.too_large (sym eo ∙ e0)

pub told_unjustified : {Z : Type 0} (Y : Type 0) (e : Environment) (at : Extent) (first : Place) (c : Context) (f : Block) (l m : Left) (t : ReconsiderTree) (ds : List Definition) (o : Option (List Statement)) (ss : List Statement) (k : Bool) (z : Result Z ProofFault) (y : ProofFault) (u : State) (os ps qs : List Obligation) → o ≡ types_owed ds → o ≡ Some ss → k ≡ is_some t.then →
    OnMade z (Brings (λ q. JustifiesEach e at c first k t.semicolon t.simple ss l q) m os ps) → z ≡ Err y → OnMade {X = Y} (Err y) (Brings (λ q. Retypes e at first (state c f l) t ds q) u os qs)
told_unjustified {Z} Y e at first c f l m t ds o ss k z y u os ps qs eo e1 ek j ez =
    let J : Result Z ProofRefusal → Type 0 = Brings (λ q. JustifiesEach e at c first (is_some t.then) t.semicolon t.simple ss l q) m os ps in
    let Q : Result Y ProofRefusal → Type 0 = Brings (λ q. Retypes e at first (state c f l) t ds q) u os qs in
    let at_k : OnMade z J = subst (λ w. OnMade z (Brings (λ q. JustifiesEach e at c first w t.semicolon t.simple ss l q) m os ps)) ek j in
    on_err J Q z y ez at_k (λ r g. it.not_justified ss r (sym eo ∙ e1) g)

pub told_retyped : {Y Z : Type 0} (e : Environment) (at : Extent) (first : Place) (c c' : Context) (f f' : Block) (l m : Left) (t : ReconsiderTree) (ds : List Definition) (o : Option (List Statement)) (ss : List Statement) (k : Bool) (z : Result Z ProofFault) (w : Z) (y : Result Y ProofFault) (rs : List ReadStep) (os ps : List Obligation) → o ≡ types_owed ds → o ≡ Some ss → k ≡ is_some t.then →
    OnMade z (Brings (λ q. JustifiesEach e at c first k t.semicolon t.simple ss l q) m os ps) → z ≡ Ok w → rs ≡ map read.Reconsider ds →
    ((n : Left) → OnMade y (λ q. OneByOne (PerformsAlone e first) (state c f n) rs (reached q (state c' f' n)))) → OnMade y (Brings (λ q. Retypes e at first (state c f l) t ds q) (state c' f' m) os ps)
told_retyped {Y} {Z} e at first c c' f f' l m t ds o ss k z w y rs os ps eo e1 ek j ez er g =
    let J : Result Z ProofRefusal → Type 0 = Brings (λ q. JustifiesEach e at c first (is_some t.then) t.semicolon t.simple ss l q) m os ps in
    let F : Result Y ProofRefusal → Type 0 = λ q. OneByOne (PerformsAlone e first) (state c f m) (map read.Reconsider ds) (reached q (state c' f' m)) in
    let Q : Result Y ProofRefusal → Type 0 = Brings (λ q. Retypes e at first (state c f l) t ds q) (state c' f' m) os ps in
    let at_k : OnMade z J = subst (λ v. OnMade z (Brings (λ q. JustifiesEach e at c first v t.semicolon t.simple ss l q) m os ps)) ek j in
    let brought : IsBrought (λ qs. JustifiesEach e at c first (is_some t.then) t.semicolon t.simple ss l (Made qs m)) os ps = on_ok J z w ez at_k in
    let performed : OnMade y F = subst (λ v. OnMade y (λ q. OneByOne (PerformsAlone e first) (state c f m) v (reached q (state c' f' m)))) er (g m) in
    on_made F Q y performed
    (λ v q. record { made = brought.made; is_made = subst (λ xs. Retypes e at first (state c f l) t ds (Made xs (state c' f' m))) (append-nil brought.made) (it.retyped ss m brought.made (Ok (state c' f' m)) (sym eo ∙ e1) brought.is_made q); are_last = brought.are_last })
    (λ r q. it.retyped ss m brought.made (Err r) (sym eo ∙ e1) brought.is_made q)

pub ruleset retype_rules = (told_too_large, told_unjustified, told_retyped)

-- all of it
pub told_follows_nothing : (e : Environment) (at : Extent) (first : Place) (s : State) (t : ReconsiderTree) (k b : Bool) → k ≡ is_some t.then → b ≡ is_linked k s.context.previous → b ≡ false → Reconsiders e at first s t (Refused (StepNoFit first))
told_follows_nothing e at first s t k b ek eb e0 = it.follows_nothing (ap (λ x. is_linked x s.context.previous) (sym ek) ∙ (sym eb ∙ e0))

pub told_unread : (Y : Type 0) (e : Environment) (at : Extent) (first : Place) (c : Context) (f : Block) (l l' : Left) (t : ReconsiderTree) (k b : Bool) (x : Result (List Definition) ResolveFault) (g : ResolveFault) (y : ProofFault) (u : State) (os ps : List Obligation) → k ≡ is_some t.then → b ≡ is_linked k c.previous → b ≡ true →
    OnRead x (λ o. RetypedRead e c 0 l (members t.retyped) t.ty o l') → x ≡ Err g → y ≡ resolved g → OnMade {X = Y} (Err y) (Brings (λ o. Reconsiders e at first (state c f l) t o) u os ps)
told_unread Y e at first c f l l' t k b x g y u os ps ek eb e1 h ex ey =
    let P : Result (List Definition) Refusal → Type 0 = λ o. RetypedRead e c 0 l (members t.retyped) t.ty o l' in
    let Q : Result Y ProofRefusal → Type 0 = Brings (λ o. Reconsiders e at first (state c f l) t o) u os ps in
    on_unread P Q x g y ex ey h (λ r z. it.not_read r l' (ap (λ w. is_linked w c.previous) (sym ek) ∙ (sym eb ∙ e1)) z)

pub told_reconsidered : {Y : Type 0} (e : Environment) (at : Extent) (first : Place) (c d : Context) (f : Block) (l l' : Left) (t : ReconsiderTree) (k b : Bool) (x : Result (List Definition) ResolveFault) (ds : List Definition) (u : State) (y : Result Y ProofFault) (os ps : List Obligation) → k ≡ is_some t.then → b ≡ is_linked k c.previous → b ≡ true →
    OnRead x (λ o. RetypedRead e c 0 l (members t.retyped) t.ty o l') → x ≡ Ok ds → d ≡ c → OnMade y (Brings (λ o. Retypes e at first (state d f l') t ds o) u os ps) → OnMade y (Brings (λ o. Reconsiders e at first (state c f l) t o) u os ps)
told_reconsidered {Y} e at first c d f l l' t k b x ds u y os ps ek eb e1 h ex ed g =
    let P : Result (List Definition) Refusal → Type 0 = λ o. RetypedRead e c 0 l (members t.retyped) t.ty o l' in
    let F : Result Y ProofRefusal → Type 0 = Brings (λ o. Retypes e at first (state c f l') t ds o) u os ps in
    let Q : Result Y ProofRefusal → Type 0 = Brings (λ o. Reconsiders e at first (state c f l) t o) u os ps in
    let link : is_linked (is_some t.then) c.previous ≡ true = ap (λ v. is_linked v c.previous) (sym ek) ∙ (sym eb ∙ e1) in
    let at_c : OnMade y F = subst (λ v. OnMade y (Brings (λ o. Retypes e at first (state v f l') t ds o) u os ps)) ed g in
    on_made F Q y at_c (λ v q. record { made = q.made; is_made = it.reconsidered ds l' (Made q.made u) link (on_read P x ds ex h) q.is_made; are_last = q.are_last })
    (λ r q. it.reconsidered ds l' (Refused r) link (on_read P x ds ex h) q)

pub ruleset reconsider_rules = (told_follows_nothing, told_unread, told_reconsidered)
