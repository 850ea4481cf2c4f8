-- What the code of `deffunc` and `defpred` tells.
use Rattle.std.proofs.Common.{◌≡◌, sym, ap, ◌∙◌, subst}
use Rattle.std.specs.Prelude.{Result, Ok, Err, OnOk}
use Rattle.mz_core.specs.declared.outcome.Left.{Left}
use Rattle.mz_context.specs.declared.context.Context.{Context}
use Rattle.mz_context.specs.declared.private.PrivateFunctor.{PrivateFunctor}
use Rattle.mz_context.specs.declared.private.PrivatePredicate.{PrivatePredicate}
use Rattle.mz_environment.specs.declared.environment.Environment.{Environment}
use Rattle.mz_names.specs.declared.refusal.Refusal.{Refusal}
use Rattle.mz_resolve.specs.Answers.{OnRead}
use Rattle.mz_resolve.specs.declared.resolve_fault.ResolveFault.{ResolveFault}
use Rattle.mz_tree_proof.specs.declared.introduction.DeffuncTree.{DeffuncTree}
use Rattle.mz_tree_proof.specs.declared.introduction.DefpredTree.{DefpredTree}
use Rattle.mz_private.specs.Private.{FunctorRead, PredicateRead, with_functor, with_predicate}
use Rattle.mz_steps.specs.declared.block.Block.{Block}
use Rattle.mz_justified.specs.Answers.{OnMade}
use Rattle.mz_justified.specs.declared.proof_fault.ProofFault.{ProofFault}
use Rattle.mz_justified.specs.declared.proof_fault.ProofRefusal.{ProofRefusal}
use Rattle.mz_walk.specs.Walked.{State, state}
use Rattle.mz_walk.specs.Introductions as it
use Rattle.mz_walk.specs.Introductions.{DefinesFunctor, DefinesPredicate}
use Rattle.mz_walk.specs.Answers.{resolved, reached}
use Rattle.mz_performing.proofs.AnswerLemmas.{on_unread, on_read}

-- what is answered where something was read
answered : {X : Type 0} (P : X → Type 0) (q : Result X ResolveFault) (x : X) → q ≡ Ok x → OnOk q (P x) → P x
answered P q x e h = subst (λ z. OnOk z (P x)) e h

-- `deffunc`
pub told_functor_unread : (Y : Type 0) (e : Environment) (c : Context) (b : Block) (l m : Left) (t : DeffuncTree) (q : Result PrivateFunctor ResolveFault) (f : ResolveFault) (g : ProofFault) (u : State) →
    OnRead q (λ o. FunctorRead e c 0 l t o m) → q ≡ Err f → g ≡ resolved f → OnMade {X = Y} (Err g) (λ o. DefinesFunctor e (state c b l) t (reached o u))
told_functor_unread Y e c b l m t q f g u h eq eg =
    let P : Result PrivateFunctor Refusal → Type 0 = λ o. FunctorRead e c 0 l t o m in
    let Q : Result Y ProofRefusal → Type 0 = λ o. DefinesFunctor e (state c b l) t (reached o u) in
    on_unread P Q q f g eq eg h (λ r k. it.not_read r m k)

pub told_functor_defined : (e : Environment) (c d d' : Context) (b : Block) (l m : Left) (t : DeffuncTree) (q : Result PrivateFunctor ResolveFault) (f : PrivateFunctor) →
    OnRead q (λ o. FunctorRead e c 0 l t o m) → q ≡ Ok f → OnOk q (d ≡ c) → d' ≡ with_functor d f → DefinesFunctor e (state c b l) t (Ok (state d' b m))
told_functor_defined e c d d' b l m t q f h eq ed k =
    let P : Result PrivateFunctor Refusal → Type 0 = λ o. FunctorRead e c 0 l t o m in
    let is : d' ≡ with_functor c f = k ∙ ap (λ x. with_functor x f) (answered (λ x. d ≡ c) q f eq ed) in
    subst (λ x. DefinesFunctor e (state c b l) t (Ok (state x b m))) (sym is) (it.defined f m (on_read P q f eq h))

pub ruleset functor_rules = (told_functor_unread, told_functor_defined)

-- `defpred`
pub told_predicate_unread : (Y : Type 0) (e : Environment) (c : Context) (b : Block) (l m : Left) (t : DefpredTree) (q : Result PrivatePredicate ResolveFault) (f : ResolveFault) (g : ProofFault) (u : State) →
    OnRead q (λ o. PredicateRead e c 0 l t o m) → q ≡ Err f → g ≡ resolved f → OnMade {X = Y} (Err g) (λ o. DefinesPredicate e (state c b l) t (reached o u))
told_predicate_unread Y e c b l m t q f g u h eq eg =
    let P : Result PrivatePredicate Refusal → Type 0 = λ o. PredicateRead e c 0 l t o m in
    let Q : Result Y ProofRefusal → Type 0 = λ o. DefinesPredicate e (state c b l) t (reached o u) in
    on_unread P Q q f g eq eg h (λ r k. it.not_read r m k)

pub told_predicate_defined : (e : Environment) (c d d' : Context) (b : Block) (l m : Left) (t : DefpredTree) (q : Result PrivatePredicate ResolveFault) (p : PrivatePredicate) →
    OnRead q (λ o. PredicateRead e c 0 l t o m) → q ≡ Ok p → OnOk q (d ≡ c) → d' ≡ with_predicate d p → DefinesPredicate e (state c b l) t (Ok (state d' b m))
told_predicate_defined e c d d' b l m t q p h eq ed k =
    let P : Result PrivatePredicate Refusal → Type 0 = λ o. PredicateRead e c 0 l t o m in
    let is : d' ≡ with_predicate c p = k ∙ ap (λ x. with_predicate x p) (answered (λ x. d ≡ c) q p eq ed) in
    subst (λ x. DefinesPredicate e (state c b l) t (Ok (state x b m))) (sym is) (it.defined p m (on_read P q p eq h))

pub ruleset predicate_rules = (told_predicate_unread, told_predicate_defined)
