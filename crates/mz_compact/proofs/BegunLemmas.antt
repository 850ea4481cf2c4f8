-- What the code of compact statements that fit tells.
use Rattle.std.proofs.Common.{◌≡◌, ℕ, List, [], ◌∷◌, Bool, true, false, sym, ap, ◌∙◌, subst, Some}
use Rattle.std.specs.Prelude.{Result, Ok, Err}
use Rattle.mz_base.specs.declared.place.Place.{Place}
use Rattle.mz_core.specs.declared.outcome.Left.{Left}
use Rattle.mz_context.specs.declared.context.Context.{Context}
use Rattle.mz_context.specs.declared.labelled.LabelledStatement.{LabelledStatement}
use Rattle.mz_environment.specs.declared.environment.Environment.{Environment}
use Rattle.mz_names.specs.declared.refusal.Refusal.TheVariants.{TooLarge}
use Rattle.mz_types.specs.Known.{typing}
use Rattle.mz_steps.specs.Changes.{block_after, context_after}
use Rattle.mz_steps.specs.Effects.{Acts}
use Rattle.mz_steps.specs.declared.block.Block.{Block}
use Rattle.mz_steps.specs.declared.block.Effect.{Effect}
use Rattle.mz_steps.specs.declared.read_step.ReadStep.{ReadStep}
use Rattle.mz_tree_proof.specs.Reasoning.{JustData, StatedCompact}
use Rattle.mz_tree_proof.specs.declared.equality_step.EqualityStepTree.{EqualityStepTree}
use Rattle.mz_tree_proof.specs.declared.propositions.PropositionTree.{PropositionTree}
use Rattle.mz_obligations.specs.declared.obligation.Extent.{Extent}
use Rattle.mz_justified.specs.Answers.{OnMade}
use Rattle.mz_justified.specs.declared.proof_fault.ProofFault.{ProofFault}
use Rattle.mz_justified.specs.declared.proof_fault.ProofFault.TheVariants.{Refused as FaultRefused, Memory}
use Rattle.mz_justified.specs.declared.proof_fault.ProofRefusal.{ProofRefusal}
use Rattle.mz_justified.specs.declared.proof_fault.ProofRefusal.TheVariants.{StepNoFit, Resolve}
use Rattle.mz_walk.specs.declared.compact.Compact.{Compact}
use Rattle.mz_walk.specs.Walked.{state, Refused}
use Rattle.mz_walk.specs.Performing as pf
use Rattle.mz_walk.specs.Performing.{Performs, keeps, is_linked}
use Rattle.mz_walk.specs.Compact.{CompactRead, compact_stated, sides_keep}
use Rattle.mz_walk.specs.Walk as wa
use Rattle.mz_walk.specs.Walk.{step_of, only_nodes, nodes_alone, Says}
use Rattle.mz_walk.specs.Ahead.{KeepsAhead}
use Rattle.mz_walk.specs.Earlier as ea
use Rattle.mz_performing.specs.declared.begun.Begun.{Begun}
use Rattle.mz_performing.specs.Begun as bg
use Rattle.mz_performing.specs.Begun.{Fits, IsFit, FitsCompact, IsUnfit, FitsKept, Begins, ToldAs}
use Rattle.mz_performing.proofs.AnswerLemmas.{on_err, on_ok, on_made}

-- whether it fits
pub told_unfit : (e : Environment) (c : Context) (b : Block) (first : Place) (concluded : Bool) (p : PropositionTree) (y : Compact) (r : ReadStep) (x : Result Effect ProofFault) (f : ProofFault) → r ≡ step_of concluded y.said.states → OnMade x (Fits e first c b r) → x ≡ Err f →
    OnMade {X = Begun} (Err f) (FitsCompact e c b first concluded p y)
told_unfit e c b first concluded p y r x f er h ex =
    let P : Result Effect ProofRefusal → Type 0 = Fits e first c b (step_of concluded y.said.states) in
    on_err P (FitsCompact e c b first concluded p y) x f ex (subst (λ z. OnMade x (Fits e first c b z)) er h) (λ q k. k)

pub told_fits : (e : Environment) (c : Context) (b : Block) (first : Place) (concluded : Bool) (p : PropositionTree) (y z : Compact) (r s : ReadStep) (x : Result Effect ProofFault) (a : Effect) (ps : List LabelledStatement) → r ≡ step_of concluded y.said.states → s ≡ r → OnMade x (Fits e first c b r) → x ≡ Ok a → ps ≡ compact_stated p y ∷ [] → z ≡ y →
    IsFit e c b concluded p y (record { compact = z; step = s; effect = a; stated = ps })
told_fits e c b first concluded p y z r s x a ps er es h ex eps ez =
    let fits : Acts (typing e c) e.steps b c s (Some a) × (keeps a ≡ true) = on_ok (Fits e first c b s) x a ex (subst (λ w. OnMade x (Fits e first c b w)) (sym es) h) in
    record { compact = ez; step = es ∙ er; states = eps; acts = fits.0; within = fits.1 }

pub ruleset fitting_rules = (told_unfit, told_fits)

-- whether the instances keep the limits
pub told_kept : (e : Environment) (c : Context) (b : Block) (first : Place) (concluded : Bool) (p : PropositionTree) (ks : List EqualityStepTree) (y : Compact) (q : Result Begun ProofFault) (x : Begun) (k : Bool) → OnMade q (FitsCompact e c b first concluded p y) → q ≡ Ok x → k ≡ sides_keep e c ks y.said.further → k ≡ true →
    IsFit e c b concluded p y x × (sides_keep e c ks y.said.further ≡ true)
told_kept e c b first concluded p ks y q x k h eq ek e1 = (on_ok (FitsCompact e c b first concluded p y) q x eq h, sym ek ∙ e1)

pub told_large : (e : Environment) (c : Context) (b : Block) (first : Place) (concluded : Bool) (p : PropositionTree) (ks : List EqualityStepTree) (y : Compact) (q : Result Begun ProofFault) (x : Begun) (k : Bool) → OnMade q (FitsCompact e c b first concluded p y) → q ≡ Ok x → k ≡ sides_keep e c ks y.said.further → k ≡ false →
    IsUnfit e c b first concluded p ks y (Resolve (TooLarge first))
told_large e c b first concluded p ks y q x k h eq ek e0 = bg.instance_too_large x (on_ok (FitsCompact e c b first concluded p y) q x eq h) (sym ek ∙ e0)

pub told_not_fit : (e : Environment) (c : Context) (b : Block) (first : Place) (concluded : Bool) (p : PropositionTree) (ks : List EqualityStepTree) (y : Compact) (q : Result Begun ProofFault) (f : ProofFault) → OnMade q (FitsCompact e c b first concluded p y) → q ≡ Err f → OnMade {X = Begun} (Err f) (FitsKept e c b first concluded p ks y)
told_not_fit e c b first concluded p ks y q f h eq =
    let P : Result Begun ProofRefusal → Type 0 = FitsCompact e c b first concluded p y in
    let Q : Result Begun ProofRefusal → Type 0 = FitsKept e c b first concluded p ks y in
    on_err P Q q f eq h (λ r k. bg.unfit r k)

pub ruleset kept_rules = (told_kept, told_large, told_not_fit)

-- the beginning
pub told_follows_nothing : (e : Environment) (c : Context) (b : Block) (first : Place) (linked concluded : Bool) (p : PropositionTree) (j : JustData) (ks : List EqualityStepTree) (semicolon : Place) (l m : Left) (k : Bool) → k ≡ is_linked linked c.previous → k ≡ false → Begins e c b first linked concluded p j ks semicolon l m (Err (StepNoFit first))
told_follows_nothing e c b first linked concluded p j ks semicolon l m k ek e0 at = wa.follows_nothing (state c b l) first linked concluded (StatedCompact p j ks semicolon) (sym ek ∙ e0)

pub told_unread : (e : Environment) (c d d' : Context) (b : Block) (first : Place) (linked concluded : Bool) (p : PropositionTree) (j : JustData) (ks : List EqualityStepTree) (semicolon : Place) (l m : Left) (k : Bool) (i n : ℕ) (kept : Bool) (x : Result Compact ProofFault) (f g : ProofFault) → k ≡ is_linked linked c.previous → k ≡ true →
    OnMade x (λ o. CompactRead e c first l p ks o m) → x ≡ Err f → d ≡ c → i ≡ l.nodes → n ≡ l.obligations → KeepsAhead e d linked (only_nodes i) p j ks kept → d' ≡ d → ToldAs (ea.told_unread e d' first semicolon n j ks kept) f g → OnMade {X = Begun} (Err g) (Begins e c b first linked concluded p j ks semicolon l m)
told_unread e c d d' b first linked concluded p j ks semicolon l m k i n kept x f Memory ek e1 h ex ed ei en ahead ed' told = tt
told_unread e c d d' b first linked concluded p j ks semicolon l m k i n kept x f (FaultRefused q) ek e1 h ex ed ei en ahead ed' told =
    let r : ProofRefusal = told.0 in
    let is_read : CompactRead e c first l p ks (Err r) m = subst (λ z. OnMade z (λ o. CompactRead e c first l p ks o m)) (ex ∙ ap Err told.1) h in
    let keeps : KeepsAhead e c linked (nodes_alone l) p j ks kept = subst (λ z. KeepsAhead e c linked (only_nodes z) p j ks kept) ei (subst (λ z. KeepsAhead e z linked (only_nodes i) p j ks kept) ed ahead) in
    let is : q ≡ ea.told_unread e c first semicolon l.obligations j ks kept r = told.2 ∙ (ap (λ z. ea.told_unread e z first semicolon n j ks kept r) (ed' ∙ ed) ∙ ap (λ z. ea.told_unread e c first semicolon z j ks kept r) en) in
    λ at. subst (λ z. Says e at (state c b l) first linked concluded (StatedCompact p j ks semicolon) (Refused z)) (sym is) (wa.not_read (state c b l) first semicolon linked concluded p j ks r m kept (sym ek ∙ e1) is_read keeps)

-- what it does where it fits
performs : (e : Environment) (c : Context) (b : Block) (first : Place) (concluded : Bool) (p : PropositionTree) (y : Compact) (x : Begun) (m : Left) → IsFit e c b concluded p y x →
    Performs e first (state c b m) (step_of concluded y.said.states) (compact_stated p y ∷ []) (Ok (state (context_after c x.step x.effect x.stated) (block_after b x.effect) m))
performs e c b first concluded p y x m g =
    subst (λ r. Performs e first (state c b m) r (compact_stated p y ∷ []) (Ok (state (context_after c x.step x.effect x.stated) (block_after b x.effect) m))) g.step
    (subst (λ qs. Performs e first (state c b m) x.step qs (Ok (state (context_after c x.step x.effect x.stated) (block_after b x.effect) m))) g.states (pf.performed x.effect g.acts g.within))

unfit : (e : Environment) (c : Context) (b : Block) (first : Place) (linked concluded : Bool) (p : PropositionTree) (j : JustData) (ks : List EqualityStepTree) (semicolon : Place) (l m : Left) (y : Compact) (r : ProofRefusal) → is_linked linked c.previous ≡ true → CompactRead e c first l p ks (Ok y) m →
    IsUnfit e c b first concluded p ks y r → (at : Extent) → Says e at (state c b l) first linked concluded (StatedCompact p j ks semicolon) (Refused r)
unfit e c b first linked concluded p j ks semicolon l m y r follows is_read (bg.unfit _ q) at = wa.unfit (state c b l) first semicolon linked concluded p j ks y m r follows is_read (q m (compact_stated p y ∷ []))
unfit e c b first linked concluded p j ks semicolon l m y r follows is_read (bg.instance_too_large x g n) at =
    wa.instance_too_large (state c b l) (state (context_after c x.step x.effect x.stated) (block_after b x.effect) m) first semicolon linked concluded p j ks y m follows is_read (performs e c b first concluded p y x m g) n

pub told_begun : (e : Environment) (c d : Context) (b : Block) (first : Place) (linked concluded : Bool) (p : PropositionTree) (j : JustData) (ks : List EqualityStepTree) (semicolon : Place) (l m : Left) (k : Bool) (x : Result Compact ProofFault) (y : Compact) (z : Result Begun ProofFault) → k ≡ is_linked linked c.previous → k ≡ true →
    OnMade x (λ o. CompactRead e c first l p ks o m) → x ≡ Ok y → d ≡ c → OnMade z (FitsKept e d b first concluded p ks y) → OnMade z (Begins e c b first linked concluded p j ks semicolon l m)
told_begun e c d b first linked concluded p j ks semicolon l m k x y z ek e1 h ex ed g =
    let P : Result Compact ProofRefusal → Type 0 = λ o. CompactRead e c first l p ks o m in
    let follows : is_linked linked c.previous ≡ true = sym ek ∙ e1 in
    let is_read : CompactRead e c first l p ks (Ok y) m = on_ok P x y ex h in
    on_made (FitsKept e c b first concluded p ks y) (Begins e c b first linked concluded p j ks semicolon l m) z (subst (λ w. OnMade z (FitsKept e w b first concluded p ks y)) ed g)
    (λ v q. record {
      follows = follows;
      is_read = subst (λ w. CompactRead e c first l p ks (Ok w) m) (sym q.0.compact) is_read;
      step = q.0.step ∙ ap (λ w. step_of concluded w.said.states) (sym q.0.compact);
      states = q.0.states ∙ ap (λ w. compact_stated p w ∷ []) (sym q.0.compact);
      acts = q.0.acts;
      within = q.0.within;
      instances = ap (λ w. sides_keep e c ks w.said.further) q.0.compact ∙ q.1;
    })
    (λ r q. unfit e c b first linked concluded p j ks semicolon l m y r follows is_read q)

pub ruleset begin_rules = (told_follows_nothing, told_unread, told_begun)
