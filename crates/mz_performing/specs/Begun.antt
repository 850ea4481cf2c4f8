-- Steps that have begun: they were read and fit, and have still to be justified.
use Rattle.std.specs.Prelude.{◌≡◌, ◌++◌, Bool, true, false, List, [], ◌∷◌, Some, Result, Ok, Err}
use Rattle.mz_base.specs.declared.place.Place.{Place}
use Rattle.mz_core.specs.Statement.{Statement}
use Rattle.mz_core.specs.declared.outcome.Left.{Left}
use Rattle.mz_context.specs.declared.context.Context.{Context}
use Rattle.mz_context.specs.declared.labelled.LabelledStatement.{LabelledStatement}
use Rattle.mz_environment.specs.declared.environment.Environment.{Environment}
use Rattle.mz_names.specs.declared.refusal.Refusal.{Refusal}
use Rattle.mz_names.specs.declared.refusal.Refusal.TheVariants.{TooLarge}
use Rattle.mz_types.specs.Known.{typing}
use Rattle.mz_steps.specs.Changes.{with_stated, outside_of}
use Rattle.mz_steps.specs.Effects.{Acts}
use Rattle.mz_steps.specs.declared.block.Block.{Block}
use Rattle.mz_steps.specs.declared.block.Effect.{Effect}
use Rattle.mz_steps.specs.declared.block.Outside.{Outside}
use Rattle.mz_steps.specs.declared.read_step.ReadStep.{ReadStep}
use Rattle.mz_tree_proof.specs.Reasoning.{JustData, StatedCompact}
use Rattle.mz_tree_proof.specs.declared.equality_step.EqualityStepTree.{EqualityStepTree}
use Rattle.mz_tree_proof.specs.declared.propositions.HypothesesTree.{HypothesesTree}
use Rattle.mz_tree_proof.specs.declared.propositions.PropositionTree.{PropositionTree}
use Rattle.mz_obligations.specs.declared.obligation.Extent.{Extent}
use Rattle.mz_parts.specs.Joined.{joined_within}
use Rattle.mz_parts.specs.Propositions.{PropositionsRead, hypotheses_in}
use Rattle.mz_justified.specs.declared.proof_fault.ProofFault.{ProofFault}
use Rattle.mz_justified.specs.declared.proof_fault.ProofFault.TheVariants.{Refused as FaultRefused, Memory}
use Rattle.mz_justified.specs.declared.proof_fault.ProofRefusal.{ProofRefusal}
use Rattle.mz_justified.specs.declared.proof_fault.ProofRefusal.TheVariants.{Resolve}
use Rattle.mz_walk.specs.declared.compact.Compact.{Compact}
use Rattle.mz_walk.specs.Walked.{state, Walked, Refused}
use Rattle.mz_walk.specs.Performing.{Performs, keeps, is_linked}
use Rattle.mz_walk.specs.Compact.{CompactRead, compact_stated, sides_keep}
use Rattle.mz_walk.specs.Walk.{step_of, Says}
use Rattle.mz_performing.specs.declared.begun.Begun.{Begun}

-- a step fits: it does this in its block, within the limits; or it is refused, whatever it states and whatever is left
abbrev pub Fits : Environment → Place → Context → Block → ReadStep → Result Effect ProofRefusal → Type 0
Fits e first c b r (Ok a) = Acts (typing e c) e.steps b c r (Some a) × (keeps a ≡ true)
Fits e first c b r (Err x) = (l : Left) (ps : List LabelledStatement) → Performs e first (state c b l) r ps (Err x)

-- a compact statement that was read fits, or it doesn't
pub record IsFit (e : Environment) (c : Context) (b : Block) (concluded : Bool) (p : PropositionTree) (y : Compact) (x : Begun) : Type 0 where
  pub compact : x.compact ≡ y
  pub step : x.step ≡ step_of concluded y.said.states
  pub states : x.stated ≡ compact_stated p y ∷ []
  pub acts : Acts (typing e c) e.steps b c x.step (Some x.effect)
  pub within : keeps x.effect ≡ true

abbrev pub FitsCompact : Environment → Context → Block → Place → Bool → PropositionTree → Compact → Result Begun ProofRefusal → Type 0
FitsCompact e c b first concluded p y (Ok x) = IsFit e c b concluded p y x
FitsCompact e c b first concluded p y (Err r) = (l : Left) (ps : List LabelledStatement) → Performs e first (state c b l) (step_of concluded y.said.states) ps (Err r)

-- where it fits, the instances that the justifications of its further sides make keep the limits; or it is refused
pub data IsUnfit (e : Environment) (c : Context) (b : Block) (first : Place) (concluded : Bool) (p : PropositionTree) (ks : List EqualityStepTree) (y : Compact) : ProofRefusal → Type 0 where
  unfit : (r : ProofRefusal) → FitsCompact e c b first concluded p y (Err r) → IsUnfit e c b first concluded p ks y r
  instance_too_large : (x : Begun) → IsFit e c b concluded p y x → sides_keep e c ks y.said.further ≡ false → IsUnfit e c b first concluded p ks y (Resolve (TooLarge first))

abbrev pub FitsKept : Environment → Context → Block → Place → Bool → PropositionTree → List EqualityStepTree → Compact → Result Begun ProofRefusal → Type 0
FitsKept e c b first concluded p ks y (Ok x) = IsFit e c b concluded p y x × (sides_keep e c ks y.said.further ≡ true)
FitsKept e c b first concluded p ks y (Err r) = IsUnfit e c b first concluded p ks y r

-- a compact statement that was read and fits, and whose instances keep the limits
pub record IsBegun (e : Environment) (c : Context) (b : Block) (first : Place) (linked concluded : Bool) (p : PropositionTree) (ks : List EqualityStepTree) (l m : Left) (x : Begun) : Type 0 where
  pub follows : is_linked linked c.previous ≡ true
  pub is_read : CompactRead e c first l p ks (Ok x.compact) m
  pub step : x.step ≡ step_of concluded x.compact.said.states
  pub states : x.stated ≡ compact_stated p x.compact ∷ []
  pub acts : Acts (typing e c) e.steps b c x.step (Some x.effect)
  pub within : keeps x.effect ≡ true
  pub instances : sides_keep e c ks x.compact.said.further ≡ true

-- or it is refused
abbrev pub Begins : Environment → Context → Block → Place → Bool → Bool → PropositionTree → JustData → List EqualityStepTree → Place → Left → Left → Result Begun ProofRefusal → Type 0
Begins e c b first linked concluded p j ks semicolon l m (Ok x) = IsBegun e c b first linked concluded p ks l m x
Begins e c b first linked concluded p j ks semicolon l m (Err r) = (at : Extent) → Says e at (state c b l) first linked concluded (StatedCompact p j ks semicolon) (Refused r)

-- the fault that is told in place of another, where a refusal is told as another one; want of memory stays, and may come
abbrev pub ToldAs : (ProofRefusal → ProofRefusal) → ProofFault → ProofFault → Type 0
ToldAs told f Memory = Unit {0}
ToldAs told f (FaultRefused q) = (r : ProofRefusal) × (f ≡ FaultRefused r) × (q ≡ told r)

-- what a case supposes was read, and is stated in the context d; its conjunction is put behind those of other cases
pub record IsSupposed (e : Environment) (c d : Context) (first : Place) (h : HypothesesTree) (l m : Left) (old new : List Statement) (o : Outside) : Type 0 where
  pub propositions : List LabelledStatement
  pub supposition : Statement
  pub are_read : PropositionsRead e c 0 l (hypotheses_in h) (Ok propositions) m
  pub joined : joined_within first propositions ≡ Ok supposition
  pub context : d ≡ with_stated c propositions
  pub aside : o ≡ outside_of c
  pub is_last : new ≡ old ++ supposition ∷ []

-- or it is refused
pub data IsUnsupposed (e : Environment) (c : Context) (first : Place) (h : HypothesesTree) (l : Left) : ProofRefusal → Type 0 where
  not_read : (r : Refusal) (m : Left) → PropositionsRead e c 0 l (hypotheses_in h) (Err r) m → IsUnsupposed e c first h l (Resolve r)
  too_large : (ps : List LabelledStatement) (r : Refusal) (m : Left) → PropositionsRead e c 0 l (hypotheses_in h) (Ok ps) m → joined_within first ps ≡ Err r → IsUnsupposed e c first h l (Resolve r)

abbrev pub Supposing : Environment → Context → Context → Place → HypothesesTree → Left → Left → List Statement → List Statement → Result Outside ProofRefusal → Type 0
Supposing e c d first h l m old new (Ok o) = IsSupposed e c d first h l m old new o
Supposing e c d first h l m old new (Err r) = IsUnsupposed e c first h l r
