-- A statement in a proof leaves the block a proof.
use Rattle.std.proofs.Common.{◌≡◌, ℕ, List, [], ◌∷◌, Bool, false, ap}
use Rattle.std.specs.Prelude.{Result, Ok, Err}
use Rattle.mz_base.specs.declared.place.Place.{Place}
use Rattle.mz_core.specs.declared.outcome.Left.{Left}
use Rattle.mz_context.specs.declared.labelled.LabelledStatement.{LabelledStatement}
use Rattle.mz_environment.specs.declared.environment.Environment.{Environment}
use Rattle.mz_steps.specs.Changes.{block_after}
use Rattle.mz_steps.specs.declared.block.Block.TheVariants.{Proof}
use Rattle.mz_steps.specs.declared.read_step.Definition.{Definition}
use Rattle.mz_steps.specs.declared.read_step.ReadStep.{ReadStep}
use Rattle.mz_steps.specs.declared.read_step.ReadStep.TheVariants as read
use Rattle.mz_tree_proof.specs.Reasoning.{CompactData, StatementData, StepList}
use Rattle.mz_tree_proof.specs.declared.introduction.ConsiderTree.{ConsiderTree}
use Rattle.mz_tree_proof.specs.declared.introduction.DeffuncTree.{DeffuncTree}
use Rattle.mz_tree_proof.specs.declared.introduction.DefpredTree.{DefpredTree}
use Rattle.mz_tree_proof.specs.declared.introduction.IntroductionTree.{IntroductionTree}
use Rattle.mz_tree_proof.specs.declared.introduction.NamedTermTree.{NamedTermTree}
use Rattle.mz_tree_proof.specs.declared.introduction.ReconsiderTree.{ReconsiderTree}
use Rattle.mz_obligations.specs.declared.obligation.Extent.{Extent}
use Rattle.mz_obligations.specs.declared.obligation.Obligation.{Obligation}
use Rattle.mz_justified.specs.declared.proof_fault.ProofRefusal.{ProofRefusal}
use Rattle.mz_walk.specs.Walked as wk
use Rattle.mz_walk.specs.Walked.{State, Walked, Made, Refused, OneByOne, without_obligations, behind, led_to}
use Rattle.mz_walk.specs.Performing as pf
use Rattle.mz_walk.specs.Performing.{Performs, PerformsAlone}
use Rattle.mz_walk.specs.Introductions as it
use Rattle.mz_walk.specs.Introductions.{Considers, Retypes, Reconsiders, SetsOne, DefinesFunctor, DefinesPredicate, Introduces}
use Rattle.mz_walk.specs.Walk as wa
use Rattle.mz_walk.specs.Walk.{Says, SaysNow, States}

abbrev pub ProofTo : Result State ProofRefusal → Type 0
ProofTo (Ok t) = t.block ≡ Proof
ProofTo (Err r) = Unit {0}

abbrev pub ProofIn : Walked State → Type 0
ProofIn (Made os t) = t.block ≡ Proof
ProofIn (Refused r) = Unit {0}

performs_proof : (e : Environment) (first : Place) (s : State) (r : ReadStep) (ps : List LabelledStatement) (o : Result State ProofRefusal) → Performs e first s r ps o → s.block ≡ Proof → ProofTo o
performs_proof e first s r ps _ (pf.unfit h) eb = tt
performs_proof e first s r ps _ (pf.beyond a h k) eb = tt
performs_proof e first s r ps _ (pf.performed a h k) eb = ap (λ b. block_after b a) eb

alone_proof : (e : Environment) (first : Place) (s : State) (rs : List ReadStep) (o : Result State ProofRefusal) → OneByOne (PerformsAlone e first) s rs o → s.block ≡ Proof → ProofTo o
alone_proof e first s _ _ (wk.none_left _) eb = eb
alone_proof e first s _ _ (wk.one_refused _ x xs r h) eb = tt
alone_proof e first s _ _ (wk.one_taken _ t x xs o h k) eb = alone_proof e first t xs o k (performs_proof e first s x [] (Ok t) h eb)

behind_proof : (os : List Obligation) (o : Result State ProofRefusal) → ProofTo o → ProofIn (behind os (without_obligations o))
behind_proof os (Ok t) g = g
behind_proof os (Err r) g = tt

without_proof : (o : Result State ProofRefusal) → ProofTo o → ProofIn (without_obligations o)
without_proof (Ok t) g = g
without_proof (Err r) g = tt

led_proof : (u : State) (os : List Obligation) (o : Walked Left) → u.block ≡ Proof → ProofIn (led_to u (behind os o))
led_proof u os (Made ps l) g = g
led_proof u os (Refused r) g = tt

considers_proof : (e : Environment) (at : Extent) (first : Place) (s : State) (t : ConsiderTree) (o : Walked State) → Considers e at first s t o → s.block ≡ Proof → ProofIn o
considers_proof e at first s t _ (it.follows_nothing h) eb = tt
considers_proof e at first s t _ (it.not_read r l h k) eb = tt
considers_proof e at first s t _ (it.not_justified d l m r h k j) eb = tt
considers_proof e at first s t _ (it.considered d l m x o h k j p) eb = behind_proof (x ∷ []) o (performs_proof e first (record { context = s.context; block = s.block; left = m }) (read.Consider d.variables d.statement) d.propositions o p eb)

retypes_proof : (e : Environment) (at : Extent) (first : Place) (s : State) (t : ReconsiderTree) (ds : List Definition) (o : Walked State) → Retypes e at first s t ds o → s.block ≡ Proof → ProofIn o
retypes_proof e at first s t ds _ (it.too_large h) eb = tt
retypes_proof e at first s t ds _ (it.not_justified ss r h j) eb = tt
retypes_proof e at first s t ds _ (it.retyped ss m os o h j p) eb = behind_proof os o (alone_proof e first (record { context = s.context; block = s.block; left = m }) _ o p eb)

reconsiders_proof : (e : Environment) (at : Extent) (first : Place) (s : State) (t : ReconsiderTree) (o : Walked State) → Reconsiders e at first s t o → s.block ≡ Proof → ProofIn o
reconsiders_proof e at first s t _ (it.follows_nothing h) eb = tt
reconsiders_proof e at first s t _ (it.not_read r l h k) eb = tt
reconsiders_proof e at first s t _ (it.reconsidered ds l o h k p) eb = retypes_proof e at first (record { context = s.context; block = s.block; left = l }) t ds o p eb

set_proof : (e : Environment) (first : Place) (s : State) (n : NamedTermTree) (o : Result State ProofRefusal) → SetsOne e first s n o → s.block ≡ Proof → ProofTo o
set_proof e first s n _ (it.not_read r l h) eb = tt
set_proof e first s n _ (it.set d l o h k) eb = performs_proof e first (record { context = s.context; block = s.block; left = l }) (read.Set d) [] o k eb

sets_proof : (e : Environment) (first : Place) (s : State) (ns : List NamedTermTree) (o : Result State ProofRefusal) → OneByOne (SetsOne e first) s ns o → s.block ≡ Proof → ProofTo o
sets_proof e first s _ _ (wk.none_left _) eb = eb
sets_proof e first s _ _ (wk.one_refused _ x xs r h) eb = tt
sets_proof e first s _ _ (wk.one_taken _ t x xs o h k) eb = sets_proof e first t xs o k (set_proof e first s x (Ok t) h eb)

functor_proof : (e : Environment) (s : State) (t : DeffuncTree) (o : Result State ProofRefusal) → DefinesFunctor e s t o → s.block ≡ Proof → ProofTo o
functor_proof e s t _ (it.not_read r l h) eb = tt
functor_proof e s t _ (it.defined f l h) eb = eb

predicate_proof : (e : Environment) (s : State) (t : DefpredTree) (o : Result State ProofRefusal) → DefinesPredicate e s t o → s.block ≡ Proof → ProofTo o
predicate_proof e s t _ (it.not_read r l h) eb = tt
predicate_proof e s t _ (it.defined p l h) eb = eb

introduces_proof : (e : Environment) (at : Extent) (first : Place) (s : State) (t : IntroductionTree) (o : Walked State) → Introduces e at first s t o → s.block ≡ Proof → ProofIn o
introduces_proof e at first s _ _ (it.considers t o h) eb = considers_proof e at first s t o h eb
introduces_proof e at first s _ _ (it.reconsiders t o h) eb = reconsiders_proof e at first s t o h eb
introduces_proof e at first s _ _ (it.sets t o h) eb = without_proof o (sets_proof e first s _ o h eb)
introduces_proof e at first s _ _ (it.private_functor t o h) eb = without_proof o (functor_proof e s t o h eb)
introduces_proof e at first s _ _ (it.private_predicate t o h) eb = without_proof o (predicate_proof e s t o h eb)

says_proof : (e : Environment) (at : Extent) (s : State) (first : Place) (linked concluded : Bool) (t : CompactData) (o : Walked State) → Says e at s first linked concluded t o → s.block ≡ Proof → ProofIn o
says_proof e at _ _ _ _ _ _ (wa.follows_nothing s first linked concluded t h) eb = tt
says_proof e at _ _ _ _ _ _ (wa.not_read s first semicolon linked concluded p j ks r l kept h k a) eb = tt
says_proof e at _ _ _ _ _ _ (wa.unfit s first semicolon linked concluded p j ks x l r h k f) eb = tt
says_proof e at _ _ _ _ _ _ (wa.instance_too_large s u first semicolon linked concluded p j ks x l h k f a) eb = tt
says_proof e at _ _ _ _ _ _ (wa.not_justified s u first semicolon linked concluded p j ks x l r h k f a y) eb = tt
says_proof e at _ _ _ _ _ _ (wa.justified s u first semicolon linked concluded p j ks x l m os o h k f a y z) eb =
    led_proof u os o (performs_proof e first (record { context = s.context; block = s.block; left = l }) _ _ (Ok u) f eb)

says_now_proof : (e : Environment) (at : Extent) (s : State) (first : Place) (concluded : Bool) (label : List ℕ) (ds : StepList) (o : Walked State) → SaysNow e at s first concluded label ds o → s.block ≡ Proof → ProofIn o
says_now_proof e at _ _ _ _ _ _ (wa.now_stopped s first concluded label ds r h) eb = tt
says_now_proof e at _ _ _ _ _ _ (wa.now_too_large s t first concluded label ds os h k) eb = tt
says_now_proof e at _ _ _ _ _ _ (wa.now_stated s t first concluded label ds os x o h k p) eb = behind_proof os o (performs_proof e first (record { context = s.context; block = s.block; left = t.left }) _ _ o p eb)

pub states_proof : (e : Environment) (at : Extent) (s : State) (first : Place) (t : StatementData) (o : Walked State) → States e at s first t o → s.block ≡ Proof → ProofIn o
states_proof e at _ _ _ _ (wa.says s first then t o h) eb = says_proof e at s first _ false t o h eb
states_proof e at _ _ _ _ (wa.says_now s first p end semicolon label ds o h) eb = says_now_proof e at s first false _ ds o h eb
states_proof e at _ _ _ _ (wa.introduces s first t o h) eb = introduces_proof e at first s t o h eb
