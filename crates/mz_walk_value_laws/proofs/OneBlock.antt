-- Reasonings one step after another, proofs, and justifications, each where its parts lead to one outcome at most.
use Rattle.std.proofs.Common.{◌≡◌, Bool, List, [], Option, Some, refl, ap, sym, ◌∙◌}
use Rattle.std.specs.Prelude.{Result, Ok, Err}
use Rattle.mz_base.specs.declared.place.Place.{Place}
use Rattle.mz_core.specs.declared.outcome.Left.{Left}
use Rattle.mz_context.specs.declared.context.Context.{Context}
use Rattle.mz_environment.specs.declared.environment.Environment.{Environment}
use Rattle.mz_names.specs.Closing.{with_variables}
use Rattle.mz_formulas.specs.declared.sentence.Sentence.{Sentence}
use Rattle.mz_steps.specs.Changes.{at_start_of_proof}
use Rattle.mz_steps.specs.declared.block.Block.TheVariants.{Proof}
use Rattle.mz_tree.specs.Places.{first_place}
use Rattle.mz_tree_proof.specs.Reasoning.{JustData, StepData, StepList, SimpleJust, ProofJust, no_steps, more_steps}
use Rattle.mz_tree_proof.specs.SpellReasoning.{spell_step}
use Rattle.mz_tree_proof.specs.declared.references.SimpleTree.{SimpleTree}
use Rattle.mz_obligations.specs.declared.obligation.Extent.{Extent}
use Rattle.mz_obligations.specs.declared.obligation.Obligation.{Obligation}
use Rattle.mz_justified.specs.Justified.{Justified}
use Rattle.mz_justified.specs.declared.proof_fault.ProofRefusal.{ProofRefusal}
use Rattle.mz_justified.specs.declared.proof_fault.ProofRefusal.TheVariants.{ThesisLeft}
use Rattle.mz_justified_laws.specs.Determined.{AtMostOne, SameLeft}
use Rattle.mz_justified_laws.proofs.Sequence.{one_by, one_value, IfSo, if_so, if_not, one_if, After, one_after, Makes, one_made}
use Rattle.mz_justified_laws.proofs.OneJustification.{one_justification}
use Rattle.mz_walk.specs.Walked.{State, state, Walked, Made, Refused, behind, one_made as obligation_made}
use Rattle.mz_walk.specs.Walk as wk
use Rattle.mz_walk.specs.Walk.{is_proved, Justifies, Proves, Goes, GoesAll}
use Rattle.mz_introduction_laws.proofs.Walks.{NextMade, one_next_made}

-- that each part of a reasoning leads to one outcome, wherever it stands
abbrev pub OneStep : Environment → Extent → StepData → Type 0
OneStep e at d = (s : State) (first : Place) → AtMostOne (Goes e at s first d)

abbrev pub OneReasoning : Environment → Extent → StepList → Type 0
OneReasoning e at ds = (s : State) → AtMostOne (GoesAll e at s ds)

abbrev pub OneJustification : Environment → Extent → JustData → Type 0
OneJustification e at j = (c : Context) (first : Place) (linked : Bool) (behind : Place) (x : Sentence) (l : Left) → AtMostOne (Justifies e at c first linked behind j x l)

-- steps one after another
abbrev no_obligations : State → Walked State
no_obligations s = Made [] s

abbrev NoStepsAs : State → Walked State → Type 0
NoStepsAs s o = o ≡ no_obligations s

no_steps_as : (e : Environment) (at : Extent) (s : State) (o : Walked State) → GoesAll e at s no_steps o → NoStepsAs s o
no_steps_as e at s o (wk.no_more _) = refl

pub one_no_steps : (e : Environment) (at : Extent) → OneReasoning e at no_steps
one_no_steps e at s = one_by (GoesAll e at s no_steps) (NoStepsAs s) (no_steps_as e at s) (one_value (no_obligations s))

abbrev OthersNext : Environment → Extent → StepList → List Obligation → State → Walked State → Type 0
OthersNext e at ds os t o = Makes (GoesAll e at t ds) (behind os) o

abbrev StandsAt : Option Place → Place → Type 0
StandsAt z first = z ≡ Some first

abbrev StepNext : Environment → Extent → State → StepData → StepList → Place → Walked State → Type 0
StepNext e at s d ds first o = After (Goes e at s first d) (NextMade (OthersNext e at ds)) o

abbrev MoreStepsAs : Environment → Extent → State → StepData → StepList → Walked State → Type 0
MoreStepsAs e at s d ds o = After (StandsAt (first_place (spell_step d))) (StepNext e at s d ds) o

more_steps_as : (e : Environment) (at : Extent) (s : State) (d : StepData) (ds : StepList) (o : Walked State) → GoesAll e at s (more_steps d ds) o → MoreStepsAs e at s d ds o
more_steps_as e at s d ds o (wk.stopped _ _ _ first r h i) = (first, h, (Refused r, i, refl))
more_steps_as e at s d ds o (wk.goes_on _ t _ _ first os x h i k) = (first, h, (Made os t, i, (x, k, refl)))

one_place : (z : Option Place) → AtMostOne (StandsAt z)
one_place z p q h k = cc

one_step_next : (e : Environment) (at : Extent) (s : State) (d : StepData) (ds : StepList) → OneStep e at d → OneReasoning e at ds → (first : Place) → AtMostOne (StepNext e at s d ds first)
one_step_next e at s d ds one others first =
    one_after (Goes e at s first d) (NextMade (OthersNext e at ds)) (one s first)
    (one_next_made (OthersNext e at ds) (λ (os : List Obligation) (t : State). one_made (GoesAll e at t ds) (behind os) (others t)))

pub one_more_steps : (e : Environment) (at : Extent) (d : StepData) (ds : StepList) → OneStep e at d → OneReasoning e at ds → OneReasoning e at (more_steps d ds)
one_more_steps e at d ds one others s =
    one_by (GoesAll e at s (more_steps d ds)) (MoreStepsAs e at s d ds) (more_steps_as e at s d ds)
    (one_after (StandsAt (first_place (spell_step d))) (StepNext e at s d ds) (one_place (first_place (spell_step d))) (one_step_next e at s d ds one others))

-- a proof
abbrev thesis_left : Place → Walked Left
thesis_left end = Refused (ThesisLeft end)

abbrev IsThesisLeft : Place → Walked Left → Type 0
IsThesisLeft end o = o ≡ thesis_left end

abbrev made_to : List Obligation → State → Walked Left
made_to os t = Made os t.left

abbrev IsMadeTo : List Obligation → State → Walked Left → Type 0
IsMadeTo os t o = o ≡ made_to os t

abbrev ProofNext : Place → List Obligation → State → Walked Left → Type 0
ProofNext end os t o = IfSo (is_proved t.context.thesis) (IsMadeTo os t o) (IsThesisLeft end o)

abbrev ProofAs : Environment → Extent → Context → StepList → Place → Left → Walked Left → Type 0
ProofAs e at c ds end l o = After (GoesAll e at (state c Proof l) ds) (NextMade (ProofNext end)) o

proof_as : (e : Environment) (at : Extent) (c : Context) (ds : StepList) (end : Place) (l : Left) (o : Walked Left) → Proves e at c ds end l o → ProofAs e at c ds end l o
proof_as e at c ds end l o (wk.proof_stopped _ _ _ _ r h) = (Refused r, h, refl)
proof_as e at c ds end l o (wk.thesis_left _ _ _ _ os t h k) = (Made os t, h, if_not (is_proved t.context.thesis) (IsMadeTo os t o) (IsThesisLeft end o) k refl)
proof_as e at c ds end l o (wk.proved _ _ _ _ os t h k) = (Made os t, h, if_so (is_proved t.context.thesis) (IsMadeTo os t o) (IsThesisLeft end o) k refl)

pub one_proof : (e : Environment) (at : Extent) (ds : StepList) → OneReasoning e at ds → (c : Context) (end : Place) (l : Left) → AtMostOne (Proves e at c ds end l)
one_proof e at ds one c end l =
    one_by (Proves e at c ds end l) (ProofAs e at c ds end l) (proof_as e at c ds end l)
    (one_after (GoesAll e at (state c Proof l) ds) (NextMade (ProofNext end)) (one (state c Proof l))
    (one_next_made (ProofNext end) (λ (os : List Obligation) (t : State). one_if (is_proved t.context.thesis) (IsMadeTo os t) (IsThesisLeft end) (one_value (made_to os t)) (one_value (thesis_left end)))))

-- a justification by references
abbrev SimplyAs : Environment → Extent → Context → Place → Bool → Place → SimpleTree → Sentence → Left → Walked Left → Type 0
SimplyAs e at c first linked place t x l o = (q : Result Obligation ProofRefusal) × (a : Left) × Justified e at c first linked place t x.closed l q a × (o ≡ obligation_made q a)

simply_as : (e : Environment) (at : Extent) (c : Context) (first : Place) (linked : Bool) (place : Place) (t : SimpleTree) (x : Sentence) (l : Left) (o : Walked Left) →
    Justifies e at c first linked place (SimpleJust t) x l o → SimplyAs e at c first linked place t x l o
simply_as e at c first linked place t x l o (wk.simply _ _ _ _ _ _ _ a q h) = (q, a, h, refl)

same_obligation : (q r : Result Obligation ProofRefusal) (a b : Left) → q ≡ r → SameLeft q a b → obligation_made q a ≡ obligation_made r b
same_obligation (Ok x) r a b e s = ap (λ (l : Left). obligation_made (Ok x) l) s ∙ ap (λ (y : Result Obligation ProofRefusal). obligation_made y b) e
same_obligation (Err f) r a b e s = ap (λ (y : Result Obligation ProofRefusal). obligation_made y b) e

pub one_simply : (e : Environment) (at : Extent) (t : SimpleTree) → OneJustification e at (SimpleJust t)
one_simply e at t c first linked place x l o p h k =
    let f : SimplyAs e at c first linked place t x l o = simply_as e at c first linked place t x l o h in
    let g : SimplyAs e at c first linked place t x l p = simply_as e at c first linked place t x l p k in
    let same : (f.0 ≡ g.0) × SameLeft f.0 f.1 g.1 = one_justification e at c first linked place t x.closed l f.0 g.0 f.1 g.1 f.2 g.2 in
    f.3 ∙ (same_obligation f.0 g.0 f.1 g.1 same.0 same.1 ∙ sym g.3)

-- a justification by a proof
abbrev ByProofAs : Environment → Extent → Context → StepList → Place → Sentence → Left → Walked Left → Type 0
ByProofAs e at c ds end x l o = Proves e at (at_start_of_proof (with_variables c x.variables) x.inner) ds end l o

by_proof_as : (e : Environment) (at : Extent) (c : Context) (first : Place) (linked : Bool) (place : Place) (p : Place) (ds : StepList) (end : Place) (x : Sentence) (l : Left) (o : Walked Left) →
    Justifies e at c first linked place (ProofJust p ds end) x l o → ByProofAs e at c ds end x l o
by_proof_as e at c first linked place p ds end x l o (wk.by_proof _ _ _ _ _ _ _ _ _ _ h) = h

pub one_by_proof : (e : Environment) (at : Extent) (p : Place) (ds : StepList) (end : Place) → OneReasoning e at ds → OneJustification e at (ProofJust p ds end)
one_by_proof e at p ds end one c first linked place x l =
    one_by (Justifies e at c first linked place (ProofJust p ds end) x l) (ByProofAs e at c ds end x l) (by_proof_as e at c first linked place p ds end x l)
    (one_proof e at ds one (at_start_of_proof (with_variables c x.variables) x.inner) end l)
