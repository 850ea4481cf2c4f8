-- Compact statements and `now`, each where its parts lead to one outcome at most.
use Rattle.std.proofs.Common.{◌≡◌, ℕ, Bool, List, [], ◌∷◌, Option, refl, sym, subst}
use Rattle.std.specs.Prelude.{Result, Ok, Err}
use Rattle.mz_base.specs.declared.place.Place.{Place}
use Rattle.mz_core.specs.Statement.{Statement}
use Rattle.mz_core.specs.declared.outcome.Left.{Left}
use Rattle.mz_environment.specs.declared.environment.Environment.{Environment}
use Rattle.mz_names.specs.declared.refusal.Refusal.TheVariants.{TooLarge}
use Rattle.mz_steps.specs.Changes.{at_start_of_now}
use Rattle.mz_steps.specs.declared.block.Block.TheVariants.{Now}
use Rattle.mz_tree_proof.specs.Reasoning.{JustData, CompactData, StepList, StatedCompact}
use Rattle.mz_tree_proof.specs.declared.equality_step.EqualityStepTree.{EqualityStepTree}
use Rattle.mz_tree_proof.specs.declared.propositions.PropositionTree.{PropositionTree}
use Rattle.mz_obligations.specs.declared.obligation.Extent.{Extent}
use Rattle.mz_obligations.specs.declared.obligation.Obligation.{Obligation}
use Rattle.mz_justified.specs.declared.proof_fault.ProofRefusal.{ProofRefusal}
use Rattle.mz_justified.specs.declared.proof_fault.ProofRefusal.TheVariants.{StepNoFit, Resolve}
use Rattle.mz_justified_laws.specs.Determined.{AtMostOne, SameLeft}
use Rattle.mz_justified_laws.proofs.Sequence.{one_by, one_value, IfSo, if_so, if_not, one_if, NextSome, one_next_some, NextOk, one_next_ok, After, one_after, Makes, one_made}
use Rattle.mz_walk.specs.Walked.{State, state, with_left, Walked, Made, Refused, without_obligations, behind, led_to}
use Rattle.mz_walk.specs.Performing.{Performs, is_linked}
use Rattle.mz_walk.specs.Compact.{CompactRead, compact_stated, stated_under, place_behind, sides_keep, JustifiesSides}
use Rattle.mz_walk.specs.Ahead.{KeepsAhead}
use Rattle.mz_walk.specs.Earlier.{told_unread}
use Rattle.mz_walk.specs.declared.compact.Compact.{Compact}
use Rattle.mz_walk.specs.Walk as wk
use Rattle.mz_walk.specs.Walk.{step_of, stated_in, nodes_alone, Justifies, Says, SaysNow, GoesAll}
use Rattle.mz_introduction_laws.proofs.OneIntroduction.{one_performed}
use Rattle.mz_introduction_laws.proofs.Walks.{refused, NextMade, one_next_made}
use Rattle.mz_introduction_laws.proofs.OneAhead.{one_ahead}
use Rattle.mz_introduction_laws.proofs.OneCompact.{one_compact, one_sides_justified}
use Rattle.mz_walk_value_laws.proofs.OneBlock.{OneReasoning, OneJustification}

abbrev pub OneCompact : Environment → Extent → CompactData → Type 0
OneCompact e at t = (s : State) (first : Place) (linked concluded : Bool) → AtMostOne (Says e at s first linked concluded t)

-- the further sides of a compact statement, behind its first justification
abbrev led_behind : State → List Obligation → Walked Left → Walked State
led_behind u os z = led_to u (behind os z)

abbrev SidesNext : Environment → Extent → State → State → Place → Place → List EqualityStepTree → List Statement → List Obligation → Left → Walked State → Type 0
SidesNext e at s u first semicolon ks ss os m o = Makes (JustifiesSides e at s.context first semicolon ks ss m) (led_behind u os) o

-- its justification, behind its performing
abbrev JustifiesFirst : Environment → Extent → State → Place → Bool → Place → JustData → List EqualityStepTree → Compact → Left → Walked Left → Type 0
JustifiesFirst e at s first linked semicolon j ks x l o = Justifies e at s.context first linked (place_behind ks semicolon) j x.sentence l o

abbrev FittingNext : Environment → Extent → State → Place → Bool → Place → JustData → List EqualityStepTree → Compact → Left → State → Walked State → Type 0
FittingNext e at s first linked semicolon j ks x l u o = After (JustifiesFirst e at s first linked semicolon j ks x l) (NextMade (SidesNext e at s u first semicolon ks x.said.further)) o

-- behind which the instances for its further sides keep the limits
abbrev too_large : Place → Walked State
too_large first = Refused (Resolve (TooLarge first))

abbrev IsTooLarge : Place → Walked State → Type 0
IsTooLarge first o = o ≡ too_large first

abbrev KeptNext : Environment → Extent → State → Place → Bool → Place → JustData → List EqualityStepTree → Compact → Left → State → Walked State → Type 0
KeptNext e at s first linked semicolon j ks x l u o = IfSo (sides_keep e s.context ks x.said.further) (FittingNext e at s first linked semicolon j ks x l u o) (IsTooLarge first o)

-- its performing, behind its reading
abbrev PerformsIt : Environment → State → Place → Bool → PropositionTree → Compact → Left → Result State ProofRefusal → Type 0
PerformsIt e s first concluded t x l o = Performs e first (with_left s l) (step_of concluded x.said.states) (compact_stated t x ∷ []) o

abbrev CompactNext : Environment → Extent → State → Place → Bool → Bool → Place → PropositionTree → JustData → List EqualityStepTree → Compact → Left → Walked State → Type 0
CompactNext e at s first linked concluded semicolon t j ks x l o = After (PerformsIt e s first concluded t x l) (NextOk refused (KeptNext e at s first linked semicolon j ks x l)) o

-- a refusal of its reading, as it is told
abbrev told : Environment → State → Place → Place → JustData → List EqualityStepTree → ProofRefusal → Bool → Walked State
told e s first semicolon j ks r kept = Refused (told_unread e s.context first semicolon s.left.obligations j ks kept r)

abbrev ToldNext : Environment → State → Place → Bool → Place → PropositionTree → JustData → List EqualityStepTree → ProofRefusal → Walked State → Type 0
ToldNext e s first linked semicolon t j ks r o = Makes (KeepsAhead e s.context linked (nodes_alone s.left) t j ks) (told e s first semicolon j ks r) o

-- what stands behind its reading, with what is left, or behind the refusal
abbrev ReadNext : Environment → Extent → State → Place → Bool → Bool → Place → PropositionTree → JustData → List EqualityStepTree → Result Compact ProofRefusal → Left → Walked State → Type 0
ReadNext e at s first linked concluded semicolon t j ks (Err r) l o = ToldNext e s first linked semicolon t j ks r o
ReadNext e at s first linked concluded semicolon t j ks (Ok x) l o = CompactNext e at s first linked concluded semicolon t j ks x l o

abbrev SaidBehind : Environment → Extent → State → Place → Bool → Bool → Place → PropositionTree → JustData → List EqualityStepTree → Walked State → Type 0
SaidBehind e at s first linked concluded semicolon t j ks o = (q : Result Compact ProofRefusal) × (l : Left) × CompactRead e s.context first s.left t ks q l × ReadNext e at s first linked concluded semicolon t j ks q l o

abbrev no_fit : Place → Walked State
no_fit first = Refused (StepNoFit first)

abbrev IsNoFit : Place → Walked State → Type 0
IsNoFit first o = o ≡ no_fit first

abbrev SaysAs : Environment → Extent → State → Place → Bool → Bool → Place → PropositionTree → JustData → List EqualityStepTree → Walked State → Type 0
SaysAs e at s first linked concluded semicolon t j ks o = IfSo (is_linked linked s.context.previous) (SaidBehind e at s first linked concluded semicolon t j ks o) (IsNoFit first o)

says_as : (e : Environment) (at : Extent) (s : State) (first : Place) (linked concluded : Bool) (semicolon : Place) (t : PropositionTree) (j : JustData) (ks : List EqualityStepTree) (o : Walked State) →
    Says e at s first linked concluded (StatedCompact t j ks semicolon) o → SaysAs e at s first linked concluded semicolon t j ks o
says_as e at s first linked concluded semicolon t j ks o (wk.follows_nothing _ _ _ _ _ h) =
    if_not (is_linked linked s.context.previous) (SaidBehind e at s first linked concluded semicolon t j ks o) (IsNoFit first o) h refl
says_as e at s first linked concluded semicolon t j ks o (wk.not_read _ _ _ _ _ _ _ _ r l kept h i a) =
    if_so (is_linked linked s.context.previous) (SaidBehind e at s first linked concluded semicolon t j ks o) (IsNoFit first o) h (Err r, l, i, (kept, a, refl))
says_as e at s first linked concluded semicolon t j ks o (wk.unfit _ _ _ _ _ _ _ _ x l r h i g) =
    if_so (is_linked linked s.context.previous) (SaidBehind e at s first linked concluded semicolon t j ks o) (IsNoFit first o) h (Ok x, l, i, (Err r, g, refl))
says_as e at s first linked concluded semicolon t j ks o (wk.instance_too_large _ u _ _ _ _ _ _ _ x l h i g k) =
    if_so (is_linked linked s.context.previous) (SaidBehind e at s first linked concluded semicolon t j ks o) (IsNoFit first o) h
    (Ok x, l, i, (Ok u, g, if_not (sides_keep e s.context ks x.said.further) (FittingNext e at s first linked semicolon j ks x l u o) (IsTooLarge first o) k refl))
says_as e at s first linked concluded semicolon t j ks o (wk.not_justified _ u _ _ _ _ _ _ _ x l r h i g k f) =
    if_so (is_linked linked s.context.previous) (SaidBehind e at s first linked concluded semicolon t j ks o) (IsNoFit first o) h
    (Ok x, l, i, (Ok u, g, if_so (sides_keep e s.context ks x.said.further) (FittingNext e at s first linked semicolon j ks x l u o) (IsTooLarge first o) k (Refused r, f, refl)))
says_as e at s first linked concluded semicolon t j ks o (wk.justified _ u _ _ _ _ _ _ _ x l m os y h i g k f d) =
    if_so (is_linked linked s.context.previous) (SaidBehind e at s first linked concluded semicolon t j ks o) (IsNoFit first o) h
    (Ok x, l, i, (Ok u, g, if_so (sides_keep e s.context ks x.said.further) (FittingNext e at s first linked semicolon j ks x l u o) (IsTooLarge first o) k (Made os m, f, (y, d, refl))))

one_fitting : (e : Environment) (at : Extent) (s : State) (first : Place) (linked : Bool) (semicolon : Place) (j : JustData) (ks : List EqualityStepTree) (x : Compact) (l : Left) → OneJustification e at j → (u : State) →
    AtMostOne (FittingNext e at s first linked semicolon j ks x l u)
one_fitting e at s first linked semicolon j ks x l one u =
    one_after (JustifiesFirst e at s first linked semicolon j ks x l) (NextMade (SidesNext e at s u first semicolon ks x.said.further)) (one s.context first linked (place_behind ks semicolon) x.sentence l)
    (one_next_made (SidesNext e at s u first semicolon ks x.said.further)
    (λ (os : List Obligation) (m : Left). one_made (JustifiesSides e at s.context first semicolon ks x.said.further m) (led_behind u os) (one_sides_justified e at s.context first semicolon ks x.said.further m)))

one_read_next : (e : Environment) (at : Extent) (s : State) (first : Place) (linked concluded : Bool) (semicolon : Place) (t : PropositionTree) (j : JustData) (ks : List EqualityStepTree) → OneJustification e at j → (x : Compact) (l : Left) →
    AtMostOne (CompactNext e at s first linked concluded semicolon t j ks x l)
one_read_next e at s first linked concluded semicolon t j ks one x l =
    one_after (PerformsIt e s first concluded t x l) (NextOk refused (KeptNext e at s first linked semicolon j ks x l)) (one_performed e first (with_left s l) (step_of concluded x.said.states) (compact_stated t x ∷ []))
    (one_next_ok refused (KeptNext e at s first linked semicolon j ks x l)
    (λ (u : State). one_if (sides_keep e s.context ks x.said.further) (FittingNext e at s first linked semicolon j ks x l u) (IsTooLarge first) (one_fitting e at s first linked semicolon j ks x l one u) (one_value (too_large first))))

with_left_behind : (e : Environment) (at : Extent) (s : State) (first : Place) (linked concluded : Bool) (semicolon : Place) (t : PropositionTree) (j : JustData) (ks : List EqualityStepTree) (q : Result Compact ProofRefusal) (l m : Left) (o : Walked State) → SameLeft q l m →
    ReadNext e at s first linked concluded semicolon t j ks q m o → ReadNext e at s first linked concluded semicolon t j ks q l o
with_left_behind e at s first linked concluded semicolon t j ks (Err r) l m o same h = h
with_left_behind e at s first linked concluded semicolon t j ks (Ok x) l m o same h = subst (λ (z : Left). CompactNext e at s first linked concluded semicolon t j ks x z o) (sym same) h

one_behind_reading : (e : Environment) (at : Extent) (s : State) (first : Place) (linked concluded : Bool) (semicolon : Place) (t : PropositionTree) (j : JustData) (ks : List EqualityStepTree) → OneJustification e at j → (q : Result Compact ProofRefusal) (l : Left) →
    AtMostOne (ReadNext e at s first linked concluded semicolon t j ks q l)
one_behind_reading e at s first linked concluded semicolon t j ks one (Err r) l =
    one_made (KeepsAhead e s.context linked (nodes_alone s.left) t j ks) (told e s first semicolon j ks r) (one_ahead e s.context linked (nodes_alone s.left) t j ks)
one_behind_reading e at s first linked concluded semicolon t j ks one (Ok x) l = one_read_next e at s first linked concluded semicolon t j ks one x l

one_said_behind : (e : Environment) (at : Extent) (s : State) (first : Place) (linked concluded : Bool) (semicolon : Place) (t : PropositionTree) (j : JustData) (ks : List EqualityStepTree) → OneJustification e at j →
    AtMostOne (SaidBehind e at s first linked concluded semicolon t j ks)
one_said_behind e at s first linked concluded semicolon t j ks one o p h k =
    let same : (h.0 ≡ k.0) × SameLeft h.0 h.1 k.1 = one_compact e s.context first s.left t ks h.0 k.0 h.1 k.1 h.2 k.2 in
    one_behind_reading e at s first linked concluded semicolon t j ks one h.0 h.1 o p h.3
    (with_left_behind e at s first linked concluded semicolon t j ks h.0 h.1 k.1 p same.1 (subst (λ (z : Result Compact ProofRefusal). ReadNext e at s first linked concluded semicolon t j ks z k.1 p) (sym same.0) k.3))

pub one_stated_compact : (e : Environment) (at : Extent) (t : PropositionTree) (j : JustData) (ks : List EqualityStepTree) (semicolon : Place) → OneJustification e at j → OneCompact e at (StatedCompact t j ks semicolon)
one_stated_compact e at t j ks semicolon one s first linked concluded =
    one_by (Says e at s first linked concluded (StatedCompact t j ks semicolon)) (SaysAs e at s first linked concluded semicolon t j ks) (says_as e at s first linked concluded semicolon t j ks)
    (one_if (is_linked linked s.context.previous) (SaidBehind e at s first linked concluded semicolon t j ks) (IsNoFit first)
    (one_said_behind e at s first linked concluded semicolon t j ks one)
    (one_value (no_fit first)))

-- a `now`
abbrev behind_all : List Obligation → Result State ProofRefusal → Walked State
behind_all os z = behind os (without_obligations z)

abbrev StatedNext : Environment → State → Place → Bool → List ℕ → List Obligation → State → Statement → Walked State → Type 0
StatedNext e s first concluded label os t x o = Makes (Performs e first (with_left s t.left) (step_of concluded x) (stated_under label x ∷ [])) (behind_all os) o

abbrev StatedIs : Environment → State → Place → Bool → List ℕ → List Obligation → State → Option Statement → Walked State → Type 0
StatedIs e s first concluded label os t z o = NextSome (too_large first) (StatedNext e s first concluded label os t) z o

abbrev NowNext : Environment → State → Place → Bool → List ℕ → List Obligation → State → Walked State → Type 0
NowNext e s first concluded label os t o = StatedIs e s first concluded label os t (stated_in t.block) o

abbrev StepsWithin : Environment → Extent → State → StepList → Walked State → Type 0
StepsWithin e at s ds o = GoesAll e at (state (at_start_of_now s.context) (Now []) s.left) ds o

abbrev NowAs : Environment → Extent → State → Place → Bool → List ℕ → StepList → Walked State → Type 0
NowAs e at s first concluded label ds o = After (StepsWithin e at s ds) (NextMade (NowNext e s first concluded label)) o

now_as : (e : Environment) (at : Extent) (s : State) (first : Place) (concluded : Bool) (label : List ℕ) (ds : StepList) (o : Walked State) → SaysNow e at s first concluded label ds o → NowAs e at s first concluded label ds o
now_as e at s first concluded label ds o (wk.now_stopped _ _ _ _ _ r h) = (Refused r, h, refl)
now_as e at s first concluded label ds o (wk.now_too_large _ t _ _ _ _ os h k) = (Made os t, h, subst (λ (z : Option Statement). StatedIs e s first concluded label os t z o) (sym k) refl)
now_as e at s first concluded label ds o (wk.now_stated _ t _ _ _ _ os x y h k i) = (Made os t, h, subst (λ (z : Option Statement). StatedIs e s first concluded label os t z o) (sym k) (y, i, refl))

one_now_next : (e : Environment) (s : State) (first : Place) (concluded : Bool) (label : List ℕ) (os : List Obligation) (t : State) → AtMostOne (NowNext e s first concluded label os t)
one_now_next e s first concluded label os t =
    one_next_some (too_large first) (StatedNext e s first concluded label os t)
    (λ (x : Statement). one_made (Performs e first (with_left s t.left) (step_of concluded x) (stated_under label x ∷ [])) (behind_all os) (one_performed e first (with_left s t.left) (step_of concluded x) (stated_under label x ∷ [])))
    (stated_in t.block)

pub one_now : (e : Environment) (at : Extent) (ds : StepList) → OneReasoning e at ds → (s : State) (first : Place) (concluded : Bool) (label : List ℕ) → AtMostOne (SaysNow e at s first concluded label ds)
one_now e at ds one s first concluded label =
    one_by (SaysNow e at s first concluded label ds) (NowAs e at s first concluded label ds) (now_as e at s first concluded label ds)
    (one_after (StepsWithin e at s ds) (NextMade (NowNext e s first concluded label)) (one (state (at_start_of_now s.context) (Now []) s.left)) (one_next_made (NowNext e s first concluded label) (one_now_next e s first concluded label)))
