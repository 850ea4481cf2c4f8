-- The walk over the steps of reasonings. Each relation has a constructor for each outcome, and the first refusal in the order of
-- its premises is the one that is told. `first` is the place of a step's first token. A step is read, then it fits, then it is
-- justified in the context before it, and then stands what it makes. Behind a justification and behind a block the context is as
-- it was before.
use Rattle.std.specs.Prelude.{◌≡◌, ℕ, Bool, true, false, is_some, List, [], ◌∷◌, map, Option, Some, None, Result, Ok, Err}
use Rattle.mz_base.specs.declared.place.Place.{Place}
use Rattle.mz_core.specs.Statement.{Statement, Truth, Eq, Atom, Not, And, For}
use Rattle.mz_core.specs.Parts.{conjunction}
use Rattle.mz_core.specs.declared.outcome.Left.{Left}
use Rattle.mz_context.specs.declared.context.Context.{Context}
use Rattle.mz_context.specs.declared.labelled.LabelledStatement.{LabelledStatement}
use Rattle.mz_environment.specs.declared.environment.Environment.{Environment}
use Rattle.mz_names.specs.Closing.{with_variables}
use Rattle.mz_names.specs.declared.refusal.Refusal.{Refusal}
use Rattle.mz_names.specs.declared.refusal.Refusal.TheVariants.{TooLarge}
use Rattle.mz_sizes.specs.Sizes.{statement_keeps}
use Rattle.mz_applied.specs.Within.{within}
use Rattle.mz_thesis.specs.Cases.{disjunction_to}
use Rattle.mz_formulas.specs.declared.sentence.Sentence.{Sentence}
use Rattle.mz_now.specs.Kept.{stated_kept}
use Rattle.mz_now.specs.declared.now_part.NowPart.{NowPart}
use Rattle.mz_steps.specs.Changes.{statement_of, with_stated, at_start_of_proof, at_start_of_now}
use Rattle.mz_steps.specs.declared.block.Block.{Block}
use Rattle.mz_steps.specs.declared.block.Block.TheVariants.{Proof, Now}
use Rattle.mz_steps.specs.declared.read_step.ReadStep.{ReadStep}
use Rattle.mz_steps.specs.declared.read_step.ReadStep.TheVariants.{Thus, State as Stated}
use Rattle.mz_tree.specs.Places.{first_place}
use Rattle.mz_tree_proof.specs.Reasoning.{JustData, CompactData, StatementData, StepData, SupposeData, StepList, SupposeList, SimpleJust, ProofJust, StatedCompact, CompactStatement, NowStatement, IntroductionStatement, StatementStep, ThusStep, HenceStep, HerebyStep, SkeletonStep, CasesStep, CaseSuppose, no_steps, more_steps, no_supposes, more_supposes}
use Rattle.mz_tree_proof.specs.SpellReasoning.{spell_step}
use Rattle.mz_tree_proof.specs.declared.equality_step.EqualityStepTree.{EqualityStepTree}
use Rattle.mz_tree_proof.specs.declared.introduction.IntroductionTree.{IntroductionTree}
use Rattle.mz_tree_proof.specs.declared.propositions.HypothesesTree.{HypothesesTree}
use Rattle.mz_tree_proof.specs.declared.propositions.PropositionTree.{PropositionTree}
use Rattle.mz_tree_proof.specs.declared.references.LabelTree.{LabelTree}
use Rattle.mz_tree_proof.specs.declared.references.SimpleTree.{SimpleTree}
use Rattle.mz_tree_proof.specs.declared.skeleton.SkeletonTree.{SkeletonTree}
use Rattle.mz_tree_proof.specs.declared.skeleton.SplitTree.{SplitTree}
use Rattle.mz_obligations.specs.declared.obligation.Extent.{Extent}
use Rattle.mz_obligations.specs.declared.obligation.Obligation.{Obligation}
use Rattle.mz_parts.specs.Joined.{joined_within}
use Rattle.mz_parts.specs.Propositions.{label_in, PropositionsRead, hypotheses_in}
use Rattle.mz_given.specs.declared.given.Given.{Given}
use Rattle.mz_justified.specs.Kept.{justification_keeps}
use Rattle.mz_justified.specs.Justified.{Grounds, Owes, Justified, place_of}
use Rattle.mz_justified.specs.declared.proof_fault.ProofRefusal.{ProofRefusal}
use Rattle.mz_justified.specs.declared.proof_fault.ProofRefusal.TheVariants.{StepNoFit, ThesisLeft, Resolve}
use Rattle.mz_walk.specs.Walked.{State, state, with_left, Walked, Made, Refused, without_obligations, behind, led_to, one_made}
use Rattle.mz_walk.specs.Performing.{Performs, is_linked, is_now}
use Rattle.mz_walk.specs.Skeleton.{StepsOn}
use Rattle.mz_walk.specs.Introductions.{Introduces}
use Rattle.mz_walk.specs.declared.compact.Compact.{Compact}
use Rattle.mz_walk.specs.Compact.{CompactRead, compact_stated, stated_under, place_behind, sides_keep, JustifiesSides}
use Rattle.mz_walk.specs.Ahead.{KeepsAhead}
use Rattle.mz_walk.specs.Earlier.{told_unread}

-- the step of a statement: with `thus`, `hence` and `hereby` it is concluded, else it is stated only
abbrev pub step_of : Bool → Statement → ReadStep
step_of true s = Thus s
step_of false s = Stated s

-- nothing is left of the thesis
abbrev pub is_truth : Statement → Bool
is_truth Truth = true
is_truth (Eq t u) = false
is_truth (Atom s ts) = false
is_truth (Not s) = false
is_truth (And s t) = false
is_truth (For ty s) = false

abbrev pub is_proved : Option Statement → Bool
is_proved None = false
is_proved (Some s) = is_truth s

-- what a `now` states, where it keeps the limits
abbrev pub stated_in : Block → Option Statement
stated_in Proof = None
stated_in (Now ps) = stated_kept ps

-- what the cases of a split suppose, and what the article has left behind them
pub record Cases : Type 0 where
  pub suppositions : List Statement
  pub left : Left

abbrev pub no_cases : Left → Cases
no_cases l = record { suppositions = []; left = l }

-- a case in front of others
abbrev pub with_case : Statement → Walked Cases → Walked Cases
with_case s (Made os x) = Made os (record { suppositions = s ∷ x.suppositions; left = x.left })
with_case s (Refused r) = Refused r

-- the disjunction of all cases, grouped to the left; contradiction where there is none
abbrev pub disjunction_of : List Statement → Statement
disjunction_of [] = Not Truth
disjunction_of (s ∷ ss) = disjunction_to s ss

-- behind a split into cases nothing is left of the thesis, and there is no statement just before
abbrev pub behind_cases : State → Left → State
behind_cases s l = record { context = record s.context { thesis = Some Truth; previous = None }; block = s.block; left = l }

-- what a case supposes, in front of what others do, where these could be read
abbrev pub supposed_first : Statement → Option (List Statement) → Option (List Statement)
supposed_first s None = None
supposed_first s (Some ss) = Some (s ∷ ss)

-- what the cases of a split suppose, read ahead of what they prove; none where some of it isn't read
pub data SuppositionsRead (e : Environment) (c : Context) : SupposeList → Left → Option (List Statement) → Type 0 where
  none_supposed : (l : Left) → SuppositionsRead e c no_supposes l (Some [])
  not_readable : (l m : Left) (p q end semicolon : Place) (h : HypothesesTree) (ds : StepList) (us : SupposeList) (r : Refusal) →
      PropositionsRead e c 0 l (hypotheses_in h) (Err r) m → SuppositionsRead e c (more_supposes (CaseSuppose p h q ds end semicolon) us) l None
  one_supposed : (l m : Left) (p q end semicolon : Place) (h : HypothesesTree) (ds : StepList) (us : SupposeList) (ps : List LabelledStatement) (o : Option (List Statement)) →
      PropositionsRead e c 0 l (hypotheses_in h) (Ok ps) m → SuppositionsRead e c us m o → SuppositionsRead e c (more_supposes (CaseSuppose p h q ds end semicolon) us) l (supposed_first (conjunction (map statement_of ps)) o)

-- so many nodes alone, and those of what is left
abbrev pub only_nodes : ℕ → Left
only_nodes n = record { nodes = n; obligations = 0; made = [] }

abbrev pub nodes_alone : Left → Left
nodes_alone l = only_nodes l.nodes

-- what can be told of a split before its justification: that it follows no statement; or, where all that its cases suppose can be
-- read, that their disjunction, or an instance of a scheme that the justification makes for it, is beyond the limits
pub data Foresees (e : Environment) (first : Place) (c : Context) (l : Left) (linked : Bool) (t : SimpleTree) (us : SupposeList) : Option ProofRefusal → Type 0 where
  not_linked : is_linked linked c.previous ≡ false → Foresees e first c l linked t us (Some (StepNoFit first))
  not_foreseen : is_linked linked c.previous ≡ true → SuppositionsRead e c us (nodes_alone l) None → Foresees e first c l linked t us None
  beyond : (ss : List Statement) (r : Refusal) → is_linked linked c.previous ≡ true → SuppositionsRead e c us (nodes_alone l) (Some ss) → within statement_keeps first (disjunction_of ss) ≡ Err r → Foresees e first c l linked t us (Some (Resolve r))
  instance_beyond : (ss : List Statement) (y : Statement) → is_linked linked c.previous ≡ true → SuppositionsRead e c us (nodes_alone l) (Some ss) → within statement_keeps first (disjunction_of ss) ≡ Ok y →
      justification_keeps e c linked t y ≡ false → Foresees e first c l linked t us (Some (Resolve (TooLarge first)))
  kept : (ss : List Statement) (y : Statement) → is_linked linked c.previous ≡ true → SuppositionsRead e c us (nodes_alone l) (Some ss) → within statement_keeps first (disjunction_of ss) ≡ Ok y →
      justification_keeps e c linked t y ≡ true → Foresees e first c l linked t us None

mutual
  -- a justification of a sentence: by references, of the closed sentence; or by a proof, in which its free reserved variables are
  -- constants. `behind` is the place of the token behind the statement
  pub data Justifies (e : Environment) (at : Extent) : Context → Place → Bool → Place → JustData → Sentence → Left → Walked Left → Type 0 where
    simply : (c : Context) (first behind : Place) (linked : Bool) (t : SimpleTree) (x : Sentence) (l after : Left) (o : Result Obligation ProofRefusal) →
        Justified e at c first linked behind t x.closed l o after → Justifies e at c first linked behind (SimpleJust t) x l (one_made o after)
    by_proof : (c : Context) (first behind p end : Place) (linked : Bool) (ds : StepList) (x : Sentence) (l : Left) (o : Walked Left) →
        Proves e at (at_start_of_proof (with_variables c x.variables) x.inner) ds end l o → Justifies e at c first linked behind (ProofJust p ds end) x l o

  -- the steps of a proof from the context on relate its thesis to truth; `end` is the place of the `end` behind them
  pub data Proves (e : Environment) (at : Extent) : Context → StepList → Place → Left → Walked Left → Type 0 where
    proof_stopped : (c : Context) (ds : StepList) (end : Place) (l : Left) (r : ProofRefusal) → GoesAll e at (state c Proof l) ds (Refused r) → Proves e at c ds end l (Refused r)
    thesis_left : (c : Context) (ds : StepList) (end : Place) (l : Left) (os : List Obligation) (t : State) →
        GoesAll e at (state c Proof l) ds (Made os t) → is_proved t.context.thesis ≡ false → Proves e at c ds end l (Refused (ThesisLeft end))
    proved : (c : Context) (ds : StepList) (end : Place) (l : Left) (os : List Obligation) (t : State) →
        GoesAll e at (state c Proof l) ds (Made os t) → is_proved t.context.thesis ≡ true → Proves e at c ds end l (Made os t.left)

  -- a compact statement, which is linked where `then` or `hence` stands before it, and concluded behind `thus` and `hence`. Where
  -- something of it isn't read, what can be told of what stands before that comes first. Where all is read and fits, an instance of a
  -- scheme that is too large comes before all that is refused at a justification
  pub data Says (e : Environment) (at : Extent) : State → Place → Bool → Bool → CompactData → Walked State → Type 0 where
    follows_nothing : (s : State) (first : Place) (linked concluded : Bool) (t : CompactData) → is_linked linked s.context.previous ≡ false → Says e at s first linked concluded t (Refused (StepNoFit first))
    not_read : (s : State) (first semicolon : Place) (linked concluded : Bool) (p : PropositionTree) (j : JustData) (ks : List EqualityStepTree) (r : ProofRefusal) (l : Left) (kept : Bool) →
        is_linked linked s.context.previous ≡ true → CompactRead e s.context first s.left p ks (Err r) l → KeepsAhead e s.context linked (nodes_alone s.left) p j ks kept →
        Says e at s first linked concluded (StatedCompact p j ks semicolon) (Refused (told_unread e s.context first semicolon s.left.obligations j ks kept r))
    unfit : (s : State) (first semicolon : Place) (linked concluded : Bool) (p : PropositionTree) (j : JustData) (ks : List EqualityStepTree) (x : Compact) (l : Left) (r : ProofRefusal) →
        is_linked linked s.context.previous ≡ true → CompactRead e s.context first s.left p ks (Ok x) l →
        Performs e first (with_left s l) (step_of concluded x.said.states) (compact_stated p x ∷ []) (Err r) → Says e at s first linked concluded (StatedCompact p j ks semicolon) (Refused r)
    instance_too_large : (s u : State) (first semicolon : Place) (linked concluded : Bool) (p : PropositionTree) (j : JustData) (ks : List EqualityStepTree) (x : Compact) (l : Left) →
        is_linked linked s.context.previous ≡ true → CompactRead e s.context first s.left p ks (Ok x) l →
        Performs e first (with_left s l) (step_of concluded x.said.states) (compact_stated p x ∷ []) (Ok u) →
        sides_keep e s.context ks x.said.further ≡ false → Says e at s first linked concluded (StatedCompact p j ks semicolon) (Refused (Resolve (TooLarge first)))
    not_justified : (s u : State) (first semicolon : Place) (linked concluded : Bool) (p : PropositionTree) (j : JustData) (ks : List EqualityStepTree) (x : Compact) (l : Left) (r : ProofRefusal) →
        is_linked linked s.context.previous ≡ true → CompactRead e s.context first s.left p ks (Ok x) l →
        Performs e first (with_left s l) (step_of concluded x.said.states) (compact_stated p x ∷ []) (Ok u) → sides_keep e s.context ks x.said.further ≡ true →
        Justifies e at s.context first linked (place_behind ks semicolon) j x.sentence l (Refused r) → Says e at s first linked concluded (StatedCompact p j ks semicolon) (Refused r)
    justified : (s u : State) (first semicolon : Place) (linked concluded : Bool) (p : PropositionTree) (j : JustData) (ks : List EqualityStepTree) (x : Compact) (l m : Left) (os : List Obligation) (o : Walked Left) →
        is_linked linked s.context.previous ≡ true → CompactRead e s.context first s.left p ks (Ok x) l →
        Performs e first (with_left s l) (step_of concluded x.said.states) (compact_stated p x ∷ []) (Ok u) → sides_keep e s.context ks x.said.further ≡ true →
        Justifies e at s.context first linked (place_behind ks semicolon) j x.sentence l (Made os m) →
        JustifiesSides e at s.context first semicolon ks x.said.further m o → Says e at s first linked concluded (StatedCompact p j ks semicolon) (led_to u (behind os o))

  -- a `now` under the label, or `hereby`, by which what its steps state is concluded
  pub data SaysNow (e : Environment) (at : Extent) : State → Place → Bool → List ℕ → StepList → Walked State → Type 0 where
    now_stopped : (s : State) (first : Place) (concluded : Bool) (label : List ℕ) (ds : StepList) (r : ProofRefusal) →
        GoesAll e at (state (at_start_of_now s.context) (Now []) s.left) ds (Refused r) → SaysNow e at s first concluded label ds (Refused r)
    now_too_large : (s t : State) (first : Place) (concluded : Bool) (label : List ℕ) (ds : StepList) (os : List Obligation) →
        GoesAll e at (state (at_start_of_now s.context) (Now []) s.left) ds (Made os t) → stated_in t.block ≡ None → SaysNow e at s first concluded label ds (Refused (Resolve (TooLarge first)))
    now_stated : (s t : State) (first : Place) (concluded : Bool) (label : List ℕ) (ds : StepList) (os : List Obligation) (x : Statement) (o : Result State ProofRefusal) →
        GoesAll e at (state (at_start_of_now s.context) (Now []) s.left) ds (Made os t) → stated_in t.block ≡ Some x →
        Performs e first (with_left s t.left) (step_of concluded x) (stated_under label x ∷ []) o → SaysNow e at s first concluded label ds (behind os (without_obligations o))

  -- a statement
  pub data States (e : Environment) (at : Extent) : State → Place → StatementData → Walked State → Type 0 where
    says : (s : State) (first : Place) (then : Option Place) (t : CompactData) (o : Walked State) → Says e at s first (is_some then) false t o → States e at s first (CompactStatement then t) o
    says_now : (s : State) (first p end semicolon : Place) (label : Option LabelTree) (ds : StepList) (o : Walked State) →
        SaysNow e at s first false (label_in label) ds o → States e at s first (NowStatement label p ds end semicolon) o
    introduces : (s : State) (first : Place) (t : IntroductionTree) (o : Walked State) → Introduces e at first s t o → States e at s first (IntroductionStatement t) o

  -- a step
  pub data Goes (e : Environment) (at : Extent) : State → Place → StepData → Walked State → Type 0 where
    states : (s : State) (first : Place) (t : StatementData) (o : Walked State) → States e at s first t o → Goes e at s first (StatementStep t) o
    thus : (s : State) (first p : Place) (t : CompactData) (o : Walked State) → Says e at s first false true t o → Goes e at s first (ThusStep p t) o
    hence : (s : State) (first p : Place) (t : CompactData) (o : Walked State) → Says e at s first true true t o → Goes e at s first (HenceStep p t) o
    hereby : (s : State) (first p end semicolon : Place) (ds : StepList) (o : Walked State) → SaysNow e at s first true [] ds o → Goes e at s first (HerebyStep p ds end semicolon) o
    steps_on : (s : State) (first : Place) (t : SkeletonTree) (o : Result State ProofRefusal) → StepsOn e first s t o → Goes e at s first (SkeletonStep t) (without_obligations o)
    split_in_now : (s : State) (first : Place) (t : SplitTree) (u : SupposeData) (us : SupposeList) → is_now s.block ≡ true → Goes e at s first (CasesStep t u us) (Refused (StepNoFit first))
    splits : (s : State) (first : Place) (t : SplitTree) (u : SupposeData) (us : SupposeList) (o : Walked State) →
        is_now s.block ≡ false → Splits e at s first t (more_supposes u us) o → Goes e at s first (CasesStep t u us) o

  -- a split into cases: what can be told of it ahead comes first, for it stands at its first token. What justifies it is looked at
  -- before the cases; what it has to justify, that one of the cases holds, is asked before what they ask
  pub data Splits (e : Environment) (at : Extent) : State → Place → SplitTree → SupposeList → Walked State → Type 0 where
    foreseen : (s : State) (first : Place) (t : SplitTree) (us : SupposeList) (r : ProofRefusal) → Foresees e first s.context s.left (is_some t.then) t.simple us (Some r) → Splits e at s first t us (Refused r)
    not_grounded : (s : State) (first : Place) (t : SplitTree) (us : SupposeList) (r : ProofRefusal) (l : Left) →
        Foresees e first s.context s.left (is_some t.then) t.simple us None → Grounds e s.context first (is_some t.then) t.semicolon t.simple s.left (Err r) l → Splits e at s first t us (Refused r)
    cases_stopped : (s : State) (first : Place) (t : SplitTree) (us : SupposeList) (given : Given) (l : Left) (r : ProofRefusal) →
        Foresees e first s.context s.left (is_some t.then) t.simple us None → Grounds e s.context first (is_some t.then) t.semicolon t.simple s.left (Ok given) l → Supposes e at s.context us l (Refused r) → Splits e at s first t us (Refused r)
    cases_too_large : (s : State) (first : Place) (t : SplitTree) (us : SupposeList) (given : Given) (l : Left) (os : List Obligation) (x : Cases) (r : Refusal) →
        Foresees e first s.context s.left (is_some t.then) t.simple us None → Grounds e s.context first (is_some t.then) t.semicolon t.simple s.left (Ok given) l → Supposes e at s.context us l (Made os x) →
        within statement_keeps first (disjunction_of x.suppositions) ≡ Err r → Splits e at s first t us (Refused (Resolve r))
    split : (s : State) (first : Place) (t : SplitTree) (us : SupposeList) (given : Given) (l : Left) (os : List Obligation) (x : Cases) (y : Statement) (o : Obligation) →
        Foresees e first s.context s.left (is_some t.then) t.simple us None → Grounds e s.context first (is_some t.then) t.semicolon t.simple s.left (Ok given) l → Supposes e at s.context us l (Made os x) →
        within statement_keeps first (disjunction_of x.suppositions) ≡ Ok y →
        Owes e at s.context given y (place_of t.semicolon t.simple) o →
        Splits e at s first t us (Made (o ∷ os) (behind_cases s x.left))

  -- cases, each of which proves the thesis of the context from what it supposes
  pub data Supposes (e : Environment) (at : Extent) : Context → SupposeList → Left → Walked Cases → Type 0 where
    no_case : (c : Context) (l : Left) → Supposes e at c no_supposes l (Made [] (no_cases l))
    not_supposed : (c : Context) (l m : Left) (p q end semicolon : Place) (h : HypothesesTree) (ds : StepList) (us : SupposeList) (r : Refusal) →
        PropositionsRead e c 0 l (hypotheses_in h) (Err r) m → Supposes e at c (more_supposes (CaseSuppose p h q ds end semicolon) us) l (Refused (Resolve r))
    supposition_too_large : (c : Context) (l m : Left) (p q end semicolon : Place) (h : HypothesesTree) (ds : StepList) (us : SupposeList) (ps : List LabelledStatement) (r : Refusal) →
        PropositionsRead e c 0 l (hypotheses_in h) (Ok ps) m → joined_within p ps ≡ Err r → Supposes e at c (more_supposes (CaseSuppose p h q ds end semicolon) us) l (Refused (Resolve r))
    case_not_proved : (c : Context) (l m : Left) (p q end semicolon : Place) (h : HypothesesTree) (ds : StepList) (us : SupposeList) (ps : List LabelledStatement) (x : Statement) (r : ProofRefusal) →
        PropositionsRead e c 0 l (hypotheses_in h) (Ok ps) m → joined_within p ps ≡ Ok x → Proves e at (with_stated c ps) ds end m (Refused r) →
        Supposes e at c (more_supposes (CaseSuppose p h q ds end semicolon) us) l (Refused r)
    one_more : (c : Context) (l m n : Left) (p q end semicolon : Place) (h : HypothesesTree) (ds : StepList) (us : SupposeList) (ps : List LabelledStatement) (x : Statement) (os : List Obligation) (o : Walked Cases) →
        PropositionsRead e c 0 l (hypotheses_in h) (Ok ps) m → joined_within p ps ≡ Ok x → Proves e at (with_stated c ps) ds end m (Made os n) →
        Supposes e at c us n o → Supposes e at c (more_supposes (CaseSuppose p h q ds end semicolon) us) l (behind os (with_case x o))

  -- steps one after another
  pub data GoesAll (e : Environment) (at : Extent) : State → StepList → Walked State → Type 0 where
    no_more : (s : State) → GoesAll e at s no_steps (Made [] s)
    stopped : (s : State) (d : StepData) (ds : StepList) (first : Place) (r : ProofRefusal) → first_place (spell_step d) ≡ Some first → Goes e at s first d (Refused r) → GoesAll e at s (more_steps d ds) (Refused r)
    goes_on : (s t : State) (d : StepData) (ds : StepList) (first : Place) (os : List Obligation) (o : Walked State) →
        first_place (spell_step d) ≡ Some first → Goes e at s first d (Made os t) → GoesAll e at t ds o → GoesAll e at s (more_steps d ds) (behind os o)
