-- The walk over the steps of a reasoning leads to one outcome at most.
use Rattle.std.proofs.Common.{◌≡◌, true, false, [], refl}
use Rattle.std.specs.Prelude.{is_some}
use Rattle.mz_base.specs.declared.place.Place.{Place}
use Rattle.mz_environment.specs.declared.environment.Environment.{Environment}
use Rattle.mz_tree_proof.specs.Reasoning.{JustData, CompactData, StatementData, StepData, SupposeData, StepList, SupposeList, SimpleJust, ProofJust, StatedCompact, CompactStatement, NowStatement, IntroductionStatement, StatementStep, ThusStep, HenceStep, HerebyStep, SkeletonStep, CasesStep, CaseSuppose, no_steps, more_steps, no_supposes, more_supposes}
use Rattle.mz_tree_proof.specs.declared.skeleton.SkeletonTree.{SkeletonTree}
use Rattle.mz_tree_proof.specs.declared.skeleton.SplitTree.{SplitTree}
use Rattle.mz_obligations.specs.declared.obligation.Extent.{Extent}
use Rattle.mz_parts.specs.Propositions.{label_in}
use Rattle.mz_justified.specs.declared.proof_fault.ProofRefusal.TheVariants.{StepNoFit}
use Rattle.mz_justified_laws.specs.Determined.{AtMostOne}
use Rattle.mz_justified_laws.proofs.Sequence.{one_by, one_value, IfSo, if_so, if_not, one_if, Makes, one_made}
use Rattle.mz_walk.specs.Walked.{State, Walked, Refused, without_obligations}
use Rattle.mz_walk.specs.Performing.{is_now}
use Rattle.mz_walk.specs.Skeleton.{StepsOn}
use Rattle.mz_walk.specs.Introductions.{Introduces}
use Rattle.mz_walk.specs.Walk as wk
use Rattle.mz_walk.specs.Walk.{Says, SaysNow, States, Goes, Splits}
use Rattle.mz_introduction_laws.proofs.OneIntroduction.{one_skeleton}
use Rattle.mz_introduction_laws.proofs.OneIntroduction.{one_introduction}
use Rattle.mz_walk_value_laws.specs.Laws.{OneJustifiedLaw, OneProofLaw, OneStatementLaw, OneStepLaw, OneCasesLaw, OneWalkLaw}
use Rattle.mz_walk_value_laws.proofs.OneBlock.{OneStep, OneReasoning, OneJustification, one_no_steps, one_more_steps, one_proof, one_simply, one_by_proof}
use Rattle.mz_walk_value_laws.proofs.OneSaid.{OneCompact, one_stated_compact, one_now}
use Rattle.mz_walk_value_laws.proofs.OneSplit.{OneCases, one_no_case, one_more_cases, one_split}

abbrev OneStatement : Environment → Extent → StatementData → Type 0
OneStatement e at t = (s : State) (first : Place) → AtMostOne (States e at s first t)

-- statements
abbrev StatesAs : Environment → Extent → State → Place → StatementData → Walked State → Type 0
StatesAs e at s first (CompactStatement then t) o = Says e at s first (is_some then) false t o
StatesAs e at s first (NowStatement label p ds end semicolon) o = SaysNow e at s first false (label_in label) ds o
StatesAs e at s first (IntroductionStatement t) o = Introduces e at first s t o

states_as : (e : Environment) (at : Extent) (s : State) (first : Place) (t : StatementData) (o : Walked State) → States e at s first t o → StatesAs e at s first t o
states_as e at s first t o (wk.says _ _ then x _ h) = h
states_as e at s first t o (wk.says_now _ _ p end semicolon label ds _ h) = h
states_as e at s first t o (wk.introduces _ _ x _ h) = h

one_stated : (e : Environment) (at : Extent) (t : StatementData) → ((s : State) (first : Place) → AtMostOne (StatesAs e at s first t)) → OneStatement e at t
one_stated e at t one s first = one_by (States e at s first t) (StatesAs e at s first t) (states_as e at s first t) (one s first)

-- steps
abbrev no_fit : Place → Walked State
no_fit first = Refused (StepNoFit first)

abbrev IsNoFit : Place → Walked State → Type 0
IsNoFit first o = o ≡ no_fit first

abbrev GoesAs : Environment → Extent → State → Place → StepData → Walked State → Type 0
GoesAs e at s first (StatementStep t) o = States e at s first t o
GoesAs e at s first (ThusStep p t) o = Says e at s first false true t o
GoesAs e at s first (HenceStep p t) o = Says e at s first true true t o
GoesAs e at s first (HerebyStep p ds end semicolon) o = SaysNow e at s first true [] ds o
GoesAs e at s first (SkeletonStep t) o = Makes (StepsOn e first s t) without_obligations o
GoesAs e at s first (CasesStep t u us) o = IfSo (is_now s.block) (IsNoFit first o) (Splits e at s first t (more_supposes u us) o)

goes_as : (e : Environment) (at : Extent) (s : State) (first : Place) (d : StepData) (o : Walked State) → Goes e at s first d o → GoesAs e at s first d o
goes_as e at s first d o (wk.states _ _ t _ h) = h
goes_as e at s first d o (wk.thus _ _ p t _ h) = h
goes_as e at s first d o (wk.hence _ _ p t _ h) = h
goes_as e at s first d o (wk.hereby _ _ p end semicolon ds _ h) = h
goes_as e at s first d o (wk.steps_on _ _ t x h) = (x, h, refl)
goes_as e at s first d o (wk.split_in_now _ _ t u us h) = if_so (is_now s.block) (IsNoFit first o) (Splits e at s first t (more_supposes u us) o) h refl
goes_as e at s first d o (wk.splits _ _ t u us _ h k) = if_not (is_now s.block) (IsNoFit first o) (Splits e at s first t (more_supposes u us) o) h k

one_gone : (e : Environment) (at : Extent) (d : StepData) → ((s : State) (first : Place) → AtMostOne (GoesAs e at s first d)) → OneStep e at d
one_gone e at d one s first = one_by (Goes e at s first d) (GoesAs e at s first d) (goes_as e at s first d) (one s first)

one_cases_step : (e : Environment) (at : Extent) (t : SplitTree) (u : SupposeData) (us : SupposeList) → OneCases e at (more_supposes u us) → OneStep e at (CasesStep t u us)
one_cases_step e at t u us one =
    one_gone e at (CasesStep t u us)
    (λ (s : State) (first : Place). one_if (is_now s.block) (IsNoFit first) (Splits e at s first t (more_supposes u us)) (one_value (no_fit first)) (one_split e at t (more_supposes u us) one s first))

one_skeleton_step : (e : Environment) (at : Extent) (t : SkeletonTree) → OneStep e at (SkeletonStep t)
one_skeleton_step e at t = one_gone e at (SkeletonStep t) (λ (s : State) (first : Place). one_made (StepsOn e first s t) without_obligations (one_skeleton e first s t))

-- the parts of a reasoning, by what each consists of
mutual
  one_just : (e : Environment) (at : Extent) (j : JustData) → OneJustification e at j
  one_just e at (SimpleJust t) = one_simply e at t
  one_just e at (ProofJust p ds end) = one_by_proof e at p ds end (one_steps e at ds)

  one_compact : (e : Environment) (at : Extent) (t : CompactData) → OneCompact e at t
  one_compact e at (StatedCompact t j ks semicolon) = one_stated_compact e at t j ks semicolon (one_just e at j)

  one_statement : (e : Environment) (at : Extent) (t : StatementData) → OneStatement e at t
  one_statement e at (CompactStatement then t) = one_stated e at (CompactStatement then t) (λ (s : State) (first : Place). one_compact e at t s first (is_some then) false)
  one_statement e at (NowStatement label p ds end semicolon) = one_stated e at (NowStatement label p ds end semicolon) (λ (s : State) (first : Place). one_now e at ds (one_steps e at ds) s first false (label_in label))
  one_statement e at (IntroductionStatement t) = one_stated e at (IntroductionStatement t) (λ (s : State) (first : Place). one_introduction e at first s t)

  one_step : (e : Environment) (at : Extent) (d : StepData) → OneStep e at d
  one_step e at (StatementStep t) = one_gone e at (StatementStep t) (one_statement e at t)
  one_step e at (ThusStep p t) = one_gone e at (ThusStep p t) (λ (s : State) (first : Place). one_compact e at t s first false true)
  one_step e at (HenceStep p t) = one_gone e at (HenceStep p t) (λ (s : State) (first : Place). one_compact e at t s first true true)
  one_step e at (HerebyStep p ds end semicolon) = one_gone e at (HerebyStep p ds end semicolon) (λ (s : State) (first : Place). one_now e at ds (one_steps e at ds) s first true [])
  one_step e at (SkeletonStep t) = one_skeleton_step e at t
  one_step e at (CasesStep t u us) = one_cases_step e at t u us (one_case e at u us (one_cases e at us))

  one_case : (e : Environment) (at : Extent) (u : SupposeData) (us : SupposeList) → OneCases e at us → OneCases e at (more_supposes u us)
  one_case e at (CaseSuppose p h q ds end semicolon) us others = one_more_cases e at p q end semicolon h ds us (one_steps e at ds) others

  one_steps : (e : Environment) (at : Extent) (ds : StepList) → OneReasoning e at ds
  one_steps e at no_steps = one_no_steps e at
  one_steps e at (more_steps d ds) = one_more_steps e at d ds (one_step e at d) (one_steps e at ds)

  one_cases : (e : Environment) (at : Extent) (us : SupposeList) → OneCases e at us
  one_cases e at no_supposes = one_no_case e at
  one_cases e at (more_supposes u us) = one_case e at u us (one_cases e at us)

pub one_justified_law : OneJustifiedLaw
one_justified_law e at c first linked place j x l = one_just e at j c first linked place x l

pub one_proof_law : OneProofLaw
one_proof_law e at c ds end l = one_proof e at ds (one_steps e at ds) c end l

pub one_statement_law : OneStatementLaw
one_statement_law e at s first t = one_statement e at t s first

pub one_step_law : OneStepLaw
one_step_law e at s first d = one_step e at d s first

pub one_cases_law : OneCasesLaw
one_cases_law e at c us l = one_cases e at us c l

pub one_walk_law : OneWalkLaw
one_walk_law e at s ds = one_steps e at ds s
