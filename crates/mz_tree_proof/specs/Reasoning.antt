-- The trees of reasonings, as contracts see them.
use Rattle.std.specs.Prelude.{◌≡◌, ℕ, suc, ◌+◌, ◌≤◌, List, [], ◌∷◌, refl, Option}
use Rattle.std.proofs.Common.{arith, ap, sym, ◌∙◌}
use denote.Param.Weighed.{most}
use Rattle.mz_base.specs.declared.place.Place.{Place}
use Rattle.mz_tree_proof.specs.declared.propositions.HypothesesTree.{HypothesesTree}
use Rattle.mz_tree_proof.specs.declared.references.LabelTree.{LabelTree}
use Rattle.mz_tree_proof.specs.declared.equality_step.EqualityStepTree.{EqualityStepTree}
use Rattle.mz_tree_proof.specs.declared.introduction.IntroductionTree.{IntroductionTree}
use Rattle.mz_tree_proof.specs.declared.propositions.PropositionTree.{PropositionTree}
use Rattle.mz_tree_proof.specs.declared.references.SimpleTree.{SimpleTree}
use Rattle.mz_tree_proof.specs.declared.skeleton.SkeletonTree.{SkeletonTree}
use Rattle.mz_tree_proof.specs.declared.skeleton.SplitTree.{SplitTree}

mutual
  -- A justification.
  pub data JustData : Type 0 where
    SimpleJust : SimpleTree → JustData
    ProofJust : Place → StepList → Place → JustData

  -- A proposition with its justification, and the further sides of an iterative equality.
  pub data CompactData : Type 0 where
    StatedCompact : PropositionTree → JustData → List EqualityStepTree → Place → CompactData

  -- A statement.
  pub data StatementData : Type 0 where
    CompactStatement : Option Place → CompactData → StatementData
    NowStatement : Option LabelTree → Place → StepList → Place → Place → StatementData
    IntroductionStatement : IntroductionTree → StatementData

  -- A step of a reasoning. A split into cases is one, which only the last step may be.
  pub data StepData : Type 0 where
    StatementStep : StatementData → StepData
    ThusStep : Place → CompactData → StepData
    HenceStep : Place → CompactData → StepData
    HerebyStep : Place → StepList → Place → Place → StepData
    SkeletonStep : SkeletonTree → StepData
    CasesStep : SplitTree → SupposeData → SupposeList → StepData

  -- A case: what it supposes, and its reasoning.
  pub data SupposeData : Type 0 where
    CaseSuppose : Place → HypothesesTree → Place → StepList → Place → Place → SupposeData

  -- A reasoning.
  pub data StepList : Type 0 where
    no_steps : StepList
    more_steps : StepData → StepList → StepList

  pub data SupposeList : Type 0 where
    no_supposes : SupposeList
    more_supposes : SupposeData → SupposeList → SupposeList

abbrev pub steps_of : List StepData → StepList
steps_of [] = no_steps
steps_of (t ∷ ts) = more_steps t (steps_of ts)

abbrev pub step_list : StepList → List StepData
step_list no_steps = []
step_list (more_steps t ts) = t ∷ step_list ts

pub step_list-steps_of : (ts : List StepData) → step_list (steps_of ts) ≡ ts
step_list-steps_of [] = refl
step_list-steps_of (t ∷ ts) = ap (λ us. t ∷ us) (step_list-steps_of ts)

pub steps_of-inj : (ts us : List StepData) → steps_of ts ≡ steps_of us → ts ≡ us
steps_of-inj ts us e = sym (step_list-steps_of ts) ∙ ap step_list e ∙ step_list-steps_of us

abbrev pub supposes_of : List SupposeData → SupposeList
supposes_of [] = no_supposes
supposes_of (t ∷ ts) = more_supposes t (supposes_of ts)

abbrev pub suppose_list : SupposeList → List SupposeData
suppose_list no_supposes = []
suppose_list (more_supposes t ts) = t ∷ suppose_list ts

pub suppose_list-supposes_of : (ts : List SupposeData) → suppose_list (supposes_of ts) ≡ ts
suppose_list-supposes_of [] = refl
suppose_list-supposes_of (t ∷ ts) = ap (λ us. t ∷ us) (suppose_list-supposes_of ts)

pub supposes_of-inj : (ts us : List SupposeData) → supposes_of ts ≡ supposes_of us → ts ≡ us
supposes_of-inj ts us e = sym (suppose_list-supposes_of ts) ∙ ap suppose_list e ∙ suppose_list-supposes_of us

-- one for a leaf, and one more than the parts together for every other tree
abbrev mutual
  pub just_size : JustData → ℕ
  just_size (SimpleJust a) = 1
  just_size (ProofJust a b c) = suc (step_list_size b)

  pub compact_size : CompactData → ℕ
  compact_size (StatedCompact a b c d) = suc (just_size b)

  pub statement_size : StatementData → ℕ
  statement_size (CompactStatement a b) = suc (compact_size b)
  statement_size (NowStatement a b c d e) = suc (step_list_size c)
  statement_size (IntroductionStatement a) = 1

  pub step_size : StepData → ℕ
  step_size (StatementStep a) = suc (statement_size a)
  step_size (ThusStep a b) = suc (compact_size b)
  step_size (HenceStep a b) = suc (compact_size b)
  step_size (HerebyStep a b c d) = suc (step_list_size b)
  step_size (SkeletonStep a) = 1
  step_size (CasesStep a b c) = suc (suppose_size b + suppose_list_size c)

  pub suppose_size : SupposeData → ℕ
  suppose_size (CaseSuppose a b c d e f) = suc (step_list_size d)

  pub step_list_size : StepList → ℕ
  step_list_size no_steps = 1
  step_list_size (more_steps t ts) = step_size t + suc (step_list_size ts)

  pub suppose_list_size : SupposeList → ℕ
  suppose_list_size no_supposes = 1
  suppose_list_size (more_supposes t ts) = suppose_size t + suc (suppose_list_size ts)

abbrev pub step_sizes : List StepData → ℕ
step_sizes ts = step_list_size (steps_of ts)

pub most_le-step_sizes : (ts : List StepData) → most (λ t. step_size t + 1) ts ≤ step_sizes ts
most_le-step_sizes [] = omega arith
most_le-step_sizes (t ∷ ts) = omega (arith, most_le-step_sizes ts)

abbrev pub suppose_sizes : List SupposeData → ℕ
suppose_sizes ts = suppose_list_size (supposes_of ts)

pub most_le-suppose_sizes : (ts : List SupposeData) → most (λ t. suppose_size t + 1) ts ≤ suppose_sizes ts
most_le-suppose_sizes [] = omega arith
most_le-suppose_sizes (t ∷ ts) = omega (arith, most_le-suppose_sizes ts)
