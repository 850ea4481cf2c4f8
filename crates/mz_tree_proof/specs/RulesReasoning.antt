-- The rules beside the alternatives of the grammar, for reasonings.
use Rattle.std.specs.Prelude.{◌≡◌, Bool, true, false, List, [], ◌∷◌, codes}
use Rattle.std.specs.Str.{bytes_eq}
use Rattle.mz_tree.specs.Trees.{FormulaData, PlainFormula, ChainDisjunction, ChainConjunction, PredicateBothUnit, ListTerms, no_next_terms, no_next_units, no_next_conjunctions}
use Rattle.mz_tree.specs.Rules.{Every}
use Rattle.mz_tree_proof.specs.declared.equality_step.EqualityStepTree.{EqualityStepTree}
use Rattle.mz_tree_proof.specs.declared.propositions.PropositionTree.{PropositionTree}
use Rattle.mz_tree_proof.specs.Reasoning.{JustData, CompactData, StatementData, StepData, SupposeData, StepList, SupposeList, SimpleJust, ProofJust, StatedCompact, CompactStatement, NowStatement, IntroductionStatement, StatementStep, ThusStep, HenceStep, HerebyStep, SkeletonStep, CasesStep, CaseSuppose, no_steps, more_steps, no_supposes, more_supposes}
use Rattle.mz_tree_proof.specs.Rules.{IsProposition, AreHypotheses, IsSimple, IsEqualityStep, IsIntroduction, IsSkeleton, IsSplit}

-- one equation of two terms, without parentheses
abbrev pub is_plain_equation : FormulaData → Bool
is_plain_equation (PlainFormula (ChainDisjunction (ChainConjunction (PredicateBothUnit (ListTerms t no_next_terms) w (ListTerms u no_next_terms)) no_next_units) no_next_conjunctions)) = bytes_eq w.spelling (codes "=")
is_plain_equation _ = false

abbrev pub is_simple : JustData → Bool
is_simple (SimpleJust a) = true
is_simple (ProofJust a b c) = false

-- `.=` stands only behind a plain equation whose justification is simple
abbrev pub MayContinue : PropositionTree → JustData → List EqualityStepTree → Type 0
MayContinue a b [] = Unit {0}
MayContinue a b (c ∷ cs) = (is_plain_equation a.formula ≡ true) × (is_simple b ≡ true)

-- a split into cases is the last step
abbrev pub MayPrecede : StepData → StepList → Type 0
MayPrecede (StatementStep a) ts = Unit {0}
MayPrecede (ThusStep a b) ts = Unit {0}
MayPrecede (HenceStep a b) ts = Unit {0}
MayPrecede (HerebyStep a b c d) ts = Unit {0}
MayPrecede (SkeletonStep a) ts = Unit {0}
MayPrecede (CasesStep a b c) no_steps = Unit {0}
MayPrecede (CasesStep a b c) (more_steps t ts) = ⊥

abbrev mutual
  pub IsJust : JustData → Type 0
  IsJust (SimpleJust a) = IsSimple a
  IsJust (ProofJust a b c) = AreSteps b

  pub IsCompact : CompactData → Type 0
  IsCompact (StatedCompact a b c d) = IsProposition a × IsJust b × Every IsEqualityStep c × MayContinue a b c

  pub IsStatement : StatementData → Type 0
  IsStatement (CompactStatement a b) = IsCompact b
  IsStatement (NowStatement a b c d e) = AreSteps c
  IsStatement (IntroductionStatement a) = IsIntroduction a

  pub IsStep : StepData → Type 0
  IsStep (StatementStep a) = IsStatement a
  IsStep (ThusStep a b) = IsCompact b
  IsStep (HenceStep a b) = IsCompact b
  IsStep (HerebyStep a b c d) = AreSteps b
  IsStep (SkeletonStep a) = IsSkeleton a
  IsStep (CasesStep a b c) = IsSplit a × IsSuppose b × AreSupposes c

  pub IsSuppose : SupposeData → Type 0
  IsSuppose (CaseSuppose a b c d e f) = AreHypotheses b × AreSteps d

  -- a reasoning
  pub AreSteps : StepList → Type 0
  AreSteps no_steps = Unit {0}
  AreSteps (more_steps t ts) = IsStep t × MayPrecede t ts × AreSteps ts

  pub AreSupposes : SupposeList → Type 0
  AreSupposes no_supposes = Unit {0}
  AreSupposes (more_supposes t ts) = IsSuppose t × AreSupposes ts
