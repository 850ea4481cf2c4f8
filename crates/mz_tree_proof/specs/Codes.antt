-- How the trees of reasonings are stored: the number of the variant, then its fields.
use Rattle.std.specs.Prelude.{◌≡◌, ℕ, List, refl, Option}
use Rattle.std.proofs.Common.{ap, sym, subst, arith}
use Rattle.std.specs.Coded.{Coded, coded_list, coded_option}
use base.Stored.{Gv, gnil, gnum, gcons}
use Rattle.mz_tree_proof.specs.declared.references.SimpleTree.{SimpleTree}
use Rattle.mz_tree_proof.specs.contracts.references.SimpleTree.{the_row as simple_row}
use Rattle.mz_tree_proof.specs.declared.propositions.PropositionTree.{PropositionTree}
use Rattle.mz_tree_proof.specs.contracts.propositions.PropositionTree.{the_row as proposition_row}
use Rattle.mz_tree_proof.specs.declared.references.LabelTree.{LabelTree}
use Rattle.mz_tree_proof.specs.contracts.references.LabelTree.{the_row as label_row}
use Rattle.mz_tree_proof.specs.declared.equality_step.EqualityStepTree.{EqualityStepTree}
use Rattle.mz_tree_proof.specs.contracts.equality_step.EqualityStepTree.{the_row as equality_step_row}
use Rattle.mz_tree_proof.specs.declared.introduction.IntroductionTree.{IntroductionTree}
use Rattle.mz_tree_proof.specs.contracts.introduction.IntroductionTree.{the_row as introduction_row}
use Rattle.mz_tree_proof.specs.declared.skeleton.SkeletonTree.{SkeletonTree}
use Rattle.mz_tree_proof.specs.contracts.skeleton.SkeletonTree.{the_row as skeleton_row}
use Rattle.mz_tree_proof.specs.declared.skeleton.SplitTree.{SplitTree}
use Rattle.mz_tree_proof.specs.contracts.skeleton.SplitTree.{the_row as split_row}
use Rattle.mz_tree_proof.specs.declared.propositions.HypothesesTree.{HypothesesTree}
use Rattle.mz_tree_proof.specs.contracts.propositions.HypothesesTree.{the_row as hypotheses_row}
use Rattle.mz_base.specs.declared.place.Place.{Place}
use Rattle.mz_base.specs.contracts.place.Place.{the_row as place_row}
use Rattle.mz_tree_proof.specs.Reasoning.{JustData, CompactData, StatementData, StepData, SupposeData, StepList, SupposeList, SimpleJust, ProofJust, StatedCompact, CompactStatement, NowStatement, IntroductionStatement, StatementStep, ThusStep, HenceStep, HerebyStep, SkeletonStep, CasesStep, CaseSuppose, no_steps, more_steps, no_supposes, more_supposes}

abbrev simple_code : Coded SimpleTree
simple_code = simple_row.coded

abbrev proposition_code : Coded PropositionTree
proposition_code = proposition_row.coded

abbrev label_code : Coded LabelTree
label_code = label_row.coded

abbrev equality_step_code : Coded EqualityStepTree
equality_step_code = equality_step_row.coded

abbrev introduction_code : Coded IntroductionTree
introduction_code = introduction_row.coded

abbrev skeleton_code : Coded SkeletonTree
skeleton_code = skeleton_row.coded

abbrev split_code : Coded SplitTree
split_code = split_row.coded

abbrev hypotheses_code : Coded HypothesesTree
hypotheses_code = hypotheses_row.coded

abbrev place_code : Coded Place
place_code = place_row.coded

abbrev maybe_place_code : Coded (Option Place)
maybe_place_code = coded_option place_code

abbrev maybe_label_code : Coded (Option LabelTree)
maybe_label_code = coded_option label_code

abbrev equality_steps_code : Coded (List EqualityStepTree)
equality_steps_code = coded_list equality_step_code

abbrev mutual
  pub just_gv : JustData → Gv
  just_gv (SimpleJust a) = gcons (gnum 0) (gcons (simple_code.code a) gnil)
  just_gv (ProofJust a b c) = gcons (gnum 1) (gcons (place_code.code a) (gcons (step_list_gv b) (gcons (place_code.code c) gnil)))

  pub compact_gv : CompactData → Gv
  compact_gv (StatedCompact a b c d) = gcons (gnum 0) (gcons (proposition_code.code a) (gcons (just_gv b) (gcons (equality_steps_code.code c) (gcons (place_code.code d) gnil))))

  pub statement_gv : StatementData → Gv
  statement_gv (CompactStatement a b) = gcons (gnum 0) (gcons (maybe_place_code.code a) (gcons (compact_gv b) gnil))
  statement_gv (NowStatement a b c d e) = gcons (gnum 1) (gcons (maybe_label_code.code a) (gcons (place_code.code b) (gcons (step_list_gv c) (gcons (place_code.code d) (gcons (place_code.code e) gnil)))))
  statement_gv (IntroductionStatement a) = gcons (gnum 2) (gcons (introduction_code.code a) gnil)

  pub step_gv : StepData → Gv
  step_gv (StatementStep a) = gcons (gnum 0) (gcons (statement_gv a) gnil)
  step_gv (ThusStep a b) = gcons (gnum 1) (gcons (place_code.code a) (gcons (compact_gv b) gnil))
  step_gv (HenceStep a b) = gcons (gnum 2) (gcons (place_code.code a) (gcons (compact_gv b) gnil))
  step_gv (HerebyStep a b c d) = gcons (gnum 3) (gcons (place_code.code a) (gcons (step_list_gv b) (gcons (place_code.code c) (gcons (place_code.code d) gnil))))
  step_gv (SkeletonStep a) = gcons (gnum 4) (gcons (skeleton_code.code a) gnil)
  step_gv (CasesStep a b c) = gcons (gnum 5) (gcons (split_code.code a) (gcons (suppose_gv b) (gcons (suppose_list_gv c) gnil)))

  pub suppose_gv : SupposeData → Gv
  suppose_gv (CaseSuppose a b c d e f) = gcons (gnum 0) (gcons (place_code.code a) (gcons (hypotheses_code.code b) (gcons (place_code.code c) (gcons (step_list_gv d) (gcons (place_code.code e) (gcons (place_code.code f) gnil))))))

  pub step_list_gv : StepList → Gv
  step_list_gv no_steps = gnil
  step_list_gv (more_steps t ts) = gcons (step_gv t) (step_list_gv ts)

  pub suppose_list_gv : SupposeList → Gv
  suppose_list_gv no_supposes = gnil
  suppose_list_gv (more_supposes t ts) = gcons (suppose_gv t) (suppose_list_gv ts)

abbrev left : Gv → Gv
left gnil = gnil
left (gnum n) = gnil
left (gcons a b) = a

abbrev right : Gv → Gv
right gnil = gnil
right (gnum n) = gnil
right (gcons a b) = b

abbrev IsPair : Gv → Type 0
IsPair gnil = ⊥
IsPair (gnum n) = ⊥
IsPair (gcons a b) = Unit {0}

abbrev number : Gv → ℕ
number gnil = 0
number (gnum n) = n
number (gcons a b) = 0

mutual
  pub just_inj : (a b : JustData) → just_gv a ≡ just_gv b → a ≡ b
  just_inj (SimpleJust a) (SimpleJust s) p = λ i. SimpleJust (simple_code.inj a s (ap left (ap right p)) i)
  just_inj (SimpleJust a) (ProofJust s t u) p = let e : 0 ≡ 1 = ap (λ g. number (left g)) p in absurd (omega (arith, e))
  just_inj (ProofJust a b c) (SimpleJust s) p = let e : 1 ≡ 0 = ap (λ g. number (left g)) p in absurd (omega (arith, e))
  just_inj (ProofJust a b c) (ProofJust s t u) p = λ i. ProofJust (place_code.inj a s (ap left (ap right p)) i) (step_list_inj b t (ap left (ap right (ap right p))) i) (place_code.inj c u (ap left (ap right (ap right (ap right p)))) i)

  pub compact_inj : (a b : CompactData) → compact_gv a ≡ compact_gv b → a ≡ b
  compact_inj (StatedCompact a b c d) (StatedCompact s t u v) p = λ i. StatedCompact (proposition_code.inj a s (ap left (ap right p)) i) (just_inj b t (ap left (ap right (ap right p))) i) (equality_steps_code.inj c u (ap left (ap right (ap right (ap right p)))) i) (place_code.inj d v (ap left (ap right (ap right (ap right (ap right p))))) i)

  pub statement_inj : (a b : StatementData) → statement_gv a ≡ statement_gv b → a ≡ b
  statement_inj (CompactStatement a b) (CompactStatement s t) p = λ i. CompactStatement (maybe_place_code.inj a s (ap left (ap right p)) i) (compact_inj b t (ap left (ap right (ap right p))) i)
  statement_inj (CompactStatement a b) (NowStatement s t u v w) p = let e : 0 ≡ 1 = ap (λ g. number (left g)) p in absurd (omega (arith, e))
  statement_inj (CompactStatement a b) (IntroductionStatement s) p = let e : 0 ≡ 2 = ap (λ g. number (left g)) p in absurd (omega (arith, e))
  statement_inj (NowStatement a b c d e) (CompactStatement s t) p = let e : 1 ≡ 0 = ap (λ g. number (left g)) p in absurd (omega (arith, e))
  statement_inj (NowStatement a b c d e) (NowStatement s t u v w) p = λ i. NowStatement (maybe_label_code.inj a s (ap left (ap right p)) i) (place_code.inj b t (ap left (ap right (ap right p))) i) (step_list_inj c u (ap left (ap right (ap right (ap right p)))) i) (place_code.inj d v (ap left (ap right (ap right (ap right (ap right p))))) i) (place_code.inj e w (ap left (ap right (ap right (ap right (ap right (ap right p)))))) i)
  statement_inj (NowStatement a b c d e) (IntroductionStatement s) p = let e : 1 ≡ 2 = ap (λ g. number (left g)) p in absurd (omega (arith, e))
  statement_inj (IntroductionStatement a) (CompactStatement s t) p = let e : 2 ≡ 0 = ap (λ g. number (left g)) p in absurd (omega (arith, e))
  statement_inj (IntroductionStatement a) (NowStatement s t u v w) p = let e : 2 ≡ 1 = ap (λ g. number (left g)) p in absurd (omega (arith, e))
  statement_inj (IntroductionStatement a) (IntroductionStatement s) p = λ i. IntroductionStatement (introduction_code.inj a s (ap left (ap right p)) i)

  pub step_inj : (a b : StepData) → step_gv a ≡ step_gv b → a ≡ b
  step_inj (StatementStep a) (StatementStep s) p = λ i. StatementStep (statement_inj a s (ap left (ap right p)) i)
  step_inj (StatementStep a) (ThusStep s t) p = let e : 0 ≡ 1 = ap (λ g. number (left g)) p in absurd (omega (arith, e))
  step_inj (StatementStep a) (HenceStep s t) p = let e : 0 ≡ 2 = ap (λ g. number (left g)) p in absurd (omega (arith, e))
  step_inj (StatementStep a) (HerebyStep s t u v) p = let e : 0 ≡ 3 = ap (λ g. number (left g)) p in absurd (omega (arith, e))
  step_inj (StatementStep a) (SkeletonStep s) p = let e : 0 ≡ 4 = ap (λ g. number (left g)) p in absurd (omega (arith, e))
  step_inj (StatementStep a) (CasesStep s t u) p = let e : 0 ≡ 5 = ap (λ g. number (left g)) p in absurd (omega (arith, e))
  step_inj (ThusStep a b) (StatementStep s) p = let e : 1 ≡ 0 = ap (λ g. number (left g)) p in absurd (omega (arith, e))
  step_inj (ThusStep a b) (ThusStep s t) p = λ i. ThusStep (place_code.inj a s (ap left (ap right p)) i) (compact_inj b t (ap left (ap right (ap right p))) i)
  step_inj (ThusStep a b) (HenceStep s t) p = let e : 1 ≡ 2 = ap (λ g. number (left g)) p in absurd (omega (arith, e))
  step_inj (ThusStep a b) (HerebyStep s t u v) p = let e : 1 ≡ 3 = ap (λ g. number (left g)) p in absurd (omega (arith, e))
  step_inj (ThusStep a b) (SkeletonStep s) p = let e : 1 ≡ 4 = ap (λ g. number (left g)) p in absurd (omega (arith, e))
  step_inj (ThusStep a b) (CasesStep s t u) p = let e : 1 ≡ 5 = ap (λ g. number (left g)) p in absurd (omega (arith, e))
  step_inj (HenceStep a b) (StatementStep s) p = let e : 2 ≡ 0 = ap (λ g. number (left g)) p in absurd (omega (arith, e))
  step_inj (HenceStep a b) (ThusStep s t) p = let e : 2 ≡ 1 = ap (λ g. number (left g)) p in absurd (omega (arith, e))
  step_inj (HenceStep a b) (HenceStep s t) p = λ i. HenceStep (place_code.inj a s (ap left (ap right p)) i) (compact_inj b t (ap left (ap right (ap right p))) i)
  step_inj (HenceStep a b) (HerebyStep s t u v) p = let e : 2 ≡ 3 = ap (λ g. number (left g)) p in absurd (omega (arith, e))
  step_inj (HenceStep a b) (SkeletonStep s) p = let e : 2 ≡ 4 = ap (λ g. number (left g)) p in absurd (omega (arith, e))
  step_inj (HenceStep a b) (CasesStep s t u) p = let e : 2 ≡ 5 = ap (λ g. number (left g)) p in absurd (omega (arith, e))
  step_inj (HerebyStep a b c d) (StatementStep s) p = let e : 3 ≡ 0 = ap (λ g. number (left g)) p in absurd (omega (arith, e))
  step_inj (HerebyStep a b c d) (ThusStep s t) p = let e : 3 ≡ 1 = ap (λ g. number (left g)) p in absurd (omega (arith, e))
  step_inj (HerebyStep a b c d) (HenceStep s t) p = let e : 3 ≡ 2 = ap (λ g. number (left g)) p in absurd (omega (arith, e))
  step_inj (HerebyStep a b c d) (HerebyStep s t u v) p = λ i. HerebyStep (place_code.inj a s (ap left (ap right p)) i) (step_list_inj b t (ap left (ap right (ap right p))) i) (place_code.inj c u (ap left (ap right (ap right (ap right p)))) i) (place_code.inj d v (ap left (ap right (ap right (ap right (ap right p))))) i)
  step_inj (HerebyStep a b c d) (SkeletonStep s) p = let e : 3 ≡ 4 = ap (λ g. number (left g)) p in absurd (omega (arith, e))
  step_inj (HerebyStep a b c d) (CasesStep s t u) p = let e : 3 ≡ 5 = ap (λ g. number (left g)) p in absurd (omega (arith, e))
  step_inj (SkeletonStep a) (StatementStep s) p = let e : 4 ≡ 0 = ap (λ g. number (left g)) p in absurd (omega (arith, e))
  step_inj (SkeletonStep a) (ThusStep s t) p = let e : 4 ≡ 1 = ap (λ g. number (left g)) p in absurd (omega (arith, e))
  step_inj (SkeletonStep a) (HenceStep s t) p = let e : 4 ≡ 2 = ap (λ g. number (left g)) p in absurd (omega (arith, e))
  step_inj (SkeletonStep a) (HerebyStep s t u v) p = let e : 4 ≡ 3 = ap (λ g. number (left g)) p in absurd (omega (arith, e))
  step_inj (SkeletonStep a) (SkeletonStep s) p = λ i. SkeletonStep (skeleton_code.inj a s (ap left (ap right p)) i)
  step_inj (SkeletonStep a) (CasesStep s t u) p = let e : 4 ≡ 5 = ap (λ g. number (left g)) p in absurd (omega (arith, e))
  step_inj (CasesStep a b c) (StatementStep s) p = let e : 5 ≡ 0 = ap (λ g. number (left g)) p in absurd (omega (arith, e))
  step_inj (CasesStep a b c) (ThusStep s t) p = let e : 5 ≡ 1 = ap (λ g. number (left g)) p in absurd (omega (arith, e))
  step_inj (CasesStep a b c) (HenceStep s t) p = let e : 5 ≡ 2 = ap (λ g. number (left g)) p in absurd (omega (arith, e))
  step_inj (CasesStep a b c) (HerebyStep s t u v) p = let e : 5 ≡ 3 = ap (λ g. number (left g)) p in absurd (omega (arith, e))
  step_inj (CasesStep a b c) (SkeletonStep s) p = let e : 5 ≡ 4 = ap (λ g. number (left g)) p in absurd (omega (arith, e))
  step_inj (CasesStep a b c) (CasesStep s t u) p = λ i. CasesStep (split_code.inj a s (ap left (ap right p)) i) (suppose_inj b t (ap left (ap right (ap right p))) i) (suppose_list_inj c u (ap left (ap right (ap right (ap right p)))) i)

  pub suppose_inj : (a b : SupposeData) → suppose_gv a ≡ suppose_gv b → a ≡ b
  suppose_inj (CaseSuppose a b c d e f) (CaseSuppose s t u v w x) p = λ i. CaseSuppose (place_code.inj a s (ap left (ap right p)) i) (hypotheses_code.inj b t (ap left (ap right (ap right p))) i) (place_code.inj c u (ap left (ap right (ap right (ap right p)))) i) (step_list_inj d v (ap left (ap right (ap right (ap right (ap right p))))) i) (place_code.inj e w (ap left (ap right (ap right (ap right (ap right (ap right p)))))) i) (place_code.inj f x (ap left (ap right (ap right (ap right (ap right (ap right (ap right p))))))) i)

  pub step_list_inj : (ts us : StepList) → step_list_gv ts ≡ step_list_gv us → ts ≡ us
  step_list_inj no_steps no_steps p = refl
  step_list_inj no_steps (more_steps u us) p = absurd (subst IsPair (sym p) tt)
  step_list_inj (more_steps t ts) no_steps p = absurd (subst IsPair p tt)
  step_list_inj (more_steps t ts) (more_steps u us) p = λ i. more_steps (step_inj t u (ap left p) i) (step_list_inj ts us (ap right p) i)

  pub suppose_list_inj : (ts us : SupposeList) → suppose_list_gv ts ≡ suppose_list_gv us → ts ≡ us
  suppose_list_inj no_supposes no_supposes p = refl
  suppose_list_inj no_supposes (more_supposes u us) p = absurd (subst IsPair (sym p) tt)
  suppose_list_inj (more_supposes t ts) no_supposes p = absurd (subst IsPair p tt)
  suppose_list_inj (more_supposes t ts) (more_supposes u us) p = λ i. more_supposes (suppose_inj t u (ap left p) i) (suppose_list_inj ts us (ap right p) i)

abbrev pub just_code : Coded JustData
just_code = record { code = just_gv; inj = just_inj }

abbrev pub compact_code : Coded CompactData
compact_code = record { code = compact_gv; inj = compact_inj }

abbrev pub statement_code : Coded StatementData
statement_code = record { code = statement_gv; inj = statement_inj }

abbrev pub step_code : Coded StepData
step_code = record { code = step_gv; inj = step_inj }

abbrev pub suppose_code : Coded SupposeData
suppose_code = record { code = suppose_gv; inj = suppose_inj }
