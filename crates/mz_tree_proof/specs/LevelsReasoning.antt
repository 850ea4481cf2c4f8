-- How many constructs are open at each token of reasonings. `proof`, `now`, `hereby` and `suppose` are open from that word
-- on up to the token before their `end`.
use Rattle.std.specs.Prelude.{ℕ, suc, List, [], ◌∷◌, ◌++◌, map}
use Rattle.std.specs.List.{flat_map}
use Rattle.mz_tree.specs.Spelled.{maybe}
use Rattle.mz_tree.specs.Levels.{levels_if}
use Rattle.mz_tree_proof.specs.Reasoning.{JustData, CompactData, StatementData, StepData, SupposeData, StepList, SupposeList, SimpleJust, ProofJust, StatedCompact, CompactStatement, NowStatement, IntroductionStatement, StatementStep, ThusStep, HenceStep, HerebyStep, SkeletonStep, CasesStep, CaseSuppose, no_steps, more_steps, no_supposes, more_supposes}
use Rattle.mz_tree_proof.specs.Levels.{levels_label, levels_proposition, levels_hypotheses, levels_simple, levels_equality_step, levels_introduction, levels_skeleton, levels_split}

abbrev mutual
  pub levels_just : JustData → List ℕ
  levels_just (SimpleJust a) = levels_simple a
  levels_just (ProofJust a b c) = 1 ∷ map suc (levels_step_list b) ++ 0 ∷ []

  pub levels_compact : CompactData → List ℕ
  levels_compact (StatedCompact a b c d) = levels_proposition a ++ levels_just b ++ flat_map levels_equality_step c ++ 0 ∷ []

  pub levels_statement : StatementData → List ℕ
  levels_statement (CompactStatement a b) = levels_if a ++ levels_compact b
  levels_statement (NowStatement a b c d e) = maybe levels_label a ++ 1 ∷ map suc (levels_step_list c) ++ 0 ∷ 0 ∷ []
  levels_statement (IntroductionStatement a) = levels_introduction a

  pub levels_step : StepData → List ℕ
  levels_step (StatementStep a) = levels_statement a
  levels_step (ThusStep a b) = 0 ∷ levels_compact b
  levels_step (HenceStep a b) = 0 ∷ levels_compact b
  levels_step (HerebyStep a b c d) = 1 ∷ map suc (levels_step_list b) ++ 0 ∷ 0 ∷ []
  levels_step (SkeletonStep a) = levels_skeleton a
  levels_step (CasesStep a b c) = levels_split a ++ levels_suppose b ++ levels_suppose_list c

  pub levels_suppose : SupposeData → List ℕ
  levels_suppose (CaseSuppose a b c d e f) = 1 ∷ map suc (levels_hypotheses b ++ 0 ∷ levels_step_list d) ++ 0 ∷ 0 ∷ []

  pub levels_step_list : StepList → List ℕ
  levels_step_list no_steps = []
  levels_step_list (more_steps t ts) = levels_step t ++ levels_step_list ts

  pub levels_suppose_list : SupposeList → List ℕ
  levels_suppose_list no_supposes = []
  levels_suppose_list (more_supposes t ts) = levels_suppose t ++ levels_suppose_list ts
