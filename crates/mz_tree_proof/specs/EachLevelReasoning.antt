-- There is one level for each token of reasonings.
use Rattle.std.specs.Prelude.{◌≡◌, suc, List, [], ◌∷◌, ◌++◌, map, length, refl, codes}
use Rattle.std.specs.List.{flat_map}
use Rattle.std.proofs.Common.{ap}
use Rattle.mz_forms.specs.Form.{each_append}
use Rattle.mz_tree.specs.Spelled.{reserved, special, reserved_if, maybe}
use Rattle.mz_tree.specs.Levels.{levels_if, each_if, each_maybe, each_flat, nested_each}
use Rattle.mz_tree_proof.specs.Reasoning.{JustData, CompactData, StatementData, StepData, SupposeData, StepList, SupposeList, SimpleJust, ProofJust, StatedCompact, CompactStatement, NowStatement, IntroductionStatement, StatementStep, ThusStep, HenceStep, HerebyStep, SkeletonStep, CasesStep, CaseSuppose, no_steps, more_steps, no_supposes, more_supposes}
use Rattle.mz_tree_proof.specs.Spell.{spell_label, spell_proposition, spell_hypotheses, spell_simple, spell_equality_step, spell_introduction, spell_skeleton, spell_split}
use Rattle.mz_tree_proof.specs.Levels.{levels_label, levels_proposition, levels_hypotheses, levels_simple, levels_equality_step, levels_introduction, levels_skeleton, levels_split}
use Rattle.mz_tree_proof.specs.EachLevel.{each_label, each_proposition, each_hypotheses, each_simple, each_equality_step, each_introduction, each_skeleton, each_split}
use Rattle.mz_tree_proof.specs.SpellReasoning.{spell_just, spell_compact, spell_statement, spell_step, spell_suppose, spell_step_list, spell_suppose_list}
use Rattle.mz_tree_proof.specs.LevelsReasoning.{levels_just, levels_compact, levels_statement, levels_step, levels_suppose, levels_step_list, levels_suppose_list}

mutual
  pub each_just : (t : JustData) → length (levels_just t) ≡ length (spell_just t)
  each_just (SimpleJust a) = each_simple a
  each_just (ProofJust a b c) = each_append (1 ∷ map suc (levels_step_list b)) (0 ∷ []) (reserved a (codes "proof") ∷ spell_step_list b) (reserved c (codes "end") ∷ []) (ap suc (nested_each (levels_step_list b) (spell_step_list b) (each_step_list b))) (refl)

  pub each_compact : (t : CompactData) → length (levels_compact t) ≡ length (spell_compact t)
  each_compact (StatedCompact a b c d) = each_append (levels_proposition a ++ levels_just b ++ flat_map levels_equality_step c) (0 ∷ []) (spell_proposition a ++ spell_just b ++ flat_map spell_equality_step c) (special d (codes ";") ∷ []) (each_append (levels_proposition a ++ levels_just b) (flat_map levels_equality_step c) (spell_proposition a ++ spell_just b) (flat_map spell_equality_step c) (each_append (levels_proposition a) (levels_just b) (spell_proposition a) (spell_just b) (each_proposition a) (each_just b)) (each_flat levels_equality_step spell_equality_step each_equality_step c)) (refl)

  pub each_statement : (t : StatementData) → length (levels_statement t) ≡ length (spell_statement t)
  each_statement (CompactStatement a b) = each_append (levels_if a) (levels_compact b) (reserved_if a (codes "then")) (spell_compact b) (each_if a (codes "then")) (each_compact b)
  each_statement (NowStatement a b c d e) = each_append (maybe levels_label a ++ 1 ∷ map suc (levels_step_list c)) (0 ∷ 0 ∷ []) (maybe spell_label a ++ reserved b (codes "now") ∷ spell_step_list c) (reserved d (codes "end") ∷ special e (codes ";") ∷ []) (each_append (maybe levels_label a) (1 ∷ map suc (levels_step_list c)) (maybe spell_label a) (reserved b (codes "now") ∷ spell_step_list c) (each_maybe levels_label spell_label each_label a) (ap suc (nested_each (levels_step_list c) (spell_step_list c) (each_step_list c)))) (refl)
  each_statement (IntroductionStatement a) = each_introduction a

  pub each_step : (t : StepData) → length (levels_step t) ≡ length (spell_step t)
  each_step (StatementStep a) = each_statement a
  each_step (ThusStep a b) = ap suc (each_compact b)
  each_step (HenceStep a b) = ap suc (each_compact b)
  each_step (HerebyStep a b c d) = each_append (1 ∷ map suc (levels_step_list b)) (0 ∷ 0 ∷ []) (reserved a (codes "hereby") ∷ spell_step_list b) (reserved c (codes "end") ∷ special d (codes ";") ∷ []) (ap suc (nested_each (levels_step_list b) (spell_step_list b) (each_step_list b))) (refl)
  each_step (SkeletonStep a) = each_skeleton a
  each_step (CasesStep a b c) = each_append (levels_split a ++ levels_suppose b) (levels_suppose_list c) (spell_split a ++ spell_suppose b) (spell_suppose_list c) (each_append (levels_split a) (levels_suppose b) (spell_split a) (spell_suppose b) (each_split a) (each_suppose b)) (each_suppose_list c)

  pub each_suppose : (t : SupposeData) → length (levels_suppose t) ≡ length (spell_suppose t)
  each_suppose (CaseSuppose a b c d e f) = each_append (1 ∷ map suc (levels_hypotheses b ++ 0 ∷ levels_step_list d)) (0 ∷ 0 ∷ []) (reserved a (codes "suppose") ∷ spell_hypotheses b ++ special c (codes ";") ∷ spell_step_list d) (reserved e (codes "end") ∷ special f (codes ";") ∷ []) (ap suc (nested_each (levels_hypotheses b ++ 0 ∷ levels_step_list d) (spell_hypotheses b ++ special c (codes ";") ∷ spell_step_list d) (each_append (levels_hypotheses b) (0 ∷ levels_step_list d) (spell_hypotheses b) (special c (codes ";") ∷ spell_step_list d) (each_hypotheses b) (ap suc (each_step_list d))))) (refl)

  pub each_step_list : (ts : StepList) → length (levels_step_list ts) ≡ length (spell_step_list ts)
  each_step_list no_steps = refl
  each_step_list (more_steps t ts) = each_append (levels_step t) (levels_step_list ts) (spell_step t) (spell_step_list ts) (each_step t) (each_step_list ts)

  pub each_suppose_list : (ts : SupposeList) → length (levels_suppose_list ts) ≡ length (spell_suppose_list ts)
  each_suppose_list no_supposes = refl
  each_suppose_list (more_supposes t ts) = each_append (levels_suppose t) (levels_suppose_list ts) (spell_suppose t) (spell_suppose_list ts) (each_suppose t) (each_suppose_list ts)
