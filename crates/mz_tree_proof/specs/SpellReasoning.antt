-- The spelling of reasonings: one case for each alternative of the grammar.
use Rattle.std.specs.Prelude.{List, [], ◌∷◌, ◌++◌, codes}
use Rattle.std.specs.List.{flat_map}
use Rattle.mz_base.specs.declared.token.MarkedToken.{MarkedToken}
use Rattle.mz_tree.specs.Spelled.{reserved, special, reserved_if, maybe}
use Rattle.mz_tree_proof.specs.Reasoning.{JustData, CompactData, StatementData, StepData, SupposeData, StepList, SupposeList, SimpleJust, ProofJust, StatedCompact, CompactStatement, NowStatement, IntroductionStatement, StatementStep, ThusStep, HenceStep, HerebyStep, SkeletonStep, CasesStep, CaseSuppose, no_steps, more_steps, no_supposes, more_supposes}
use Rattle.mz_tree_proof.specs.Spell.{spell_label, spell_proposition, spell_simple, spell_equality_step, spell_introduction, spell_skeleton, spell_split, spell_hypotheses}

abbrev mutual
  pub spell_just : JustData → List MarkedToken
  spell_just (SimpleJust a) = spell_simple a
  spell_just (ProofJust a b c) = reserved a (codes "proof") ∷ spell_step_list b ++ reserved c (codes "end") ∷ []

  pub spell_compact : CompactData → List MarkedToken
  spell_compact (StatedCompact a b c d) = spell_proposition a ++ spell_just b ++ flat_map spell_equality_step c ++ special d (codes ";") ∷ []

  pub spell_statement : StatementData → List MarkedToken
  spell_statement (CompactStatement a b) = reserved_if a (codes "then") ++ spell_compact b
  spell_statement (NowStatement a b c d e) = maybe spell_label a ++ reserved b (codes "now") ∷ spell_step_list c ++ reserved d (codes "end") ∷ special e (codes ";") ∷ []
  spell_statement (IntroductionStatement a) = spell_introduction a

  pub spell_step : StepData → List MarkedToken
  spell_step (StatementStep a) = spell_statement a
  spell_step (ThusStep a b) = reserved a (codes "thus") ∷ spell_compact b
  spell_step (HenceStep a b) = reserved a (codes "hence") ∷ spell_compact b
  spell_step (HerebyStep a b c d) = reserved a (codes "hereby") ∷ spell_step_list b ++ reserved c (codes "end") ∷ special d (codes ";") ∷ []
  spell_step (SkeletonStep a) = spell_skeleton a
  spell_step (CasesStep a b c) = spell_split a ++ spell_suppose b ++ spell_suppose_list c

  pub spell_suppose : SupposeData → List MarkedToken
  spell_suppose (CaseSuppose a b c d e f) = reserved a (codes "suppose") ∷ spell_hypotheses b ++ special c (codes ";") ∷ spell_step_list d ++ reserved e (codes "end") ∷ special f (codes ";") ∷ []

  pub spell_step_list : StepList → List MarkedToken
  spell_step_list no_steps = []
  spell_step_list (more_steps t ts) = spell_step t ++ spell_step_list ts

  pub spell_suppose_list : SupposeList → List MarkedToken
  spell_suppose_list no_supposes = []
  spell_suppose_list (more_supposes t ts) = spell_suppose t ++ spell_suppose_list ts
