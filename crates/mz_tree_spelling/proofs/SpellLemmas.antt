-- The spelling of lists.
use Rattle.std.proofs.Common.{◌≡◌, List, [], ◌∷◌, ◌++◌, refl, ap, append_assoc}
use Rattle.std.specs.List.{flat_map}
use Rattle.mz_tree_proof.specs.Reasoning.{StepData, SupposeData, steps_of, supposes_of}
use Rattle.mz_tree_proof.specs.SpellReasoning.{spell_step, spell_suppose, spell_step_list, spell_suppose_list}

pub spell_step_list-steps_of : (ts : List StepData) → spell_step_list (steps_of ts) ≡ flat_map spell_step ts
spell_step_list-steps_of [] = refl
spell_step_list-steps_of (t ∷ ts) = ap (λ z. spell_step t ++ z) (spell_step_list-steps_of ts)

pub spell_suppose_list-supposes_of : (ts : List SupposeData) → spell_suppose_list (supposes_of ts) ≡ flat_map spell_suppose ts
spell_suppose_list-supposes_of [] = refl
spell_suppose_list-supposes_of (t ∷ ts) = ap (λ z. spell_suppose t ++ z) (spell_suppose_list-supposes_of ts)

pub ruleset spell_rules = (append_assoc, spell_step_list-steps_of, spell_suppose_list-supposes_of)
