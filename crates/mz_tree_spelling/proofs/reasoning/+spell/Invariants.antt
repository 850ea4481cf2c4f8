use Rattle.std.proofs.Common.{◌≡◌, ◌++◌, take}
use Rattle.std.specs.List.{flat_map}
use Rattle.mz_tree_proof.specs.SpellReasoning.{spell_step, spell_suppose}
use Rattle.mz_tree_spelling.proofs.reasoning.+spell.Given as goal

abbrev pub invariant-spell_steps_tree-loop-t : goal.invariant-spell_steps_tree-loop-t
invariant-spell_steps_tree-loop-t l = l.out.items ≡ l.initial.out.items ++ flat_map spell_step (take l.t-index l.t-items)

abbrev pub invariant-spell_supposes_tree-loop-t : goal.invariant-spell_supposes_tree-loop-t
invariant-spell_supposes_tree-loop-t l = l.out.items ≡ l.initial.out.items ++ flat_map spell_suppose (take l.t-index l.t-items)
