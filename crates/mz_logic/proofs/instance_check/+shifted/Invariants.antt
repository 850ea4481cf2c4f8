use Rattle.std.proofs.Common.{◌≡◌, ◌+◌, take, map}
use Rattle.mz_logic.specs.TermStorage.{size_of, sizes_of}
use Rattle.mz_logic.specs.Instance.{term_instance}
use Rattle.mz_logic.specs.InstanceTest.{shifted_instance, term_at_by, letter_weight, letter_weights}
use Rattle.mz_logic.proofs.instance_check.+shifted.Given as goal

abbrev pub decreases-is_shifted_instance : goal.decreases-is_shifted_instance
decreases-is_shifted_instance l = letter_weight l.letters.now l.t.now

abbrev pub decreases-are_shifted_instances : goal.decreases-are_shifted_instances
decreases-are_shifted_instances l = letter_weights l.letters.now l.ts.now

abbrev pub decreases-is_term_at_by : goal.decreases-is_term_at_by
decreases-is_term_at_by l = letter_weights l.letters.now l.args.now + size_of l.t.now

abbrev pub decreases-are_terms_at_by : goal.decreases-are_terms_at_by
decreases-are_terms_at_by l = letter_weights l.letters.now l.args.now + sizes_of l.ts.now

abbrev pub invariant-are_shifted_instances-loop-i : goal.invariant-are_shifted_instances-loop-i
invariant-are_shifted_instances-loop-i l = map (shifted_instance l.letters l.by) (take l.i l.ts-inside.items.items) ≡ take l.i l.vs-inside.items.items

abbrev pub invariant-are_terms_at_by-loop-i : goal.invariant-are_terms_at_by-loop-i
invariant-are_terms_at_by-loop-i l = map (term_at_by l.inner l.by (map (term_instance l.letters) l.args)) (take l.i l.ts-inside.items.items) ≡ take l.i l.vs-inside.items.items
