use Rattle.std.proofs.Common.{◌≡◌, ◌++◌, ◌+◌, ◌*◌, take}
use Rattle.std.specs.List.{flat_map}
use Rattle.mz_logic.specs.TermStorage.{size_of, sizes_of}
use Rattle.mz_logic.specs.Text.{argument_text}
use Rattle.mz_logic.proofs.texts.+texts.Given as goal

abbrev pub invariant-push_arguments-loop-t : goal.invariant-push_arguments-loop-t
invariant-push_arguments-loop-t l = l.out.items ≡ l.initial.out.items ++ flat_map argument_text (take l.t-index l.t-items)

abbrev pub decreases-push_term : goal.decreases-push_term
decreases-push_term l = 3 * size_of l.t.now

abbrev pub decreases-push_argument : goal.decreases-push_argument
decreases-push_argument l = 3 * size_of l.t.now + 1

abbrev pub decreases-push_arguments : goal.decreases-push_arguments
decreases-push_arguments l = 3 * sizes_of l.ts.now

abbrev pub decreases-push_applied : goal.decreases-push_applied
decreases-push_applied l = 3 * sizes_of l.ts.now + 1
