use Rattle.std.proofs.Common.{◌<◌, ◌+◌, ◌*◌, ℕ, get_or}
use Rattle.mz_logic.specs.Term.{Term}
use Rattle.mz_logic.specs.TermStorage.{size_of, sizes_of}
use Rattle.mz_logic.specs.Replacement.{TermReplaced}
use Rattle.mz_logic.proofs.replacement.+replaced.Given as goal

abbrev pub decreases-are_args_replaced : goal.decreases-are_args_replaced
decreases-are_args_replaced l = 2 * sizes_of l.xs.now

abbrev pub decreases-is_term_replaced : goal.decreases-is_term_replaced
decreases-is_term_replaced l = 2 * size_of l.a.now + 1

abbrev pub decreases-is_replaced_within : goal.decreases-is_replaced_within
decreases-is_replaced_within l = 2 * size_of l.a.now

abbrev pub invariant-are_args_replaced-loop-i : goal.invariant-are_args_replaced-loop-i
invariant-are_args_replaced-loop-i l = (k : ℕ) (a b : Term) → k < l.i → TermReplaced l.t l.u (get_or l.xs-inside.items.items k a) (get_or l.ys-inside.items.items k b)
