use Rattle.std.proofs.Common.{◌≡◌, drop}
use Rattle.mz_logic.specs.Order.{terms_cmp}
use Rattle.mz_logic.proofs.order.+compare.Given as goal

abbrev pub invariant-compare_args-loop-i : goal.invariant-compare_args-loop-i
invariant-compare_args-loop-i l = terms_cmp l.ts l.us ≡ terms_cmp (drop l.i l.ts-inside.items.items) (drop l.i l.us-inside.items.items)
