use Rattle.std.proofs.Common.{◌<◌, length, arith, sym, ◌∙◌}
use Rattle.mz_logic.proofs.OrderLemmas.{stops, terms_cmp-goes_on}
use Rattle.mz_logic.proofs.order.+compare.Goals as goal

pub compare_args-returns-in_default : goal.compare_args-returns-in_default
compare_args-returns-in_default t c =
    let a : c.loop-i.i < length c.ts.inside.items.items = omega arith in
    let b : c.loop-i.i < length c.us.inside.items.items = omega arith in
    stops _ _ _ _ _ _ _ _ c.loop-i.invariant a b c.index.ensures c.index-in-loop-i.ensures c.compare_terms.ensures c.in_default.not-Equal

pub compare_args-loop-i-preserved : goal.compare_args-loop-i-preserved
compare_args-loop-i-preserved t c =
    let a : c.loop-i.i < length c.ts.inside.items.items = omega arith in
    let b : c.loop-i.i < length c.us.inside.items.items = omega arith in
    terms_cmp-goes_on _ _ _ _ _ _ _ c.loop-i.invariant a b c.index.ensures c.index-in-loop-i.ensures (sym c.in-Equal.is ∙ c.compare_terms.ensures)
