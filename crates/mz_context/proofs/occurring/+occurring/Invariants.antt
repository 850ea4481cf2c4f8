use Rattle.std.proofs.Common.{◌≡◌, ◌++◌, flat_map, take}
use Rattle.mz_context.specs.Occurring.{term_constants}
use Rattle.mz_context.proofs.occurring.+occurring.Given as goal

abbrev pub invariant-push_terms-loop-t : goal.invariant-push_terms-loop-t
invariant-push_terms-loop-t l = l.out.items ≡ l.initial.out.items ++ flat_map (term_constants l.count) (take l.t-index l.t-items)
