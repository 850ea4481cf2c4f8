use Rattle.std.proofs.Common.{◌≡◌, true, take}
use Rattle.std.specs.List.{list_all}
use Rattle.mz_core.specs.Closed.{term_under}
use Rattle.mz_structure_items.proofs.closed.+under.Given as goal

abbrev pub invariant-terms_under-loop-t : goal.invariant-terms_under-loop-t
invariant-terms_under-loop-t l = list_all (term_under l.n) (take l.t-index l.t-items) ≡ true
