use Rattle.std.proofs.Common.{◌≡◌, map, take}
use Rattle.mz_logic.specs.Abstraction.{term_over}
use Rattle.mz_core.proofs.abstraction.+over.Given as goal

abbrev pub invariant-terms_over-loop-t : goal.invariant-terms_over-loop-t
invariant-terms_over-loop-t l = l.out.items ≡ map (term_over l.c l.depth) (take l.t-index l.t-items)
