use Rattle.std.proofs.Common.{◌≡◌, map, take}
use Rattle.mz_defined.specs.Definientia.{term_case_over}
use Rattle.mz_heading.proofs.definientia.term_cases_over.Given as goal

abbrev pub invariant-loop-k : goal.invariant-loop-k
invariant-loop-k l = l.out.items ≡ map (term_case_over l.least l.count) (take l.k-index l.k-items)
