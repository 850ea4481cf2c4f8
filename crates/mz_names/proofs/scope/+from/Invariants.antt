use Rattle.std.proofs.Common.{◌≡◌, true, take}
use Rattle.std.specs.List.{list_all}
use Rattle.mz_names.specs.Scope.{term_from}
use Rattle.mz_names.proofs.scope.+from.Given as goal

abbrev pub invariant-terms_from-loop-t : goal.invariant-terms_from-loop-t
invariant-terms_from-loop-t l = list_all (term_from l.least) (take l.t-index l.t-items) ≡ true
