use Rattle.std.proofs.Common.{◌≡◌, take, true}
use Rattle.std.specs.List.{list_all}
use Rattle.mz_logic.specs.Indices.{is_below}
use Rattle.mz_logic.proofs.term.+below.Given as goal

abbrev pub invariant-Terms::are_below-loop-t : goal.invariant-Terms::are_below-loop-t
invariant-Terms::are_below-loop-t l = list_all (is_below l.bound) (take l.t-index l.t-items) ≡ true
