use Rattle.std.proofs.Common.{◌≡◌, take, true}
use Rattle.std.specs.List.{list_all}
use Rattle.mz_from.specs.Kept.{statement_kept}
use Rattle.mz_from.proofs.kept.statements_kept.Given as goal

abbrev pub invariant-loop-p : goal.invariant-loop-p
invariant-loop-p l = list_all (statement_kept l.letters) (take l.p-index l.ps) ≡ true
