use Rattle.std.proofs.Common.{◌≡◌, take, true}
use Rattle.std.specs.List.{list_all}
use Rattle.mz_from.specs.Kept.{letter_kept}
use Rattle.mz_from.proofs.kept.letters_kept.Given as goal

abbrev pub invariant-loop-x : goal.invariant-loop-x
invariant-loop-x l = list_all (letter_kept l.letters) (take l.x-index l.x-items) ≡ true
