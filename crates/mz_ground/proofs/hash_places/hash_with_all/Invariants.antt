use Rattle.std.proofs.Common.{◌≡◌, take}
use Rattle.mz_ground.specs.Hash.{hash_with_all}
use Rattle.mz_ground.proofs.hash_places.hash_with_all.Given as goal

abbrev pub invariant-loop-number : goal.invariant-loop-number
invariant-loop-number l = l.all ≡ hash_with_all l.hash (take l.number-index l.numbers)
