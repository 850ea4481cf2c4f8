use Rattle.std.proofs.Common.{◌≡◌, take}
use Rattle.mz_types.specs.Chain.{rows_of_letters}
use Rattle.mz_types.proofs.chain.rows_of_letters.Given as goal

abbrev pub invariant-loop-letter : goal.invariant-loop-letter
invariant-loop-letter l = l.out ≡ rows_of_letters (take l.letter-index l.letter-items)
