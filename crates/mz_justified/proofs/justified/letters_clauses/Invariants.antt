use Rattle.std.proofs.Common.{◌≡◌, take}
use Rattle.mz_types.specs.Known.{letters_clauses}
use Rattle.mz_justified.proofs.justified.letters_clauses.Given as goal

abbrev pub invariant-loop-letter : goal.invariant-loop-letter
invariant-loop-letter l = l.out ≡ letters_clauses (take l.letter-index l.letter-items)
