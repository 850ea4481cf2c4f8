use Rattle.std.proofs.Common.{length}
use Rattle.std.specs.Prelude.{◌↔◌}
use Rattle.mz_from.specs.Letters.{LettersFit}
use Rattle.mz_from.proofs.letters.letters_fit.Given as goal

abbrev pub invariant-loop-letter : goal.invariant-loop-letter
invariant-loop-letter l = LettersFit l.clauses l.constants l.letters l.rest ↔ LettersFit l.clauses l.constants l.letters l.scheme

abbrev pub decreases-loop-letter : goal.decreases-loop-letter
decreases-loop-letter l = length l.rest
