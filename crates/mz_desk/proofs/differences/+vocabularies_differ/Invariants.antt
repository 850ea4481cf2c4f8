use Rattle.std.proofs.Common.{length}
use Rattle.mz_desk.proofs.differences.+vocabularies_differ.Given as goal

abbrev pub decreases-vocabularies_differ : goal.decreases-vocabularies_differ
decreases-vocabularies_differ l = length l.own.now
