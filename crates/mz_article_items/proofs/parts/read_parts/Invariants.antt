use Rattle.std.proofs.Common.{length}
use Rattle.mz_taken.proofs.OneByOneProofs.{Reading}
use Rattle.mz_article_items.specs.Items.{IsPart}
use Rattle.mz_article_items.proofs.parts.read_parts.Given as goal

abbrev pub invariant-loop-part : goal.invariant-loop-part
invariant-loop-part g l = Reading IsPart l.s l.os l.rest l.fn.s l.fn.os l.parts

abbrev pub decreases-loop-part : goal.decreases-loop-part
decreases-loop-part g l = length l.rest
