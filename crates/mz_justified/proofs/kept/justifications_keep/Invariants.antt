use Rattle.std.proofs.Common.{◌≡◌, take, true}
use Rattle.mz_justified.specs.Kept.{justifications_keep}
use Rattle.mz_justified.proofs.kept.justifications_keep.Given as goal

abbrev pub invariant-loop-s : goal.invariant-loop-s
invariant-loop-s l = justifications_keep l.walker.env.now l.ctx l.linked l.tree (take l.s-index l.ss) ≡ true
