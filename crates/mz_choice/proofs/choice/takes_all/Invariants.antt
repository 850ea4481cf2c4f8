use Rattle.std.proofs.Common.{length, Option}
use Rattle.mz_fits.specs.Matching.{Fixed}
use Rattle.mz_choice.specs.Choice.{TakesAll}
use Rattle.mz_choice.proofs.choice.takes_all.Given as goal

abbrev pub invariant-loop-p : goal.invariant-loop-p
invariant-loop-p l = (q : Option Fixed) → TakesAll l.clauses l.env l.ctx l.loci l.behind l.ps l.ts q → TakesAll l.clauses l.env l.ctx l.loci l.fn.fixed l.places l.args q

abbrev pub decreases-loop-p : goal.decreases-loop-p
decreases-loop-p l = length l.ps
