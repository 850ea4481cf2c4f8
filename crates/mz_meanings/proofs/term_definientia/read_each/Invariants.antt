use Rattle.std.proofs.Common.{◌≡◌, length}
use Rattle.mz_meanings.specs.Definientia.{TermCaseRead}
use Rattle.mz_meanings.proofs.EachLemmas.{Gives}
use Rattle.mz_meanings.proofs.term_definientia.read_each.Given as goal

abbrev pub invariant-loop-t : goal.invariant-loop-t
invariant-loop-t l = Gives (TermCaseRead l.env l.initial.ctx l.least) l.left l.rest l.out l.initial.left l.ts l.initial.out × (l.ctx ≡ l.initial.ctx)

abbrev pub decreases-loop-t : goal.decreases-loop-t
decreases-loop-t l = length l.rest
