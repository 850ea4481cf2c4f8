use Rattle.std.proofs.Common.{◌≤◌, length, map, Option}
use Rattle.std.specs.Arc.{arc_value}
use Rattle.mz_core.specs.declared.notation.Meaning.{Meaning}
use Rattle.mz_choice.specs.Choice.{FirstPasses, candidates}
use Rattle.mz_choice.proofs.FirstLemmas.{before}
use Rattle.mz_choice.proofs.choice.first_passes.Given as goal

abbrev pub invariant-loop-count : goal.invariant-loop-count
invariant-loop-count l = (l.count ≤ length l.xs) × ((o : Option Meaning) → FirstPasses l.clauses l.env l.ctx l.w l.args (before l.a (map arc_value l.xs) l.count) o → FirstPasses l.clauses l.env l.ctx l.w l.args (candidates l.a (map arc_value l.xs)) o)

abbrev pub decreases-loop-count : goal.decreases-loop-count
decreases-loop-count l = l.count
