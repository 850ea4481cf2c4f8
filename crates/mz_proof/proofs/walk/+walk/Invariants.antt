use Rattle.std.proofs.Common.{◌+◌, ◌*◌, drop}
use Rattle.mz_tree_proof.specs.Reasoning.{just_size, compact_size, statement_size, step_size, suppose_size, step_sizes, suppose_sizes, supposes_of, more_supposes}
use Rattle.mz_walk.specs.Walked.{state}
use Rattle.mz_proof.proofs.SplitLemmas.{CasingAt}
use Rattle.mz_proof.proofs.StepLemmas.{Going}
use Rattle.mz_proof.proofs.walk.+walk.Given as goal

abbrev pub decreases-justify : goal.decreases-justify
decreases-justify l = 4 * just_size l.tree.now

abbrev pub decreases-prove : goal.decreases-prove
decreases-prove l = 4 * step_sizes l.steps.now + 1

abbrev pub decreases-say : goal.decreases-say
decreases-say l = 4 * compact_size l.tree.now

abbrev pub decreases-say_now : goal.decreases-say_now
decreases-say_now l = 4 * step_sizes l.steps.now + 1

abbrev pub decreases-state : goal.decreases-state
decreases-state l = 4 * statement_size l.tree.now

abbrev pub decreases-go : goal.decreases-go
decreases-go l = 4 * step_size l.tree.now

abbrev pub decreases-split : goal.decreases-split
decreases-split l = 4 * (suppose_size l.case.now + suppose_sizes l.more.now) + 1

abbrev pub decreases-suppose_all : goal.decreases-suppose_all
decreases-suppose_all l = 4 * (suppose_size l.case.now + suppose_sizes l.more.now)

abbrev pub decreases-suppose : goal.decreases-suppose
decreases-suppose l = 4 * suppose_size l.tree.now

abbrev pub decreases-go_all : goal.decreases-go_all
decreases-go_all l = 4 * step_sizes l.steps.now

abbrev pub invariant-go_all-loop-step : goal.invariant-go_all-loop-step
invariant-go_all-loop-step l = Going l.walker.env.now l.walker.at (state l.ctx l.block l.left) (drop l.step-index l.step-items) l.os (state l.fn.ctx l.fn.block l.fn.left) l.steps l.fn.os

abbrev pub invariant-suppose_all-loop-t : goal.invariant-suppose_all-loop-t
invariant-suppose_all-loop-t l = CasingAt l.walker.env.now l.walker.at l.ctx (drop l.t-index l.t-items) l.left l.ss l.os l.fn.ctx (more_supposes l.case (supposes_of l.more)) l.fn.left l.fn.ss l.fn.os
