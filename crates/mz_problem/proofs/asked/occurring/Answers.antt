use Rattle.std.proofs.Common.{◌∙◌, ap}
use Rattle.mz_context.specs.Occurring.{is_among}
use Rattle.mz_context.proofs.OccurringLemmas.{below_from_rising}
use Rattle.mz_problem.specs.Asked.{occurs_in_some}
use Rattle.mz_problem.proofs.OccurringLemmas.{formulas_among}
use Rattle.mz_problem.proofs.asked.occurring.Goals as goal

pub returns : goal.returns
returns c =
    below_from_rising (occurs_in_some c.args.fs.now) c.args.count c.in_order.result.items c.in_ok-met.met.items c.in_order.ensures.rises c.in_order.ensures.same
    (λ n. ap (λ xs. is_among xs n) c.in_ok-met.ensures ∙ formulas_among c.args.count n c.args.fs.now)
