use Rattle.std.proofs.Common.{length}
use Rattle.mz_pmeaning.specs.CaseForms.{formula_body}
use Rattle.mz_pmeaning.proofs.Bodies.{formula_is_body}
use Rattle.mz_pmeaning.proofs.CaseSteps.{CasesSoFar}
use Rattle.mz_pmeaning.proofs.cases.formula_cases.Given as goal

abbrev pub invariant-more : goal.invariant-more
invariant-more l = CasesSoFar formula_body formula_is_body l.fn.room l.fn.body l.fn.if_ l.first l.items.items l.fn.reader.rest.now l.reader.rest.now

abbrev pub decreases-more : goal.decreases-more
decreases-more l = length l.reader.rest.now
