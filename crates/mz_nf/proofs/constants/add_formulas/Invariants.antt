use Rattle.std.proofs.Common.{take}
use Rattle.mz_nf.specs.Constants.{AddsFormulas}
use Rattle.mz_nf.proofs.constants.add_formulas.Given as goal

abbrev pub invariant-loop-f : goal.invariant-loop-f
invariant-loop-f l = AddsFormulas (take l.f-index l.f-items) l.initial.numbers l.numbers
