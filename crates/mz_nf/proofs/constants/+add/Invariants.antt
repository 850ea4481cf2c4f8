use Rattle.std.proofs.Common.{take}
use Rattle.mz_nf.specs.Constants.{AddsTerms}
use Rattle.mz_nf.proofs.constants.+add.Given as goal

abbrev pub invariant-add_terms-loop-t : goal.invariant-add_terms-loop-t
invariant-add_terms-loop-t l = AddsTerms (take l.t-index l.t-items) l.initial.numbers l.numbers
