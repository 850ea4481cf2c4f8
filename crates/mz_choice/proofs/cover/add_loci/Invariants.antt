use Rattle.std.proofs.Common.{◌≡◌, length}
use Rattle.mz_context.specs.Context.{next}
use Rattle.mz_choice.specs.Cover.{with_loci, loci_constants}
use Rattle.mz_choice.specs.Fresh.{Grown}
use Rattle.mz_choice.proofs.cover.add_loci.Given as goal

abbrev pub invariant-loop-ty : goal.invariant-loop-ty
invariant-loop-ty l = (with_loci l.ctx l.inside l.rest ≡ with_loci l.initial.ctx l.fn.before l.loci) × (loci_constants (next l.ctx) l.inside l.rest ≡ loci_constants (next l.initial.ctx) l.fn.before l.loci) × Grown l.initial.ctx l.ctx

abbrev pub decreases-loop-ty : goal.decreases-loop-ty
decreases-loop-ty l = length l.rest
