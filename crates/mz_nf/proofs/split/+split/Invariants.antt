use Rattle.std.proofs.Common.{◌+◌, ◌*◌}
use Rattle.mz_logic.specs.FormulaStorage.{formula_size}
use Rattle.mz_nf.proofs.split.+split.Given as goal

abbrev pub decreases-split : goal.decreases-split
decreases-split l = 2 * formula_size l.f.now

abbrev pub decreases-split_conjunction : goal.decreases-split_conjunction
decreases-split_conjunction l = 2 * (formula_size l.g.now + formula_size l.h.now) + 1
