use Rattle.std.proofs.Common.{◌+◌, ◌*◌}
use Rattle.mz_logic.specs.FormulaStorage.{formula_size}
use Rattle.mz_logic.specs.Conjuncts.{rest_size}
use Rattle.mz_logic.specs.Rest.{list_of}
use Rattle.mz_logic.proofs.sameness.+same_parts.Given as goal

abbrev pub decreases-same_from : goal.decreases-same_from
decreases-same_from l = 4 * (formula_size l.f.now + rest_size (list_of l.fs.now) + formula_size l.g.now + rest_size (list_of l.gs.now)) + 3

abbrev pub decreases-same_right : goal.decreases-same_right
decreases-same_right l = 4 * (formula_size l.f.now + rest_size (list_of l.fs.now) + formula_size l.g.now + rest_size (list_of l.gs.now)) + 2

abbrev pub decreases-same_rests : goal.decreases-same_rests
decreases-same_rests l = 4 * (rest_size (list_of l.fs.now) + rest_size (list_of l.gs.now)) + 4

abbrev pub decreases-same_heads : goal.decreases-same_heads
decreases-same_heads l = 4 * (formula_size l.f.now + formula_size l.g.now) + 1
