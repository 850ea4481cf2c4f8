use Rattle.mz_logic.specs.FormulaStorage.{formula_size}
use Rattle.std.specs.Prelude.{◌+◌}
use Rattle.mz_match.proofs.congruent.+congruent_formula.Given as goal

abbrev pub decreases-congruent_formula : goal.decreases-congruent_formula
decreases-congruent_formula l = formula_size l.f.now + formula_size l.g.now
