-- The parts of a formula are smaller than the formula.
use Rattle.std.specs.Prelude.{◌≤◌, max}
use Rattle.std.proofs.Common.{arith}
use Rattle.mz_logic.specs.declared.formula.FormulaNode.{FormulaNode}
use Rattle.mz_logic.specs.declared.formula.FormulaNode.TheVariants.{Truth, Eq, Atom, Not, And, All}
use Rattle.mz_logic.specs.declared.formula.Formula.TheDeep.{deep-FormulaNode}
use Rattle.mz_logic.specs.FormulaStorage.{formula_size}
use Rattle.mz_logic.specs.FormulaView.{formula_of}

pub formula_decreases : (n : FormulaNode) → max (deep-FormulaNode n) 0 ≤ formula_size (formula_of n)
formula_decreases Truth = omega arith
formula_decreases (Eq t u) = omega arith
formula_decreases (Atom s ts) = omega arith
formula_decreases (Not f) = omega arith
formula_decreases (And f g) = omega arith
formula_decreases (All f) = omega arith
