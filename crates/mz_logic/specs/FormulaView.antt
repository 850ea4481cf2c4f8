-- What a node of a formula is seen as.
use Rattle.mz_logic.specs.Formula as form
use Rattle.mz_logic.specs.Formula.{Formula}
use Rattle.mz_logic.specs.declared.formula.FormulaNode.{FormulaNode}
use Rattle.mz_logic.specs.declared.formula.FormulaNode.TheVariants.{Truth, Eq, Atom, Not, And, All}

abbrev pub formula_of : FormulaNode → Formula
formula_of Truth = form.Truth
formula_of (Eq t u) = form.Eq t u
formula_of (Atom s ts) = form.Atom s ts
formula_of (Not f) = form.Not f.value
formula_of (And f g) = form.And f.value g.value
formula_of (All f) = form.All f.value
