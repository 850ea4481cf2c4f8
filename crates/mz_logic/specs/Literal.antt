-- Literals and disjuncts as formulas.
use Rattle.std.specs.Prelude.{Bool, true, false}
use Rattle.mz_logic.specs.Formula as formula
use Rattle.mz_logic.specs.Formula.{Formula}
use Rattle.mz_logic.specs.declared.literal.Literal.{Literal}
use Rattle.mz_logic.specs.declared.literal.Literal.TheVariants.{Atom, Eq}

-- the formula, or its negation where it is not positive
abbrev pub signed : Bool → Formula → Formula
signed true f = f
signed false f = formula.Not f

-- the literal as a formula
abbrev pub literal_formula : Literal → Formula
literal_formula (Atom positive sym args) = signed positive (formula.Atom sym args)
literal_formula (Eq positive left right) = signed positive (formula.Eq left right)
