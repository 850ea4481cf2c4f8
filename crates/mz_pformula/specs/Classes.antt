-- The sets of signs that formulas begin with, and operators that come next.
use Rattle.std.specs.Prelude.{◌≡◌, Bool, true, false, List}
use Rattle.mz_base.specs.declared.token.MarkedToken.{MarkedToken}
use Rattle.mz_tree.specs.Rules.{Operator, conjoins, disjoins, concludes}
use Rattle.mz_pterm.specs.declared.sign.Sign.{Sign}
use Rattle.mz_pterm.specs.declared.sign.Sign.TheVariants as signs
use Rattle.mz_ptype.specs.Classes.{next_is}
use Rattle.mz_patom.specs.Classes.{begins_term}

abbrev pub is_and : Sign → Bool
is_and signs.And = true
is_and _ = false

abbrev pub is_or : Sign → Bool
is_or signs.Or = true
is_or _ = false

abbrev pub concludes_sign : Sign → Bool
concludes_sign signs.Implies = true
concludes_sign signs.Iff = true
concludes_sign _ = false

abbrev pub begins_quantified : Sign → Bool
begins_quantified signs.For = true
begins_quantified signs.Ex = true
begins_quantified _ = false

abbrev pub begins_unit : Sign → Bool
begins_unit signs.Not = true
begins_unit signs.Contradiction = true
begins_unit signs.Thesis = true
begins_unit signs.For = true
begins_unit signs.Ex = true
begins_unit signs.Predicate = true
begins_unit s = begins_term s

-- the operator that the sign is belongs to what stands before it
abbrev pub takes_sign : (Operator → Bool) → Sign → Bool
takes_sign takes signs.And = takes conjoins
takes_sign takes signs.Or = takes disjoins
takes_sign takes signs.Implies = takes concludes
takes_sign takes signs.Iff = takes concludes
takes_sign takes _ = false

-- no operator comes next that what stands before would take: the innermost formula has taken it
abbrev pub NotTaken : (Operator → Bool) → List MarkedToken → Type 0
NotTaken takes after = next_is (takes_sign takes) after ≡ false
