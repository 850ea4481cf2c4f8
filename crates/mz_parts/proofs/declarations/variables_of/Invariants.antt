use Rattle.std.proofs.Common.{◌≡◌, map, take}
use Rattle.mz_formulas.specs.Declarations.{variable_of}
use Rattle.mz_parts.proofs.declarations.variables_of.Given as goal

abbrev pub invariant-loop-w : goal.invariant-loop-w
invariant-loop-w l = l.out ≡ map (variable_of l.ty) (take l.w-index l.ws)
