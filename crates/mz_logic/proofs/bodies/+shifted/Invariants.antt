use Rattle.std.proofs.Common.{◌≡◌, take, map}
use Rattle.mz_logic.specs.Substitution.{shift}
use Rattle.mz_logic.proofs.bodies.+shifted.Given as goal

abbrev pub invariant-are_shifted-loop-i : goal.invariant-are_shifted-loop-i
invariant-are_shifted-loop-i l = map (shift 0 l.by) (take l.i l.ts-inside.items.items) ≡ take l.i l.vs-inside.items.items
