use Rattle.std.proofs.Common.{◌≡◌, map}
use Rattle.mz_scheme_items.specs.StatesScheme.{letter_in}
use Rattle.mz_scheme.proofs.stating.letters_in.Given as goal

abbrev pub invariant-loop-l : goal.invariant-loop-l
invariant-loop-l l = l.out ≡ map letter_in l.yielded
