use Rattle.std.proofs.Common.{◌≡◌, take}
use Rattle.std.specs.List.{filter}
use Rattle.mz_letters.specs.Letters.{is_other_functor}
use Rattle.mz_letters.proofs.private.functors_but.Given as goal

abbrev pub invariant-loop-f : goal.invariant-loop-f
invariant-loop-f l = l.out ≡ filter (is_other_functor l.name) (take l.f-index l.f-items)
