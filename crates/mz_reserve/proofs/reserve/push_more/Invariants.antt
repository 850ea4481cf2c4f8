use Rattle.std.proofs.Common.{◌≡◌, ◌++◌, drop, map}
use Rattle.mz_reserve.specs.Reserve.{reserved_behind}
use Rattle.mz_reserve.proofs.reserve.push_more.Given as goal

abbrev pub invariant-loop-next : goal.invariant-loop-next
invariant-loop-next l = l.out ++ map (reserved_behind l.ty) (drop l.next-index l.words) ≡ l.fn.out ++ map (reserved_behind l.ty) l.words
