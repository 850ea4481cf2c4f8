use Rattle.std.specs.Iterator.Adapters.{zip_first, zip_second}
use Rattle.std.specs.Slice.Iter.{iter_rest}
use Rattle.mz_pexpr.proofs.Pairs.{Pairing}
use Rattle.mz_pexpr.proofs.marked_tokens.with_marks.Given as goal

abbrev pub invariant-loop-token : goal.invariant-loop-token
invariant-loop-token l = Pairing l.fn.tokens l.fn.marks l.all.items (iter_rest (zip_first l.token-iterator)) (iter_rest (zip_second l.token-iterator))
