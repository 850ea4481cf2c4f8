use Rattle.std.proofs.Common.{◌≡◌, drop}
use Rattle.mz_logic.specs.Term.{terms_of}
use Rattle.mz_search.specs.Kept.{terms_kept}
use Rattle.mz_search.proofs.kept.+kept.Given as goal

abbrev pub invariant-terms_kept-loop-t : goal.invariant-terms_kept-loop-t
invariant-terms_kept-loop-t l = terms_kept l.flags l.depth (terms_of l.ts) ≡ terms_kept l.flags l.depth (terms_of (drop l.t-index l.t-items))
