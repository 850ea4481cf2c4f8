use Rattle.std.proofs.Common.{◌≡◌, ◌+◌, drop, map}
use Rattle.mz_numbering.specs.Numbering.{layer_of, terms_end, term_layer}
use Rattle.mz_numbering.proofs.numbering.term_layer.Given as goal

abbrev pub invariant-loop-n : goal.invariant-loop-n
invariant-loop-n l = term_layer l.g l.place ≡ l.n + layer_of (map terms_end (drop l.n l.g.ends)) l.place
