use Rattle.std.proofs.Common.{arith}
use Rattle.mz_numbering.specs.Numbering.{terms_end}
use Rattle.mz_numbering.proofs.NumberingLemmas.{layer_passed}
use Rattle.mz_numbering.proofs.numbering.term_layer.Goals as goal

pub loop-n-preserved : goal.loop-n-preserved
loop-n-preserved c = layer_passed terms_end c.args.g.now.ends c.loop-n.n c.args.place _ c.get.result.now c.get.ensures c.loop-n.invariant (omega (arith, c.if-place-get.false))
