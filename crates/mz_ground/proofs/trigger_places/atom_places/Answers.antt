use Rattle.std.proofs.Common.{arith}
use Rattle.mz_ground.specs.Heads.{symbol_hash}
use Rattle.mz_ground.proofs.HeadLemmas.{told_hash, hash_end}
use Rattle.mz_ground.proofs.trigger_places.atom_places.Goals as goal

pub loop-k-preserved : goal.loop-k-preserved
loop-k-preserved c = told_hash symbol_hash _ _ _ _ _ _ _ c.loop-k.auto.k c.get.ensures c.hash_with_symbol.ensures c.loop-k.invariant c.in_ok-push.ensures.len c.in_ok-push.ensures.ok

pub returns : goal.returns
returns c = hash_end symbol_hash _ _ _ _ _ (omega (arith, c.loop-k-test.false, c.loop-k.auto.k-end c.requires.span)) c.loop-k.invariant
