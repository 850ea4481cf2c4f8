use Rattle.std.proofs.Common.{ap}
use Rattle.mz_standing.specs.Standing.{with_context}
use Rattle.mz_registering.proofs.BlockLemmas.{told_block_refused, told_block}
use Rattle.mz_registering.proofs.block.take_block.Goals as goal

pub returns-in-Err : goal.returns-in-Err
returns-in-Err g c =
    told_block_refused _ c.args.s.now c.take_all.new.s _ c.args.tree.now c.in_ok-least.least c.args.os.now c.take_all.new.os _ c.take_all.result c.in-Err.fault c.in_ok-least.ensures c.take_all.ensures c.in-Err.is

pub returns-in-Ok : goal.returns-in-Ok
returns-in-Ok g c =
    told_block c.args.s.now c.take_all.new.s _ c.args.tree.now c.in_ok-least.least c.args.os.now c.take_all.new.os c.take_all.result c.in-Ok.field-0 c.in_ok-least.ensures c.take_all.ensures c.in-Ok.is (ap (λ x. with_context c.take_all.new.s x) c.end_loci.ensures)
