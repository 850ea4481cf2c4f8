use Rattle.std.proofs.Common.{◌+◌, ◌*◌}
use Rattle.mz_logic.specs.TermStorage.{size_of, sizes_of}
use Rattle.mz_types.proofs.chain.+chain.Given as goal

abbrev pub decreases-chain_by : goal.decreases-chain_by
decreases-chain_by l = 3 * size_of l.t.now + 1

abbrev pub decreases-begin : goal.decreases-begin
decreases-begin l = 3 * size_of l.t.now

abbrev pub decreases-application : goal.decreases-application
decreases-application l = 3 * sizes_of l.ts.now + 1

abbrev pub decreases-selection : goal.decreases-selection
decreases-selection l = 3 * sizes_of l.args.now
