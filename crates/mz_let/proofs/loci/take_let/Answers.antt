use Rattle.mz_let.proofs.LetLemmas.{told_refused, told_declared}
use Rattle.mz_let.proofs.loci.take_let.Goals as goal

pub returns-in-Ok : goal.returns-in-Ok
returns-in-Ok c = told_declared c.args.least c.args.s.now c.read_loci.new.s c.args.t.now c.read_loci.result c.in-Ok._loci c.in-Ok.is c.read_loci.ensures.reads c.read_loci.ensures.same

pub returns-in-Err : goal.returns-in-Err
returns-in-Err c = told_refused c.args.least c.args.s.now c.read_loci.new.s _ c.args.t.now c.read_loci.result c.in-Err.fault c.of_reading.result c.in-Err.is c.of_reading.ensures c.read_loci.ensures.reads
