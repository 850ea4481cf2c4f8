use Rattle.mz_registering.proofs.HeadingLemmas.{told_not_read, told_read}
use Rattle.mz_registering.proofs.heading.take_heading.Goals as goal

pub returns-in-Err : goal.returns-in-Err
returns-in-Err g c =
    told_not_read _ c.args.least c.args.s.now c.read_heading.new.s c.args.t.now c.args.ws.now c.args.behind _ _ _ c.read_heading.result c.in-Err.fault c.of_reading.result c.read_heading.ensures.reads c.in-Err.is c.of_reading.ensures

pub returns-in-Ok : goal.returns-in-Ok
returns-in-Ok g c =
    told_read c.args.least c.args.s.now c.read_heading.new.s c.take_read.new.s c.args.t.now c.args.ws.now c.args.behind c.read_heading.new.s.left c.args.os.now c.take_read.new.os c.read_heading.result c.in-Ok.o c.take_read.result c.read_heading.ensures.reads c.in-Ok.is c.in-Ok.ensures.same c.take_read.ensures
