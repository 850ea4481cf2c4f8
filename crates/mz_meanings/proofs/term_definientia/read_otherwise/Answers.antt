use Rattle.mz_resolve.specs.Calls.{TermRead}
use Rattle.mz_meanings.specs.Definientia.{term_shape}
use Rattle.mz_meanings.proofs.DefiniensLemmas.{told_no_otherwise, told_otherwise_refused, told_otherwise}
use Rattle.mz_meanings.proofs.term_definientia.read_otherwise.Goals as goal

pub returns-in-None : goal.returns-in-None
returns-in-None c = told_no_otherwise term_shape (TermRead c.args.env.now c.args.ctx.now c.args.least) c.args.ks c.args.left.now c.args.t.now c.in-None.is

pub returns-in-Err : goal.returns-in-Err
returns-in-Err c = told_otherwise_refused term_shape (TermRead c.args.env.now c.args.ctx.now c.args.least) c.args.ks c.args.left.now c.term.new.left c.args.t.now c.in-Some.t c.term.result c.in-Err.fault c.in-Some.is c.term.ensures c.in-Err.is

pub returns-in-Ok : goal.returns-in-Ok
returns-in-Ok c = told_otherwise term_shape (TermRead c.args.env.now c.args.ctx.now c.args.least) c.args.ks c.args.left.now c.term.new.left c.args.t.now c.in-Some.t c.term.result c.in-Ok.d c.in-Some.is c.term.ensures c.in-Ok.is
