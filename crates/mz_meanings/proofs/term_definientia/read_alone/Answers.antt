use Rattle.mz_resolve.specs.Calls.{TermRead, FormulaRead}
use Rattle.mz_meanings.specs.Definientia.{term_shape}
use Rattle.mz_meanings.proofs.DefiniensLemmas.{told_alone_refused, told_alone}
use Rattle.mz_meanings.proofs.term_definientia.read_alone.Goals as goal

pub returns-in-Err : goal.returns-in-Err
returns-in-Err c = told_alone_refused term_shape (TermRead c.args.env.now c.args.ctx.now c.args.least) (FormulaRead c.args.env.now c.args.ctx.now c.args.least) c.args.left.now c.term.new.left c.args.u.now c.term.result c.in-Err.fault c.term.ensures c.in-Err.is

pub returns-in-Ok : goal.returns-in-Ok
returns-in-Ok c = told_alone term_shape (TermRead c.args.env.now c.args.ctx.now c.args.least) (FormulaRead c.args.env.now c.args.ctx.now c.args.least) c.args.left.now c.term.new.left c.args.u.now c.term.result c.in-Ok.d c.term.ensures c.in-Ok.is
