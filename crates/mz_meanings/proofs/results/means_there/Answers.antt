use Rattle.mz_meanings.proofs.ResultLemmas.{told_no_formula, told_means}
use Rattle.mz_meanings.proofs.results.means_there.Goals as goal

pub returns-in-Err-read_formulas-clause-reads : goal.returns-in-Err-read_formulas-clause-reads
returns-in-Err-read_formulas-clause-reads c =
    told_no_formula c.args.env.now c.args.ctx.now c.read_result.new.ctx c.args.least c.args.left.now c.read_result.new.left c.read_formulas.new.left c.args.t.now c.args.f.now c.read_result.result c.in-Ok.ty c.in_ok-it-in-Ok.it c.read_formulas.result c.in-Err-read_formulas.fault c.read_result.ensures.reads c.in-Ok.is c.read_result.ensures.same
    c.in_ok-it-in-Ok.ensures c.read_formulas.ensures.reads c.in-Err-read_formulas.is

pub returns-in-Ok-read_formulas-clause-reads : goal.returns-in-Ok-read_formulas-clause-reads
returns-in-Ok-read_formulas-clause-reads c =
    told_means c.args.env.now c.args.ctx.now c.read_result.new.ctx c.args.least c.args.left.now c.read_result.new.left c.read_formulas.new.left c.args.t.now c.args.f.now c.read_result.result c.in-Ok.ty c.in_ok-it-in-Ok.it c.read_formulas.result c.in-Ok-read_formulas.definiens c.read_result.ensures.reads c.in-Ok.is
    c.read_result.ensures.same c.in_ok-it-in-Ok.ensures c.read_formulas.ensures.reads c.in-Ok-read_formulas.is
