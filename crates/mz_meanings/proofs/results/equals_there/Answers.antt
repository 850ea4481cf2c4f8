use Rattle.mz_meanings.proofs.ResultLemmas.{told_no_term, told_equals}
use Rattle.mz_meanings.proofs.results.equals_there.Goals as goal

pub returns-in-Err-read_terms-clause-reads : goal.returns-in-Err-read_terms-clause-reads
returns-in-Err-read_terms-clause-reads c =
    told_no_term c.args.env.now c.args.ctx.now c.read_result.new.ctx c.args.least c.args.left.now c.read_result.new.left c.read_terms.new.left c.args.t.now c.args.u.now c.read_result.result c.in-Ok.ty c.read_terms.result c.in-Err-read_terms.fault c.read_result.ensures.reads c.in-Ok.is c.read_result.ensures.same
    c.read_terms.ensures.reads c.in-Err-read_terms.is

pub returns-in-Ok-read_terms-clause-reads : goal.returns-in-Ok-read_terms-clause-reads
returns-in-Ok-read_terms-clause-reads c =
    told_equals c.args.env.now c.args.ctx.now c.read_result.new.ctx c.args.least c.args.left.now c.read_result.new.left c.read_terms.new.left c.args.t.now c.args.u.now c.read_result.result c.in-Ok.ty c.read_terms.result c.in-Ok-read_terms.definiens c.read_result.ensures.reads c.in-Ok.is c.read_result.ensures.same
    c.read_terms.ensures.reads c.in-Ok-read_terms.is
