use Rattle.std.proofs.Common.{refl}
use Rattle.mz_resolve.specs.Calls.{TermRead, FormulaRead}
use Rattle.mz_meanings.specs.Definientia.{term_shape}
use Rattle.mz_meanings.proofs.EachLemmas.{kept_always}
use Rattle.mz_meanings.proofs.DefiniensLemmas.{told_no_definiens, told_no_condition, told_case}
use Rattle.mz_meanings.proofs.term_definientia.read_case.Goals as goal

pub returns-in-Err-clause-reads : goal.returns-in-Err-clause-reads
returns-in-Err-clause-reads c =
    told_no_definiens _ term_shape (TermRead c.args.env.now c.args.ctx.now c.args.least) (FormulaRead c.args.env.now c.args.ctx.now c.args.least) c.args.left.now c.term.new.left c.args.t.now c.args.out.now _ c.term.result c.in-Err.fault c.term.ensures c.in-Err.is

pub returns-in-Err-formula-clause-reads : goal.returns-in-Err-formula-clause-reads
returns-in-Err-formula-clause-reads c =
    told_no_condition _ term_shape (TermRead c.args.env.now c.args.ctx.now c.args.least) (λ d. FormulaRead c.args.env.now d c.args.least) c.args.ctx.now c.args.ctx.now c.args.left.now c.term.new.left c.formula.new.left c.args.t.now c.args.out.now _ c.term.result c.in-Ok.definiens c.formula.result c.in-Err-formula.fault c.term.ensures c.in-Ok.is (kept_always c.term.result c.args.ctx.now c.args.ctx.now refl) c.formula.ensures.reads c.in-Err-formula.is

pub returns-in_ok-put_case-in-Ok-formula-clause-reads : goal.returns-in_ok-put_case-in-Ok-formula-clause-reads
returns-in_ok-put_case-in-Ok-formula-clause-reads c =
    told_case term_shape (TermRead c.args.env.now c.args.ctx.now c.args.least) (λ d. FormulaRead c.args.env.now d c.args.least) c.args.ctx.now c.args.ctx.now c.args.left.now c.term.new.left c.formula.new.left c.args.t.now c.args.out.now c.put_case.new.out c.term.result c.in-Ok.definiens c.formula.result c.in-Ok-formula.condition c.term.ensures c.in-Ok.is (kept_always c.term.result c.args.ctx.now c.args.ctx.now refl) c.formula.ensures.reads c.in-Ok-formula.is c.in_ok-put_case-in-Ok-formula.ensures
