use Rattle.std.proofs.Common.{◌≡◌}
use Rattle.mz_joined.specs.Joined.{implied, equated}
use Rattle.mz_formulas.proofs.ChainLemmas.{told_disjunct_end, told_disjunct_stop, told_conjunct_end, told_conjunct_stop}
use Rattle.mz_formulas.proofs.FormulaLemmas.{told_implies, told_iff}
use Rattle.mz_formulas.proofs.QuantifiedLemmas.{told_body_refused, told_body_read}
use Rattle.mz_formulas.proofs.formulas.+formulas.Goals as goal

pub read_formula-returns-in_ok-o-in-Ok-clause-reads : goal.read_formula-returns-in_ok-o-in-Ok-clause-reads
read_formula-returns-in_ok-o-in-Ok-clause-reads t c =
    let ex : c.in_ok-o-in-Ok.o ≡ implied c.first_place_of_disjunction-first.result c.in-Ok.s c.in_ok-p-in-Ok.p = cc (c.in_ok-o-in-Ok.ensures, c.into_inner.ensures, c.in_ok-left-in-Ok.ensures.ok) in
    told_implies _ _ _ _ _ _ _ _ _ _ _ _ _ c.in-Implies.is c.in_ok-r-in-Implies.ensures.reads c.in-Ok.is c.read_disjunction-in-Implies.ensures.same c.in_ok-p-in-Ok.ensures.reads c.first_place_of_disjunction-first.ensures ex

pub read_formula-returns-in_ok-o-in-Ok-2-clause-reads : goal.read_formula-returns-in_ok-o-in-Ok-2-clause-reads
read_formula-returns-in_ok-o-in-Ok-2-clause-reads t c =
    let ex : c.in_ok-o-in-Ok-2.o ≡ equated c.first_place_of_disjunction-first-in-Ok-2.result c.in-Ok-2.s c.in_ok-p-in-Ok-2.p = cc (c.in_ok-o-in-Ok-2.ensures, c.into_inner-in-Ok-2.ensures, c.in_ok-left-in-Ok-2.ensures.ok) in
    told_iff _ _ _ _ _ _ _ _ _ _ _ _ _ c.in-Iff.is c.in_ok-r-in-Iff.ensures.reads c.in-Ok-2.is c.read_disjunction-in-Iff.ensures.same c.in_ok-p-in-Ok-2.ensures.reads c.first_place_of_disjunction-first-in-Ok-2.ensures ex

pub read_scope-returns-in-Err-2-clause-reads : goal.read_scope-returns-in-Err-2-clause-reads
read_scope-returns-in-Err-2-clause-reads t c =
    told_body_refused _ _ _ _ _ _ _ _ _ _ c.declared_in.ensures c.in_ok-r.ensures.variables c.in-Ok.is c.in_ok-r.ensures.context c.in_ok-r-in-Ok.ensures.reads c.in-Err-2.is

pub read_scope-returns-clause-reads : goal.read_scope-returns-clause-reads
read_scope-returns-clause-reads t c =
    let eu : c.as_slice.result.now ≡ c.in-Ok.vs = cc (c.as_slice.ensures.value, c.vs.view_is) in
    told_body_read _ _ _ _ _ _ _ _ _ _ _ _ _ c.in_ok-n.ensures c.declared_in.ensures c.in_ok-r.ensures.variables c.in-Ok.is c.in_ok-r.ensures.context c.in_ok-r-in-Ok.ensures.reads c.in-Ok-2.is eu c.in_ok-o-in-Ok-2.ensures

pub read_conjunction-returns-in-Err-clause-reads : goal.read_conjunction-returns-in-Err-clause-reads
read_conjunction-returns-in-Err-clause-reads t c = told_conjunct_stop _ _ _ _ _ _ _ _ _ c.in-Err.is c.loop-next.invariant.0

pub read_conjunction-returns-clause-reads : goal.read_conjunction-returns-clause-reads
read_conjunction-returns-clause-reads t c = told_conjunct_end _ _ _ _ _ _ _ _ _ c.loop-next-test.false c.loop-next.invariant.0

pub read_disjunction-returns-in-Err-clause-reads : goal.read_disjunction-returns-in-Err-clause-reads
read_disjunction-returns-in-Err-clause-reads t c = told_disjunct_stop _ _ _ _ _ c.args.node.now _ _ _ c.in-Err.is c.loop-next.invariant.0

pub read_disjunction-returns-clause-reads : goal.read_disjunction-returns-clause-reads
read_disjunction-returns-clause-reads t c = told_disjunct_end _ _ _ _ _ c.args.node.now _ _ _ c.loop-next-test.false c.loop-next.invariant.0
