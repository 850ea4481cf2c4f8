use Rattle.std.proofs.Common.{◌≡◌, ap, sym, ◌∙◌, subst}
use Rattle.mz_logic.specs.Formula.{Formula, And}
use Rattle.mz_logic.specs.FormulaView.{formula_of}
use Rattle.mz_search.specs.Hopeless.{MayRefute}
use Rattle.mz_match.specs.Table.{rows_of}
use Rattle.mz_search.proofs.HopelessLemmas.{told_may_left, same_flags}
use Rattle.mz_search.proofs.hopeless.+may_refute.Goals as goal

pub returns-then-positive-first : goal.returns-then-positive-first
returns-then-positive-first t c =
    let e : c.args.f.now ≡ And c.in-And.g.value c.in-And.h.value = sym c.f.view_is ∙ ap formula_of c.in-And.is in
    told_may_left (rows_of c.args.table.now) c.args.values.now c.args.universals.now c.args.positive c.args.f.now c.in-And.g.value c.in-And.h.value c.args.es.now c.in_ok-first-in-And.first e (same_flags c.args.positive c.in_ok-first-in-And.first c.if-positive-first.true)
    (subst (λ (x : Formula). MayRefute (rows_of c.args.table.now) c.args.values.now c.args.universals.now c.args.positive x c.args.es.now c.in_ok-first-in-And.first) c.deref-in-And.ensures c.in_ok-first-in-And.ensures)
