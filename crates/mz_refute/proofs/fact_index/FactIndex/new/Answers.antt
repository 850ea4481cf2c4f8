use Rattle.std.proofs.Common.{refl, arith}
use Rattle.mz_refute.proofs.IndexLaws.{index_made}
use Rattle.mz_refute.proofs.fact_index.FactIndex.new.Goals as goal

pub returns : goal.returns
returns g c =
    index_made (g.F.FactSet.view c.args.f.now) _ c.in_ok-classes.classes.items c.in_ok-positive.positive.items c.in_ok-negative.negative.items c.in_ok-disequal.disequal.items
    c.ground.result.now c.as_slice.result.now c.as_slice-5.result.now c.as_slice-2.result.now c.as_slice-3.result.now c.as_slice-4.result.now c.len.result
    c.in_ok-classes.ensures c.in_ok-positive.ensures c.in_ok-negative.ensures c.in_ok-disequal.ensures
    c.ground.ensures c.as_slice.ensures.value c.as_slice-2.ensures.value c.as_slice-3.ensures.value c.as_slice-4.ensures.value c.as_slice-5.ensures.value
    c.in_ok-values.ensures (omega (arith, c.len.ensures)) refl c.in_ok-table.ensures
