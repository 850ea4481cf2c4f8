use Rattle.std.proofs.Common.{◌∙◌, sym, arith}
use borrow.Author.Tests.{eqb-true}
use Rattle.mz_voc.proofs.ReadLemmas.{so_far_none, past_blank, past_entry, all_lines, lines_none, is_some-lines_more, AreDistinct-none, AreDistinct-more}
use Rattle.mz_voc.proofs.read.read_voc.Goals as goal

pub loop-rest-init : goal.loop-rest-init
loop-rest-init c = record {
  so_far = so_far_none _ _ c.new-items.ensures.items;
  lines = lines_none c.new-lines.result _ c.new-items.ensures.items c.new-lines.ensures;
  distinct = AreDistinct-none _ c.new-items.ensures.items;
  room = omega arith;
}

pub loop-rest-preserved-in-Blank : goal.loop-rest-preserved-in-Blank
loop-rest-preserved-in-Blank c = record {
  so_far = past_blank _ _ _ _ _ _ _ _ c.loop-rest.invariant.so_far c.first_line.ensures.lines c.without_return.ensures c.in_ok-read_line.ensures c.in-Blank.is;
  lines = c.loop-rest.invariant.lines;
  distinct = c.loop-rest.invariant.distinct;
  room = omega arith;
}

pub loop-rest-preserved : goal.loop-rest-preserved
loop-rest-preserved c =
    let new = c.if-stood_above.ensures ∙ c.loop-rest.invariant.lines _ in
    record {
      so_far = past_entry _ _ _ _ _ _ _ _ _ _ c.loop-rest.invariant.so_far c.first_line.ensures.lines c.without_return.ensures c.in_ok-read_line.ensures c.in-Good.is new c.in_ok-add-in-Good.ensures;
      lines = is_some-lines_more c.loop-rest.lines c.insert.new.self _ _ _ _ _ c.loop-rest.invariant.lines c.as_slice.ensures c.in_ok-insert-in-Good.ensures c.in_ok-add-in-Good.ensures;
      distinct = AreDistinct-more _ _ _ c.loop-rest.invariant.distinct new c.in_ok-add-in-Good.ensures;
      room = omega arith;
    }

pub returns-clause-entries : goal.returns-clause-entries
returns-clause-entries c = all_lines _ _ _ _ c.loop-rest.invariant.so_far (eqb-true _ _ (sym c.loop-rest-test.ensures))
