use Rattle.std.proofs.Common.{arith, sym}
use borrow.Author.Tests.{eqb-true, eqb-false}
use Rattle.mz_lex.proofs.CutLemmas.{so_far_none, past_separator, past_comment, past_word, closed_by, stops_at_pragma, stops_at_bad_byte, stops_at_token, all_cut}
use Rattle.mz_lex.proofs.cut.cut.Goals as goal

pub loop-rest-init : goal.loop-rest-init
loop-rest-init c = record {
  so_far = so_far_none _ _ _ _ _ c.new-items.ensures.items c.first_place-place.ensures;
  line = rw c.first_place-place.ensures (omega arith);
  column = rw c.first_place-place.ensures (omega arith);
}

pub loop-rest-preserved-in-Separator : goal.loop-rest-preserved-in-Separator
loop-rest-preserved-in-Separator c = record {
  so_far = past_separator _ _ _ _ _ _ _ _ _ _ _ c.loop-rest.invariant.so_far c.in-Separator.ensures c.split_at.ensures.front c.split_at.ensures.back c.place_behind-place.ensures.value;
  line = omega arith;
  column = omega arith;
}

pub loop-rest-preserved-in-Comment : goal.loop-rest-preserved-in-Comment
loop-rest-preserved-in-Comment c = record {
  so_far = past_comment _ _ _ _ _ _ _ _ c.loop-rest.invariant.so_far _ _ _ _ c.in-Comment.ensures c.split_at-in-Comment.ensures.front c.split_at-in-Comment.ensures.back c.place_behind-place-in-Comment.ensures.value;
  line = omega arith;
  column = omega arith;
}

pub returns-then-is_full-clause-stopped : goal.returns-then-is_full-clause-stopped
returns-then-is_full-clause-stopped c = stops_at_token _ _ _ _ _ _ _ _ c.loop-rest.invariant.so_far _ c.in-Token.ensures (eqb-true _ _ (sym c.if-is_full.ensures))

pub returns-then-ends_at-clause-cut : goal.returns-then-ends_at-clause-cut
returns-then-ends_at-clause-cut c = closed_by _ _ _ _ _ c.loop-rest.here _ _ _ c.loop-rest.invariant.so_far _ _ _ _ _ c.in-Token.ensures (eqb-false _ _ (sym c.if-is_full.ensures)) c.split_at-in-Token.ensures.front c.place_behind-place-in-Token.ensures.value c.in_ok-token-in-Token.ensures c.in_ok-push-in-Token.ensures.items c.if-ends_at.ensures

pub loop-rest-preserved : goal.loop-rest-preserved
loop-rest-preserved c = record {
  so_far = past_word _ _ _ _ _ c.loop-rest.here _ _ _ c.loop-rest.invariant.so_far _ _ _ _ _ _ _ c.in-Token.ensures (eqb-false _ _ (sym c.if-is_full.ensures)) c.split_at-in-Token.ensures.front c.split_at-in-Token.ensures.back c.place_behind-place-in-Token.ensures.value c.in_ok-token-in-Token.ensures c.in_ok-push-in-Token.ensures.items c.if-ends_at.ensures c.part_behind-here.ensures;
  line = omega arith;
  column = omega arith;
}

pub returns-in-Pragma-clause-stopped : goal.returns-in-Pragma-clause-stopped
returns-in-Pragma-clause-stopped c = stops_at_pragma _ _ _ _ _ _ _ _ c.loop-rest.invariant.so_far c.in-Pragma.ensures

pub returns-in-BadByte-clause-stopped : goal.returns-in-BadByte-clause-stopped
returns-in-BadByte-clause-stopped c = stops_at_bad_byte _ _ _ _ _ _ _ _ c.loop-rest.invariant.so_far c.in-BadByte.ensures

pub returns-clause-cut : goal.returns-clause-cut
returns-clause-cut c = all_cut _ _ _ _ _ _ _ _ c.loop-rest.invariant.so_far (eqb-true _ _ (sym c.loop-rest-test.ensures))
