use Rattle.std.proofs.Common.{refl, arith}
use Rattle.mz_lex.proofs.LongestLemmas.{finds_more}
use Rattle.mz_lex.proofs.symbol_table.positions_of.Goals as goal

pub loop-position-preserved : goal.loop-position-preserved
loop-position-preserved c = record {
  within = omega arith;
  first = finds_more _ c.loop-position.positions c.insert.new.self _ _ _ _ c.loop-position-test.true c.loop-position.invariant.within refl c.index-lexemes-position.is c.loop-position.invariant.first c.as_slice.ensures c.in_ok-insert.ensures;
}
