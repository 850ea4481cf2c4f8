use Rattle.std.proofs.Common.{◌≡◌, take}
use Rattle.mz_corpus.specs.Taking.{AreSeen, with_rows}
use Rattle.mz_corpus.proofs.taking.Taking.look_at.Given as goal

abbrev pub invariant-loop-row : goal.invariant-loop-row
invariant-loop-row l = record {
  ready : l.self.ready ≡ with_rows l.articles l.initial.self.taken l.initial.self.ready (take l.row-index l.rows);
  taken : l.self.taken ≡ l.initial.self.taken;
  seen : AreSeen l.articles l.self.taken l.self.seen;
}
