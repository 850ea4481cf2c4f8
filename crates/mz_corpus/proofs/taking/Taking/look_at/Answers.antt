use Rattle.std.proofs.lemmas.List.Elements.{Contains-get_or}
use Rattle.mz_corpus.proofs.taking.Taking.look_at.Goals as goal

pub look-requires-clause-row : goal.look-requires-clause-row
look-requires-clause-row c = c.requires.rows _ (Contains-get_or c.args.rows.now c.loop-row.row-index 0 c.loop-row-test.true)
