use Rattle.std.proofs.lemmas.Option.{slice_get_past}
use Rattle.mz_structure_items.proofs.AggregateLemmas.{told_no_selector}
use Rattle.mz_structure_items.proofs.aggregates.push_selector_at.Goals as goal

pub returns-in-None : goal.returns-in-None
returns-in-None c = told_no_selector c.args.fs.now c.args.k c.args.out.now (slice_get_past c.args.fs.now c.args.k c.in-None.ensures.lookup.3)
