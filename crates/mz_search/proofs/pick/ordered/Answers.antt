use Rattle.mz_search.proofs.PickLemmas.{pair_turned}
use Rattle.mz_search.proofs.pick.ordered.Goals as goal

pub returns-then-exchanged : goal.returns-then-exchanged
returns-then-exchanged c = pair_turned c.args.first c.args.second
