use Rattle.std.proofs.Common.{refl}
use Rattle.mz_classes.proofs.SymListLemmas.{told_longer}
use Rattle.mz_classes.proofs.sym_lists.SymLists.push.Goals as goal

pub returns : goal.returns
returns c = told_longer c.args.self.now c.place.new.self (record { places = c.place.new.self.places; lists = c.push.new.self }) c.args.sym _ c.args.number _ c.in_ok-place.ensures refl c.push.ensures.len c.push.ensures.ok
