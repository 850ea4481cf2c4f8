use Rattle.std.proofs.Common.{length, map}
use Rattle.mz_tree.specs.Views.{adjective_of}
use Rattle.mz_ptype.proofs.AdjectiveSteps.{Listed}
use Rattle.mz_ptype.proofs.adjectives.adjective_list.Given as goal

abbrev pub invariant-list : goal.invariant-list
invariant-list l = Listed l.fn.field l.fn.room (map adjective_of l.list.items) l.fn.reader.rest.now l.reader.rest.now

abbrev pub decreases-list : goal.decreases-list
decreases-list l = length l.reader.rest.now
