use Rattle.std.proofs.Common.{List, take}
use Rattle.mz_logic.specs.Term.{Term}
use Rattle.mz_ground.specs.Table.{Reads, AddsEach}
use Rattle.mz_ground.proofs.ground_terms.GroundTerms.+add.Given as goal

abbrev pub invariant-add_all-loop-u : goal.invariant-add_all-loop-u
invariant-add_all-loop-u l = (ts : List Term) → Reads l.fn.self l.args ts → AddsEach l.fn.self ts (take l.u-index l.u-items) l.found.items l.self
