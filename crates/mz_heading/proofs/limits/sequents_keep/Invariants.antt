use Rattle.std.proofs.Common.{◌≡◌, true, take}
use Rattle.std.specs.List.{list_all}
use Rattle.mz_cluster_items.specs.Items.{sequent_keeps}
use Rattle.mz_heading.proofs.limits.sequents_keep.Given as goal

abbrev pub invariant-loop-q : goal.invariant-loop-q
invariant-loop-q l = list_all sequent_keeps (take l.q-index l.qs) ≡ true
