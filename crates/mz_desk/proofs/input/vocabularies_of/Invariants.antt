use Rattle.std.proofs.Common.{◌≡◌, take}
use Rattle.mz_desk.proofs.input.vocabularies_of.Given as goal

abbrev pub invariant-loop-v : goal.invariant-loop-v
invariant-loop-v l = l.items.items ≡ take l.v-index l.vocabularies
