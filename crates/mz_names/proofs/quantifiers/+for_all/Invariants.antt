use Rattle.std.proofs.Common.{length}
use Rattle.mz_names.proofs.quantifiers.+for_all.Given as goal

abbrev pub decreases-for_all : goal.decreases-for_all
decreases-for_all l = length l.vs.now
