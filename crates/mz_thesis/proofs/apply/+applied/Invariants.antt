use Rattle.mz_thesis.proofs.apply.+applied.Given as goal

abbrev pub decreases-applied : goal.decreases-applied
decreases-applied l = l.most
