use Rattle.mz_desk_tests.proofs.workers.memory.want_of_memory_frees_the_claim.Given as goal

abbrev pub ghosts-one_over : goal.ghosts-one_over
ghosts-one_over g a = record { corpus = a.desk.corpus }
