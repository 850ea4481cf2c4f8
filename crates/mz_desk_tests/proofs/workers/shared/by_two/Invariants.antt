use Rattle.mz_desk_tests.proofs.workers.shared.by_two.Given as goal

abbrev pub ghosts-two_over : goal.ghosts-two_over
ghosts-two_over g a = record { corpus = a.desk.corpus }
