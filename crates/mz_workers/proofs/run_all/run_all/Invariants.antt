use Rattle.mz_workers.proofs.run_all.run_all.Given as goal

abbrev pub ghosts-run_workers : goal.ghosts-run_workers
ghosts-run_workers g a = record { corpus = a.desk.corpus }
