use Rattle.mz_program.proofs.tests.bare.a_gate_over_a_bare_desk.Given as goal

abbrev pub ghosts-run_workers : goal.ghosts-run_workers
ghosts-run_workers g a = record { corpus = a.desk.corpus }
