use Rattle.mz_logic.proofs.texts.+push_bytes.Given as goal

abbrev pub decreases-push_bytes : goal.decreases-push_bytes
decreases-push_bytes l = l.count
