use Rattle.mz_sound_proof.proofs.SoundLemmas.{told_statement}
use Rattle.mz_sound_proof.proofs.sound.statement.Goals as goal

pub returns-in-Ok : goal.returns-in-Ok
returns-in-Ok g c = told_statement _ _ _ _ _ _ _ _ _ _ _ c.new-os.ensures c.statement.ensures c.in-Ok.is
