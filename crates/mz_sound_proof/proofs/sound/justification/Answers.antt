use Rattle.mz_sound_proof.proofs.SoundLemmas.{told_justification}
use Rattle.mz_sound_proof.proofs.sound.justification.Goals as goal

pub returns-in-Ok : goal.returns-in-Ok
returns-in-Ok g c = told_justification _ _ _ _ _ _ _ _ _ _ _ _ _ _ c.new-os.ensures c.justify.ensures.justifies c.in-Ok.is
