use Rattle.mz_sound_proof.proofs.SoundLemmas.{told_proof}
use Rattle.mz_sound_proof.proofs.sound.proof.Goals as goal

pub returns-in-Ok : goal.returns-in-Ok
returns-in-Ok g c = told_proof _ _ _ _ _ _ _ _ _ _ _ _ c.new-os.ensures c.skeleton.ensures.proves c.in-Ok.is
