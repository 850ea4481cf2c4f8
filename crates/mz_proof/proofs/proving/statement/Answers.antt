use Rattle.std.proofs.Common.{refl}
use Rattle.mz_proof.proofs.ProvingLemmas.{told_stated}
use Rattle.mz_proof.proofs.proving.statement.Goals as goal

pub returns : goal.returns
returns c = told_stated _ _ _ _ _ _ _ _ _ _ _ _ _ c.first_place-first.ensures refl c.state.ensures
