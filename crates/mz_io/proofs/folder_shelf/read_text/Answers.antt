use Rattle.mz_io.proofs.ShelfLemmas.{IsRead-Err}
use Rattle.mz_io.proofs.folder_shelf.read_text.Goals as goal

pub returns-in-Err-clause-whole : goal.returns-in-Err-clause-whole
returns-in-Err-clause-whole g c = IsRead-Err _ _ c.fault_of.ensures
