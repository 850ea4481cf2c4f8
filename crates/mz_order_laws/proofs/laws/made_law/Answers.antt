use Rattle.mz_order_laws.proofs.MadeLemmas.{same_files, same_names}
use Rattle.mz_order_laws.proofs.laws.made_law.Goals as goal

pub returns : goal.returns
returns c = record { files = same_files; names = same_names }
