use Rattle.mz_run.proofs.WriteLemmas.{both_taken, first_part, second_part}
use Rattle.mz_run.proofs.laws.writes_law.Goals as goal

pub returns : goal.returns
returns c = record { both = both_taken; first = first_part; second = second_part }
