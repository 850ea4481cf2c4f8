use Rattle.mz_place_laws.proofs.PlaceLemmas.{faults_in_text, tree_in_text}
use Rattle.mz_place_laws.proofs.laws.place_law.Goals as goal

pub returns-clause-faults : goal.returns-clause-faults
returns-clause-faults c = faults_in_text

pub returns-clause-tree : goal.returns-clause-tree
returns-clause-tree c = tree_in_text
