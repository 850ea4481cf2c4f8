use Rattle.mz_pheading.proofs.Unique.{one_heading}
use Rattle.mz_pheading.proofs.headings.one_tree.Goals as goal

pub returns : goal.returns
returns c = one_heading
