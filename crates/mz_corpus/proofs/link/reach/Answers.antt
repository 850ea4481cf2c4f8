use Rattle.std.proofs.Common.{ap, ◌∙◌}
use Rattle.mz_corpus.specs.Ascending.{sorted_names}
use Rattle.mz_corpus.proofs.ReachLemmas.{IsReach-made}
use Rattle.mz_corpus.proofs.link.reach.Goals as goal

pub returns : goal.returns
returns c = IsReach-made _ _ _ _ c.in_ok-set.ensures (c.in_ok-names.ensures ∙ ap sorted_names c.as_slice.ensures)
