use Rattle.std.proofs.Common.{ap, map}
use Rattle.mz_turns.specs.Dependencies.{start_row}
use Rattle.mz_turns.specs.Library.{library_of}
use Rattle.mz_turns.proofs.MachineLemmas.{replays_good}
use Rattle.mz_turns.proofs.SoundLemmas.{replays_sound}
use Rattle.mz_turns.proofs.NameLemmas.{articles_of}
use Rattle.mz_turns.proofs.OrderLemmas.{row_at-turns_grow, published_once, settled_verdicts, verdicts_once}
use Rattle.mz_turns.proofs.OnceLemmas.{blocks_once, replays_once}
use Rattle.mz_turns.proofs.laws.turns_law.Goals as goal

pub returns : goal.returns
returns g c =
    let is_outcome = g.C.Semantics.is_outcome in
    let met = g.C.Semantics in
    record {
      verdict = λ k ts rows r corpus p h. (replays_good g.C.Semantics.is_outcome met.answers_name k.articles (articles_of k corpus) ts rows p).0.settled r h;
      stays = λ k ts t rows after r corpus p s h. row_at-turns_grow g.C.Semantics.is_outcome met.answers_name k.articles (articles_of k corpus) ts t rows after p s r h;
      once = λ k ts rows r corpus p. (published_once g.C.Semantics.is_outcome met.answers_name k.articles (articles_of k corpus) ts rows r p).0;
      sound = λ k ts rows corpus p. replays_sound g.C.Semantics.is_outcome met.answers_name met.keeps_sound k.articles (articles_of k corpus) ts rows p;
      library = λ k ts rows verdicts corpus p all v.
          ap library_of (verdicts_once g.C.Semantics.is_outcome k.articles met.one_outcome rows verdicts (settled_verdicts g.C.Semantics.is_outcome met.answers_name k.articles (articles_of k corpus) ts rows p all) v);
      whole = λ k ts rows corpus p. (replays_good g.C.Semantics.is_outcome met.answers_name k.articles (articles_of k corpus) ts rows p).0.whole;
      blocked = λ k rows after others p q. blocks_once k.articles rows after others p q;
      begins = λ k rows others p q. blocks_once k.articles (map start_row k.articles) rows others p q;
      one = λ k ts rows others p q. replays_once g.C.Semantics.is_outcome met.one_outcome k.articles ts rows others p q;
    }
