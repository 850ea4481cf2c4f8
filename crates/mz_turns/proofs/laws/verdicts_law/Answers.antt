use Rattle.mz_turns.proofs.VerdictLemmas.{verdict_once}
use Rattle.mz_turns.proofs.NameLemmas.{articles_of}
use Rattle.mz_turns.proofs.OrderLemmas.{folds_all, verdicts_once, fold_in_turn}
use Rattle.mz_turns.proofs.laws.verdicts_law.Goals as goal

pub returns : goal.returns
returns g c =
    let met = g.C.Semantics in
    record {
      one = λ k r x y f h. verdict_once g.C.Semantics.is_outcome k.articles met.one_outcome r x y f h;
      once = λ k rows others f h. verdicts_once g.C.Semantics.is_outcome k.articles met.one_outcome rows others f h;
      in_turn = λ k order rows corpus f. folds_all g.C.Semantics.is_outcome met.answers_name k.articles (articles_of k corpus) order rows f;
      each_order = λ k order rows corpus f o. fold_in_turn g.C.Semantics.is_outcome met.one_outcome met.answers_name k.articles (articles_of k corpus) rows f order o;
    }
