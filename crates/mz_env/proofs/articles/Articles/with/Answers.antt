use Rattle.mz_env.proofs.ArticleLemmas.{numbers_more}
use Rattle.mz_env.proofs.articles.Articles.with.Goals as goal

pub invariant_of-result : goal.invariant_of-result
invariant_of-result c =
    numbers_more c.self.inside.names c.push.new.self c.args.n c.self.inside.numbers c.insert.new.self c.self.invariant c.in_ok-push.ensures.ok c.in_ok-insert.ensures.updates.0
