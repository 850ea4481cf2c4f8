use Rattle.std.proofs.Common.{subst, sym}
use Rattle.std.specs.Prelude.{Contains}
use Rattle.mz_corpus.specs.Taking.{AreSeen}
use Rattle.mz_corpus.proofs.TakingLemmas.{AreSeen-name}
use Rattle.mz_corpus.proofs.taking.Taking.take.Goals as goal

pub look_at-requires-clause-rows : goal.look_at-requires-clause-rows
look_at-requires-clause-rows c = λ r held. c.requires.dependents.within c.args.name.number r (subst (λ rs. Contains rs r) c.rows.ensures held)

pub look_at-requires-clause-seen : goal.look_at-requires-clause-seen
look_at-requires-clause-seen c =
    AreSeen-name c.args.articles.now c.self.inside.taken c.insert.new.self c.self.inside.seen.items c.args.name c.in_ok-insert.ensures (subst (λ s. AreSeen c.args.articles.now s.taken s.seen) (sym c.self.view_is) c.requires.seen)
