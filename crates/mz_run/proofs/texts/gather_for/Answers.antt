use Rattle.std.proofs.Common.{refl}
use Rattle.mz_words.specs.Words.{asked_by}
use Rattle.mz_run.proofs.TextLemmas.{known_told}
use Rattle.mz_run.proofs.texts.gather_for.Goals as goal

pub returns-in-Some-clause-told : goal.returns-in-Some-clause-told
returns-in-Some-clause-told g c = λ k. c.gather_made.ensures.told (g.S.Shelf.contents c.args.shelf.now) (asked_by c.args.order.now) c.in-Some.is

pub returns-in-None-clause-told : goal.returns-in-None-clause-told
returns-in-None-clause-told g c =
    λ k. c.gather_named.ensures.told (asked_by c.args.order.now) c.in-None.is refl (known_told (g.S.Shelf.contents c.args.shelf.now) (asked_by c.args.order.now) c.in-None.is k)
