use Rattle.std.proofs.Common.{refl, sym, ap, ◌∙◌}
use Rattle.std.specs.Prelude.{Ok}
use Rattle.mz_compact.proofs.BegunLemmas.{told_follows_nothing, told_unread, told_begun}
use Rattle.mz_compact.proofs.begun.begin.Goals as goal

pub returns-then-not-is_linked-clause-begins : goal.returns-then-not-is_linked-clause-begins
returns-then-not-is_linked-clause-begins c = told_follows_nothing _ _ _ _ _ _ _ _ _ _ _ c.args.left.now _ c.is_linked.ensures c.if-not-is_linked.true

pub returns-in_ok-x-in-Ok-clause-begins : goal.returns-in_ok-x-in-Ok-clause-begins
returns-in_ok-x-in-Ok-clause-begins c = told_begun _ _ _ _ _ _ _ _ _ _ _ _ _ _ _ _ _ c.is_linked.ensures c.if-not-is_linked.false c.read_compact.ensures.reads (c.in-Ok.is ∙ ap Ok (sym c.in_ok-x-in-Ok.ensures.ok)) c.read_compact.ensures.same c.fit_kept.ensures

pub returns-in_ok-kept-in-Err-clause-begins : goal.returns-in_ok-kept-in-Err-clause-begins
returns-in_ok-kept-in-Err-clause-begins c = told_unread _ _ _ _ _ _ _ _ _ _ _ _ _ _ _ _ _ _ _ _ _ c.is_linked.ensures c.if-not-is_linked.false c.read_compact.ensures.reads c.in-Err.is c.read_compact.ensures.same refl refl c.in_ok-kept-in-Err.ensures.keeps c.in_ok-kept-in-Err.ensures.same c.tell.ensures
