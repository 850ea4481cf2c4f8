use Rattle.std.proofs.Common.{sym, ◌∙◌}
use Rattle.mz_justified.proofs.OweLemmas.{told_too_large}
use Rattle.mz_justified.proofs.justified.justify_simply.Goals as goal

pub justify_kept-requires : goal.justify_kept-requires
justify_kept-requires c = sym c.in_ok-kept.ensures ∙ c.if-not-kept.false

pub returns-then-not-kept : goal.returns-then-not-kept
returns-then-not-kept c = told_too_large _ _ _ _ _ _ _ _ _ _ _ _ _ _ _ c.in_ok-kept.ensures c.if-not-kept.true c.too_large.ensures
