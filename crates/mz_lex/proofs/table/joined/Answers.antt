use Rattle.std.proofs.Common.{◌∙◌, ◌∷◌, [], ◌++◌, ap}
use Rattle.mz_lex.proofs.KnownLemmas.{joined_new, joined_known}
use Rattle.mz_lex.proofs.table.joined.Goals as goal
use Rattle.mz_lex.proofs.table.joined.Goals.{then-is_new+in_ok-copy_of+in_ok-all, else-is_new}

pub loop-entry-preserved : goal.loop-entry-preserved
loop-entry-preserved c =
    elim c.if-is_new.branch [
      | then-is_new+in_ok-copy_of+in_ok-all w ↦ joined_new _ _ _ _ _ _ c.requires c.loop-entry-test.true c.entry-item.is c.loop-entry.invariant w.if-is_new.ensures (w.all-is ∙ w.in_ok-all.ensures ∙ ap (λ x. c.loop-entry.all ++ x ∷ []) w.in_ok-copy_of.ensures)
      | else-is_new w ↦ w.all-is ∙ joined_known _ _ _ _ _ c.requires c.loop-entry-test.true c.entry-item.is c.loop-entry.invariant w.if-is_new.ensures
    ]
