use Rattle.std.proofs.Common.{sym}
use borrow.Author.Tests.{ltb-false}
use Rattle.mz_lex.proofs.TableLemmas.{adds_hidden, adds_entries}
use Rattle.mz_lex.proofs.table.add.Goals as goal

pub returns-then-is_hidden-clause-adds : goal.returns-then-is_hidden-clause-adds
returns-then-is_hidden-clause-adds c = adds_hidden _ _ _ c.if-is_hidden.ensures

pub returns-in-Ok-clause-adds : goal.returns-in-Ok-clause-adds
returns-in-Ok-clause-adds c =
    adds_entries _ _ _ _ _ _ _ _ _ c.if-is_hidden.ensures c.in-Some.ensures c.as_slice.ensures c.in-Ok.ensures.entries c.vocabulary.view_is c.as_slice-entries.ensures.value c.if-any_clash.ensures c.in_ok-all-in-Ok.ensures (ltb-false _ _ (sym c.if-are_too_many.ensures))
