use Rattle.std.proofs.Common.{sym}
use borrow.Author.Tests.{ltb-true, ltb-false}
use Rattle.mz_lex.proofs.PieceLemmas.{lexeme_longest, word_longest}
use Rattle.mz_lex.proofs.piece.longest_token.Goals as goal

pub returns-then-is_shorter : goal.returns-then-is_shorter
returns-then-is_shorter c = word_longest _ _ _ _ _ c.longest-lexeme.ensures c.word_len-length.ensures (ltb-true _ _ (sym c.if-is_shorter.ensures)) c.word_kind.ensures

pub returns : goal.returns
returns c = lexeme_longest _ _ _ _ c.longest-lexeme.ensures c.word_len-length.ensures (ltb-false _ _ (sym c.if-is_shorter.ensures))
