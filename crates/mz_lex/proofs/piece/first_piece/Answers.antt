use Rattle.std.proofs.Common.{sym}
use Rattle.mz_lex.proofs.PieceLemmas.{comment_piece}
use Rattle.mz_lex.proofs.piece.first_piece.Goals as goal

pub returns-then-opens_comment : goal.returns-then-opens_comment
returns-then-opens_comment c = comment_piece _ _ (sym c.if-opens_comment.ensures) (sym c.if-opens_pragma.ensures) c.comment_len.ensures
