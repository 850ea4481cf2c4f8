use Rattle.mz_lex.proofs.PieceLemmas.{length-no_line_end}
use Rattle.mz_lex.proofs.piece.comment_len.Goals as goal

pub returns-in-None : goal.returns-in-None
returns-in-None c = length-no_line_end _ c.in-None.ensures
