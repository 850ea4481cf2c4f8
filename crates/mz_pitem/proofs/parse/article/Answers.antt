use Rattle.std.proofs.Common.{rules}
use Rattle.mz_pitem.proofs.WholeArticle.{parses_marked}
use Rattle.mz_pitem.proofs.parse.article.Goals as goal

pub returns-in-Ok : goal.returns-in-Ok
returns-in-Ok c = parses_marked _ _ c.in-Ok.all.items c.as_slice.result.now c.tokens.inside.end (search rules) (search rules) (search rules) c.whole.ensures
