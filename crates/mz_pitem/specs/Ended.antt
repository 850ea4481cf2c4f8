-- What an article that was read comes to, by the tokens that are left.
use Rattle.std.specs.Prelude.{List, [], ◌∷◌, Result, Ok, Err}
use Rattle.mz_base.specs.declared.token.MarkedToken.{MarkedToken}
use Rattle.mz_pterm.specs.declared.parse.ParseFault.{ParseFault}
use Rattle.mz_pterm.specs.declared.parse.ParseFault.TheVariants.{Unexpected}
use Rattle.mz_tree_item.specs.declared.article.ArticleTree.{ArticleTree}

abbrev pub ended_of : List MarkedToken → ArticleTree → Result ArticleTree ParseFault
ended_of [] tree = Ok tree
ended_of (t ∷ rest) tree = Err (Unexpected t.token.place)
