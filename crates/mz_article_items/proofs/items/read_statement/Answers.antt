use Rattle.mz_article_items.proofs.ItemLemmas.{told_statement}
use Rattle.mz_article_items.proofs.items.read_statement.Goals as goal

pub returns : goal.returns
returns g c =
    told_statement c.args.s.now c.take_statement.new.s c.args.os.now c.take_statement.new.os c.args.t.now c.extent_of-at.result c.take_statement.result c.extent_of-at.ensures c.take_statement.ensures.made c.take_statement.ensures.same
