use Rattle.mz_article_items.proofs.KindLemmas.{told_section, told_item}
use Rattle.mz_article_items.proofs.parts.read_part.Goals as goal

pub returns-in-Begin : goal.returns-in-Begin
returns-in-Begin g c = told_section _ _ _ c.in-Begin.field-0 c.in-Begin.is

pub returns-in-Item : goal.returns-in-Item
returns-in-Item g c = told_item c.args.s.now c.read_item.new.s c.args.os.now c.read_item.new.os c.args.part.now c.in-Item.x c.read_item.result c.in-Item.is c.read_item.ensures
