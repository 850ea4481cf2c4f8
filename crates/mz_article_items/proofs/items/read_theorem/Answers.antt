use Rattle.mz_article_items.proofs.ItemLemmas.{told_unread, told_unjustified, told_theorem}
use Rattle.mz_article_items.proofs.items.read_theorem.Goals as goal

pub returns-in-Err : goal.returns-in-Err
returns-in-Err g c =
    told_unread c.args.s.now c.read_sentence.new.s _ c.args.os.now c.args.t.now c.read_sentence.result c.in-Err.fault c.resolved.result c.read_sentence.ensures.reads c.in-Err.is c.resolved.ensures

pub returns-in-Err-justify : goal.returns-in-Err-justify
returns-in-Err-justify g c =
    told_unjustified c.args.s.now c.read_sentence.new.s c.justify.new.s _ c.args.os.now c.justify.new.os _ c.args.t.now c.read_sentence.result c.in-Ok.x c.justify.result c.in-Err-justify.fault c.read_sentence.ensures.reads c.in-Ok.is c.read_sentence.ensures.same c.justify.ensures.made c.in-Err-justify.is

pub returns : goal.returns
returns g c =
    told_theorem c.args.s.now c.read_sentence.new.s c.justify.new.s _ c.args.os.now c.justify.new.os c.args.t.now c.read_sentence.result c.in-Ok.x c.justify.result c.in-Ok-justify.field-0 c.read_sentence.ensures.reads c.in-Ok.is c.read_sentence.ensures.same c.justify.ensures.made c.in-Ok-justify.is c.in-Ok-justify.ensures.same c.in_ok-put-in-Ok-justify.ensures
