use Rattle.std.proofs.Common.{ap, ◌∙◌}
use Rattle.mz_core.specs.declared.item.Item.{Item}
use Rattle.mz_defined.specs.Owing.{all_keep}
use Rattle.mz_heading.proofs.OwingLemmas.{told_too_large_as, told_kept}
use Rattle.mz_heading.proofs.owing.take_owing.Goals as goal

pub returns-then-not-keeps : goal.returns-then-not-keeps
returns-then-not-keeps g c =
    told_too_large_as _ c.args.least c.in_ok-count.count c.args.s.now c.args.s.now c.args.first c.args.label c.args.x.value c.args.ws.now c.args.behind c.args.os.now c.args.os.now c.in_ok-keeps.keeps c.too_large.result c.in_ok-count.ensures (c.in_ok-keeps.ensures ∙ ap (λ (i : Item). all_keep c.in_ok-count.count i) c.deref.ensures) c.if-not-keeps.true c.too_large.ensures

pub returns : goal.returns
returns g c =
    told_kept c.args.least c.in_ok-count.count c.args.s.now c.take_item.new.s c.args.first c.args.label c.args.x.value c.args.ws.now c.args.behind c.args.os.now c.take_item.new.os c.in_ok-keeps.keeps c.take_item.result c.in_ok-count.ensures (c.in_ok-keeps.ensures ∙ ap (λ (i : Item). all_keep c.in_ok-count.count i) c.deref.ensures) c.if-not-keeps.false c.take_item.ensures
