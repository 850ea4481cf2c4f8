use Rattle.std.proofs.Common.{◌+◌, ◌++◌, ap, ◌∙◌}
use Rattle.mz_core.specs.declared.outcome.Export.{Export}
use Rattle.mz_listing.specs.Listing.{item_lines}
use Rattle.mz_listing.proofs.LineLemmas.{items_viewed}
use Rattle.mz_listing.proofs.listing.push_export.Goals as goal

pub loop-i-preserved : goal.loop-i-preserved
loop-i-preserved c =
    items_viewed c.args.export.now.name c.deref-item-items.result.now c.args.export.now.items c.loop-i.i c.item-item.result c.args.text.now c.loop-i.text c.push_item.new.text (c.deref-item-items.ensures.value ∙ ap (λ (e : Export). e.items) c.export.view_is) c.loop-i-test.true c.item-item.is c.loop-i.invariant
    (c.in_ok-push_item.ensures ∙ ap (λ (e : Export). c.loop-i.text ++ item_lines e.name (c.loop-i.i + 1) c.item-item.result) c.export.view_is)
