use Rattle.std.proofs.Common.{◌≡◌, ◌∙◌, map, ap}
use Rattle.std.specs.Arc.{arc_value}
use Rattle.std.specs.List.{insert}
use Rattle.mz_axioms.specs.Library.{added, place_in}
use Rattle.mz_axioms.proofs.AddedLemmas.{map-insert}
use Rattle.mz_axioms.proofs.exports.Exports.insert.Goals as goal

pub returns : goal.returns
returns c =
    let xs = c.self.inside.items.items in
    let name = c.deref.ensures in
    let items = c.as_slice.ensures.value in
    ap (map arc_value) c.insert_at.ensures.items
    ∙ (ap (λ k. map arc_value (insert xs k c.args.export)) (c.place_in-place.ensures.place ∙ λ i. place_in (name i).name (map arc_value (items i)))
    ∙ (map-insert arc_value c.args.export xs ∙ ap (added (arc_value c.args.export)) c.self.view_is))
