use Rattle.std.proofs.Common.{Some, map, sym, ap, ◌∙◌}
use Rattle.mz_tree.specs.Places.{first_place, place_or}
use Rattle.mz_tree.specs.Spell.{spell_prefix_list, spell_base}
use Rattle.mz_tree.specs.Trees.{prefixs_of}
use Rattle.mz_tree.specs.Views.{prefix_of, base_of}
use Rattle.mz_tree.proofs.PlaceLemmas.{place-operand}
use Rattle.mz_tree.proofs.nodes.OperandNode.first_place.Goals as goal

pub returns : goal.returns
returns c =
    place-operand c.args.self.now _ _
    (ap (λ b. first_place (spell_base (base_of b))) (sym c.deref.ensures) ∙ c.first_place-base.ensures)
    (ap (λ ps. place_or (first_place (spell_prefix_list (prefixs_of (map prefix_of ps)))) (Some c.first_place-base.result)) (sym c.deref-2.ensures.value) ∙ c.first_place_of_prefixes.ensures)
