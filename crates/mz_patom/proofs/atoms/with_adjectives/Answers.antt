use Rattle.std.specs.Prelude.{vec_len}
use Rattle.std.proofs.Common.{rules, ◌≡◌, [], arith, ap, length, map}
use Rattle.mz_tree.specs.Views.{adjective_of}
use Rattle.mz_tree.proofs.Views.{unit_of-is_adjectives}
use Rattle.mz_pterm.proofs.Loops.{no_items}
use Rattle.mz_patom.proofs.Parts.{adjectives_seen, head_removed}
use Rattle.mz_patom.proofs.atoms.with_adjectives.Goals as goal

pub returns-then-is_empty : goal.returns-then-is_empty
returns-then-is_empty c =
    let z : vec_len c.args.adjectives ≡ 0 = search rules in
    ap (map adjective_of) (no_items _ (omega (arith, z, c.args.adjectives.ok.0)))

pub returns : goal.returns
returns c =
    let some : vec_len c.args.adjectives ≡ 0 → ⊥ = search rules in
    let filled : c.args.adjectives.items ≡ [] → ⊥ = λ h. let z : length c.args.adjectives.items ≡ 0 = ap length h in some (omega (arith, z, c.args.adjectives.ok.0)) in
    adjectives_seen c.args.subject _ c.args.adjectives.items c.remove-first.result c.remove-first.new.self _ (head_removed _ _ _ filled c.remove-first.ensures.value c.remove-first.ensures.items) (unit_of-is_adjectives _ _ _ _) _ c.boxed.ensures
