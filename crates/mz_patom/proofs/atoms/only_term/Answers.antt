use Rattle.std.specs.Prelude.{vec_len}
use Rattle.std.proofs.Common.{rules, ◌≡◌, refl, arith, ap, length}
use Rattle.mz_pterm.proofs.Loops.{no_items}
use Rattle.mz_patom.proofs.Tails.{only_seen, several_seen}
use Rattle.mz_patom.proofs.atoms.only_term.Goals as goal

pub returns-then-is_empty : goal.returns-then-is_empty
returns-then-is_empty c =
    let z : vec_len c.args.terms.more ≡ 0 = search rules in
    only_seen _ _ (no_items _ (omega (arith, z, c.args.terms.more.ok.0)))

pub returns-else-is_empty : goal.returns-else-is_empty
returns-else-is_empty c =
    let some : vec_len c.args.terms.more ≡ 0 → ⊥ = search rules in
    (refl, several_seen c.args.terms.first c.args.terms.more.items (λ h. let z : length c.args.terms.more.items ≡ 0 = ap length h in some (omega (arith, z, c.args.terms.more.ok.0))))
