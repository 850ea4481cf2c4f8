use Rattle.std.specs.Prelude.{vec_len}
use Rattle.std.proofs.Common.{rules, ◌≡◌, true, [], arith, ap, length}
use Rattle.mz_pterm.proofs.Loops.{not-several_group, no_items}
use Rattle.mz_pterm.proofs.terms.is_several.Goals as goal

pub returns-in-Group : goal.returns-in-Group
returns-in-Group c =
    let zero : c.is_empty.result ≡ true → vec_len c.in-Group.terms.more ≡ 0 = search rules in
    let none : vec_len c.in-Group.terms.more ≡ 0 → c.is_empty.result ≡ true = search rules in
    let left : c.is_empty.result ≡ true → c.in-Group.terms.more.items ≡ [] = λ h. let z : vec_len c.in-Group.terms.more ≡ 0 = zero h in no_items _ (omega (arith, z, c.in-Group.terms.more.ok.0)) in
    let right : c.in-Group.terms.more.items ≡ [] → c.is_empty.result ≡ true = λ h. let z : length c.in-Group.terms.more.items ≡ 0 = ap length h in none (omega (arith, z, c.in-Group.terms.more.ok.0)) in
    rw c.in-Group.is (not-several_group _ c.in-Group.terms _ _ left right)
