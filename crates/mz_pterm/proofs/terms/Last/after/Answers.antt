use Rattle.std.proofs.Common.{rules, ◌≡◌, true, false, sym}
use Rattle.mz_tree.specs.Rules.{is_several}
use Rattle.mz_pterm.specs.Forms.{base_in}
use Rattle.mz_pterm.proofs.Loops.{last_at_start}
use Rattle.mz_pterm.proofs.terms.Last.after.Goals as goal

pub returns-then-is_several : goal.returns-then-is_several
returns-then-is_several c =
    let many : is_several (base_in c.args.operand.now.base) ≡ true = search rules in
    rw c.in-Start.is (sym (last_at_start c.args.operand.now true many))

pub returns-else-is_several : goal.returns-else-is_several
returns-else-is_several c =
    let few : is_several (base_in c.args.operand.now.base) ≡ false = search rules in
    rw c.in-Start.is (sym (last_at_start c.args.operand.now false few))
