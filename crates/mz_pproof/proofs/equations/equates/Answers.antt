use Rattle.std.proofs.Common.{rules, ◌≡◌, true, false, sym, ◌∙◌}
use Rattle.mz_tree.specs.Views.{terms_of}
use Rattle.mz_patom.specs.Forms.{is_single}
use Rattle.mz_pproof.proofs.PlainEquations.{equates_both, several_left, several_right}
use Rattle.mz_pproof.proofs.equations.equates.Goals as goal

pub returns-then-not-is_single : goal.returns-then-not-is_single
returns-then-not-is_single c =
    let off : is_single (terms_of c.args.left.now) ≡ false = search rules in
    sym (several_left (terms_of c.args.left.now) c.args.symbol.now (terms_of c.args.right.now) off)

pub returns-then-not-is_single-2 : goal.returns-then-not-is_single-2
returns-then-not-is_single-2 c =
    let off : is_single (terms_of c.args.right.now) ≡ false = search rules in
    sym (several_right (terms_of c.args.left.now) c.args.symbol.now (terms_of c.args.right.now) off)

pub returns : goal.returns
returns c =
    let on : is_single (terms_of c.args.left.now) ≡ true = search rules in
    let too : is_single (terms_of c.args.right.now) ≡ true = search rules in
    let told = rw c.as_slice.ensures at c.spells.ensures in
    told ∙ sym (equates_both (terms_of c.args.left.now) c.args.symbol.now (terms_of c.args.right.now) on too)
