use Rattle.std.proofs.Common.{rules, ◌≡◌, true, false}
use Rattle.mz_tree.proofs.Views.{type_of-mode, type_of-mode_of, type_of-structure, type_of-structure_over}
use Rattle.mz_ptype.proofs.types.with_adjectives.Goals as goal

pub returns-then-structured : goal.returns-then-structured
returns-then-structured c =
    let on : c.args.structured ≡ true = search rules in
    rw (c.in-None.is, on) (type_of-structure _ _)

pub returns-else-structured : goal.returns-else-structured
returns-else-structured c =
    let off : c.args.structured ≡ false = search rules in
    rw (c.in-None.is, off) (type_of-mode _ _)

pub returns-then-structured-2 : goal.returns-then-structured-2
returns-then-structured-2 c =
    let on : c.args.structured ≡ true = search rules in
    rw (c.in-Some.is, on) (type_of-structure_over _ _ _ _)

pub returns-else-structured-2 : goal.returns-else-structured-2
returns-else-structured-2 c =
    let off : c.args.structured ≡ false = search rules in
    rw (c.in-Some.is, off) (type_of-mode_of _ _ _ _)
