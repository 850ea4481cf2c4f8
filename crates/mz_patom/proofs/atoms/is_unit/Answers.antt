use Rattle.std.proofs.Common.{rules, ◌≡◌, true, false}
use Rattle.std.proofs.lemmas.Result.{err_from_is_err_and}
use Rattle.mz_tree.proofs.Views.{unit_of-is_type}
use Rattle.mz_ptype.specs.Classes.{begins_radix, next_is}
use Rattle.mz_patom.proofs.Parts.{list_refuses, is_of_adjectives, type_refuses, is_of_type}
use Rattle.mz_patom.proofs.atoms.is_unit.Goals as goal

pub returns-in_err-adjectives : goal.returns-in_err-adjectives
returns-in_err-adjectives c =
    let p = err_from_is_err_and c.from_residual.result c.from_residual.ensures.1 in
    rw (p.1, p.2) (list_refuses c.args.field c.args.room _ _ _ c.in_err-adjectives.ensures)

pub returns-then-not-radix_comes : goal.returns-then-not-radix_comes
returns-then-not-radix_comes c =
    let off : next_is begins_radix c.adjective_list.new.reader.rest.now ≡ false = search rules in
    is_of_adjectives c.args.field c.args.room _ _ _ _ _ _ c.in_ok-adjectives.ensures off c.with_adjectives.ensures

pub returns-in_err-tree : goal.returns-in_err-tree
returns-in_err-tree c =
    let p = err_from_is_err_and c.from_residual-in_err-tree.result c.from_residual-in_err-tree.ensures.1 in
    let on : next_is begins_radix c.adjective_list.new.reader.rest.now ≡ true = search rules in
    rw (p.1, p.2) (type_refuses c.args.field c.args.room _ _ _ _ _ c.in_ok-adjectives.ensures on c.in_err-tree.ensures)

pub returns : goal.returns
returns c =
    let on : next_is begins_radix c.adjective_list.new.reader.rest.now ≡ true = search rules in
    is_of_type c.args.field c.args.room _ _ _ _ _ _ _ _ _ c.in_ok-adjectives.ensures on c.in_ok-tree.ensures (unit_of-is_type _ _ _) c.boxed.ensures
