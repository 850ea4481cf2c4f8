use Rattle.std.proofs.Common.{rules, ◌≡◌, sym, ◌∙◌, true, false}
use Rattle.std.proofs.lemmas.Result.{err_from_is_err_and}
use Rattle.mz_pstep.proofs.Named.{named_taken_refused, named_taken_found, plain_taken_refused, plain_taken_found}
use Rattle.mz_pstep.proofs.equalities.taken.Goals as goal

pub returns-in_err-named : goal.returns-in_err-named
returns-in_err-named c =
    let p = err_from_is_err_and c.from_residual.result c.from_residual.ensures.1 in
    let r : c.named_comes.result ≡ true = search rules in
    rw (p.1, p.2) (named_taken_refused c.args.room _ _ _ (sym c.named_comes.ensures ∙ r) c.in_err-named.ensures)

pub returns-then-named_comes : goal.returns-then-named_comes
returns-then-named_comes c =
    let r : c.named_comes.result ≡ true = search rules in
    named_taken_found c.args.room _ _ _ (sym c.named_comes.ensures ∙ r) c.in_ok-named.ensures

pub returns-in_err-node : goal.returns-in_err-node
returns-in_err-node c =
    let p = err_from_is_err_and c.from_residual-in_err-node.result c.from_residual-in_err-node.ensures.1 in
    let r : c.named_comes.result ≡ false = search rules in
    rw (p.1, p.2) (plain_taken_refused c.args.room _ _ _ (sym c.named_comes.ensures ∙ r) c.in_err-node.ensures)

pub returns : goal.returns
returns c =
    let r : c.named_comes.result ≡ false = search rules in
    rw c.from_node.ensures (plain_taken_found c.args.room _ _ _ (sym c.named_comes.ensures ∙ r) c.in_ok-node.ensures)
