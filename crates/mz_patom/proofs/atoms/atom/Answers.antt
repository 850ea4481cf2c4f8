use Rattle.std.proofs.lemmas.Result.{err_from_is_err_and}
use Rattle.mz_patom.proofs.Tails.{atom_refuses, atom_from}
use Rattle.mz_patom.proofs.atoms.atom.Goals as goal

pub returns-in_err-terms : goal.returns-in_err-terms
returns-in_err-terms c =
    let p = err_from_is_err_and c.from_residual.result c.from_residual.ensures.1 in
    rw (p.1, p.2) (atom_refuses c.args.field c.args.room _ _ _ c.in_err-terms.ensures)

pub returns : goal.returns
returns c = atom_from c.args.field c.args.room _ _ _ _ _ c.in_ok-terms.ensures c.tail.ensures
