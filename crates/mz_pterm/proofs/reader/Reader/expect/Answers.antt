use Rattle.mz_pterm.proofs.Steps.{fixed_missing}
use Rattle.mz_pterm.proofs.reader.Reader.expect.Goals as goal

pub returns-in-None : goal.returns-in-None
returns-in-None c =
    let none = rw c.in-None.is at c.takes.ensures in
    fixed_missing _ 0 _ _ none
