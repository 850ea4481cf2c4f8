use Rattle.std.proofs.Common.{◌↔◌, IfOk, IsTrue, sym, subst}
use Rattle.mz_thesis.specs.Rows.{Admits}
use Rattle.mz_thesis.proofs.rows.admits.Goals as goal

pub returns-in-Let : goal.returns-in-Let
returns-in-Let c = subst (λ s. IfOk c.admits_let.result (λ b. IsTrue b ↔ Admits c.args.clauses.now c.args.constants.now c.args.thesis.now s)) (sym c.in-Let.is) c.admits_let.ensures

pub returns-in-Take : goal.returns-in-Take
returns-in-Take c = subst (λ s. IfOk c.admits_take.result (λ b. IsTrue b ↔ Admits c.args.clauses.now c.args.constants.now c.args.thesis.now s)) (sym c.in-Take.is) c.admits_take.ensures
