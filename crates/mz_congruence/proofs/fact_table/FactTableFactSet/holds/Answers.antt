use Rattle.std.proofs.Common.{subst, sym}
use Rattle.std.specs.Prelude.{false}
use Rattle.mz_logic.specs.declared.literal.Literal.{Literal}
use Rattle.mz_ground.specs.FactSet.{DecidesFact}
use Rattle.mz_congruence.specs.FactTable.{table_view}
use Rattle.mz_congruence.proofs.DecideLemmas.{told_signed, told_no_atom}
use Rattle.mz_congruence.proofs.fact_table.FactTableFactSet.holds.Goals as goal

pub returns-in-Some : goal.returns-in-Some
returns-in-Some c =
    subst (λ (l : Literal). DecidesFact (table_view c.args.self.now) l c.is_signed.result) (sym c.in-Atom.is)
    (told_signed c.args.self.now _ _ _ c.in-Some.k c.is_signed.result c.in-Some.ensures.found c.is_signed.ensures)

pub returns-in-None : goal.returns-in-None
returns-in-None c = subst (λ (l : Literal). DecidesFact (table_view c.args.self.now) l false) (sym c.in-Atom.is) (told_no_atom c.args.self.now c.in-Atom.positive _ _ c.in-None.ensures.found)
