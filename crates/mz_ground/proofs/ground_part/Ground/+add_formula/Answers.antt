use Rattle.std.proofs.Common.{rules}
use Rattle.mz_ground.proofs.ExpressionLemmas.{told_equation, told_atom, told_not, told_and, told_all}
use Rattle.mz_ground.proofs.ground_part.Ground.+add_formula.Goals as goal

pub returns-in_ok-add_equation-in-Eq : goal.returns-in_ok-add_equation-in-Eq
returns-in_ok-add_equation-in-Eq t c = told_equation c.args.self.now _ c.args.f.now c.in-Eq.t c.in-Eq.u (search rules) c.in_ok-add_equation-in-Eq.ensures

pub returns-in_ok-add_atom-in-Atom : goal.returns-in_ok-add_atom-in-Atom
returns-in_ok-add_atom-in-Atom t c = told_atom c.args.self.now _ c.args.f.now c.in-Atom.s c.in-Atom.ts (search rules) c.in_ok-add_atom-in-Atom.ensures

pub returns-in_ok-add_formula-in-Not : goal.returns-in_ok-add_formula-in-Not
returns-in_ok-add_formula-in-Not t c = told_not c.args.self.now _ c.args.f.now c.deref.result.now (search rules) c.in_ok-add_formula-in-Not.ensures

pub returns-in_ok-add_formula-in-And-2 : goal.returns-in_ok-add_formula-in-And-2
returns-in_ok-add_formula-in-And-2 t c = told_and c.args.self.now c.add_formula-in-And.new.self _ c.args.f.now c.deref-in-And.result.now c.deref-in-And-2.result.now (search rules) c.in_ok-add_formula-in-And.ensures c.in_ok-add_formula-in-And-2.ensures

pub returns-in_ok-add_formula-in-All : goal.returns-in_ok-add_formula-in-All
returns-in_ok-add_formula-in-All t c = told_all c.args.self.now _ c.args.f.now c.deref-in-All.result.now (search rules) c.in_ok-add_formula-in-All.ensures
