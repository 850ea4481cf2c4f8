use Rattle.mz_ground.proofs.ExpressionLemmas.{told_atom_literal, told_equation_literal}
use Rattle.mz_ground.proofs.ground_part.Ground.add_literal.Goals as goal

pub returns-in_ok-add_atom-in-Atom : goal.returns-in_ok-add_atom-in-Atom
returns-in_ok-add_atom-in-Atom c = told_atom_literal c.args.self.now _ c.args.args.now c.args.l.now c.in-Atom.positive c.in-Atom.sym c.in-Atom.us c.in-Atom.is c.in_ok-add_atom-in-Atom.ensures

pub returns-in_ok-add_equation-in-Eq : goal.returns-in_ok-add_equation-in-Eq
returns-in_ok-add_equation-in-Eq c = told_equation_literal c.args.self.now _ c.args.args.now c.args.l.now c.in-Eq.positive c.in-Eq.left c.in-Eq.right c.in-Eq.is c.in_ok-add_equation-in-Eq.ensures
