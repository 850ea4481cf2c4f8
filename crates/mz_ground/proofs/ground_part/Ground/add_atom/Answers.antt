use Rattle.std.proofs.Common.{refl, arith}
use Rattle.mz_ground.proofs.ExpressionLemmas.{told_atom_none, told_atom_past, told_atom_some}
use Rattle.mz_ground.proofs.ground_part.Ground.add_atom.Goals as goal

pub returns-then-len-gt-MOST_ATOMS : goal.returns-then-len-gt-MOST_ATOMS
returns-then-len-gt-MOST_ATOMS c = told_atom_past _ _ _ _ _ _ _ c.in-Some.is c.in_ok-places.ensures (omega (arith, c.if-len-gt-MOST_ATOMS.true, c.len.ensures)) refl refl refl

pub returns-in_ok-place-in-Some : goal.returns-in_ok-place-in-Some
returns-in_ok-place-in-Some c = told_atom_some _ _ _ _ _ _ _ _ c.in-Some.is c.in_ok-places.ensures c.in_ok-place-in-Some.ensures refl refl

pub returns-in-None : goal.returns-in-None
returns-in-None c = told_atom_none _ _ _ _ _ _ c.in-None.is c.in_ok-places.ensures refl refl refl
