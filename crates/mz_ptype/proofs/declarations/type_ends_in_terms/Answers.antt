use Rattle.std.proofs.Common.{refl}
use Rattle.mz_tree.proofs.Views.{type_of-mode, type_of-mode_of, type_of-structure, type_of-structure_over}
use Rattle.mz_ptype.proofs.declarations.type_ends_in_terms.Goals as goal

pub returns-in-Mode : goal.returns-in-Mode
returns-in-Mode c = rw (c.in-Mode.is, type_of-mode) refl

pub returns-in-ModeOf : goal.returns-in-ModeOf
returns-in-ModeOf c = rw (c.in-ModeOf.is, type_of-mode_of) refl

pub returns-in-Structure : goal.returns-in-Structure
returns-in-Structure c = rw (c.in-Structure.is, type_of-structure) refl

pub returns-in-StructureOver : goal.returns-in-StructureOver
returns-in-StructureOver c = rw (c.in-StructureOver.is, type_of-structure_over) refl
