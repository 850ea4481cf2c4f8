-- Blocks of definitions and of notations.
use Rattle.mz_taken.specs.OneByOne.{OneLaw}
use Rattle.mz_define.specs.Defines.{Defines, Notes}
use Rattle.mz_notation_laws.proofs.KeepProofs.{notes_grow, notes_keep}
use Rattle.mz_notation_laws.proofs.OneProofs.{one_block}
use Rattle.mz_standing_laws.specs.Kinds.{GrowsLaw, KeepsLaw}
use Rattle.mz_define_laws.proofs.KeepProofs as keep
use Rattle.mz_define_laws.proofs.OneProofs as one

pub definitions_grows : GrowsLaw Defines
definitions_grows = keep.definitions_grows

pub definitions_keeps : KeepsLaw Defines
definitions_keeps g s t w sound h = keep.definitions_keep g s t w sound h

pub definitions_one : OneLaw Defines
definitions_one = one.definitions_one

-- notations

pub notations_grows : GrowsLaw Notes
notations_grows = notes_grow

pub notations_keeps : KeepsLaw Notes
notations_keeps g s t w sound h = notes_keep g s t w sound h

pub notations_one : OneLaw Notes
notations_one = one_block
