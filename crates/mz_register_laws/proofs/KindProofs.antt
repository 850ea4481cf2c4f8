-- Blocks of registrations: the laws of their kind.
use Rattle.mz_register.specs.Registers.{Registers}
use Rattle.mz_registered_laws.proofs.GrowProofs.{grows_registrations}
use Rattle.mz_registered_laws.proofs.KeepProofs.{keeps_registrations}
use Rattle.mz_registered_laws.proofs.OneProofs.{one_registrations}
use Rattle.mz_standing_laws.specs.Kinds.{GrowsLaw, KeepsLaw}
use Rattle.mz_taken.specs.OneByOne.{OneLaw}

pub registrations_grows : GrowsLaw Registers
registrations_grows = grows_registrations

pub registrations_keeps : KeepsLaw Registers
registrations_keeps = keeps_registrations

pub registrations_one : OneLaw Registers
registrations_one = one_registrations
