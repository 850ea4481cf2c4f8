-- How the program ends.
use Rattle.std.specs.Prelude.{ℕ}
use Rattle.mz_base.specs.declared.status.Status.{Status}
use Rattle.mz_base.specs.declared.status.Status.TheVariants.{Accepted, Rejected, Usage, ReadFault, WriteFault, OutOfMemory, TooLarge}

abbrev pub exit_status : Status → ℕ
exit_status Accepted = 0
exit_status Rejected = 1
exit_status Usage = 2
exit_status ReadFault = 3
exit_status WriteFault = 4
exit_status OutOfMemory = 5
exit_status TooLarge = 6
