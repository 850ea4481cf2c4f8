use Rattle.std.proofs.Common.{length}
use Rattle.mz_ppart.proofs.ListedSteps.{ListedSoFar}
use Rattle.mz_pblock.specs.Classes.{begins_registration_part}
use Rattle.mz_pblock.specs.Forms.{goes_on_registration_parts, registration_part_form}
use Rattle.mz_pblock.proofs.RegistrationSteps.{repeats_parts}
use Rattle.mz_pblock.proofs.registrations.registration_parts.Given as goal

abbrev pub invariant-list : goal.invariant-list
invariant-list l = ListedSoFar registration_part_form begins_registration_part goes_on_registration_parts repeats_parts l.fn.room l.items.items l.fn.reader.rest.now l.reader.rest.now

abbrev pub decreases-list : goal.decreases-list
decreases-list l = length l.reader.rest.now
