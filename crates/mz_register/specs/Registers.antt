-- What comes of a block of registrations.
use Rattle.mz_registered.specs.Blocks.{TakesBlock}
use Rattle.mz_standing.specs.declared.standing.Standing.{Standing}
use Rattle.mz_taken.specs.Taken.{Taken}
use Rattle.mz_tree_item.specs.declared.registration.RegistrationTree.{RegistrationTree}

-- its headings are taken one after another, and behind it its loci are out of force
abbrev pub Registers : Standing → RegistrationTree → Taken Standing → Type 0
Registers s t o = TakesBlock s t o
