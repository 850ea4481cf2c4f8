-- What items without constants and loose indices give to an environment.
use Rattle.std.specs.Prelude.{◌≡◌, true}
use Rattle.mz_core.specs.declared.item.Item.{Item}
use Rattle.mz_items.specs.Closed.{item_closed}
use Rattle.mz_environment.specs.declared.numbering.Numbering.{Numbering}
use Rattle.mz_environment.specs.declared.environment.Environment.{Environment}
use Rattle.mz_environment.specs.Environment.{no_environment, joined, of_item}
use Rattle.mz_closed_laws.specs.ClosedEnvironment.{IsClosedEnvironment}

-- all that an item gives, wherever it stands in its article
abbrev pub GivenLaw : Type 0
GivenLaw = (at : Numbering) (item : Item) → item_closed item ≡ true → IsClosedEnvironment (of_item at item)

abbrev pub NothingLaw : Type 0
NothingLaw = IsClosedEnvironment no_environment

abbrev pub JoinedLaw : Type 0
JoinedLaw = (e f : Environment) → IsClosedEnvironment e → IsClosedEnvironment f → IsClosedEnvironment (joined e f)
