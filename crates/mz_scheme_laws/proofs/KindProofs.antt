-- Schemes: the laws that an article's items are asked for.
use Rattle.mz_taken.specs.OneByOne.{OneLaw}
use Rattle.mz_scheme_items.specs.StatesScheme.{StatesScheme}
use Rattle.mz_standing_laws.specs.Kinds.{GrowsLaw, KeepsLaw}
use Rattle.mz_scheme_laws.proofs.KeepProofs.{schemes_grown, schemes_kept}
use Rattle.mz_scheme_laws.proofs.OneProofs.{scheme_one}

pub schemes_grows : GrowsLaw StatesScheme
schemes_grows s t w h = schemes_grown h

pub schemes_keeps : KeepsLaw StatesScheme
schemes_keeps g s t w sound h = schemes_kept g sound h

pub schemes_one : OneLaw StatesScheme
schemes_one s t v w h k = scheme_one s t v w h k
