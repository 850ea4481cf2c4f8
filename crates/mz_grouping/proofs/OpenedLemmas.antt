-- The symbols that are open, the one opened last in front.
use Rattle.std.proofs.Common.{◌≡◌, List, [], ◌∷◌, ◌++◌, reverse}
use Rattle.std.proofs.lemmas.List.{reverse-append}
use Rattle.mz_grouping.specs.declared.opened.Opened.{Opened}

pub reverse-last : (os : List Opened) (o : Opened) → reverse (os ++ o ∷ []) ≡ o ∷ reverse os
reverse-last os o = reverse-append os (o ∷ [])

pub ruleset opened_rules = (reverse-last)
