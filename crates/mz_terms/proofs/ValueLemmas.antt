-- Values, the one read last in front.
use Rattle.std.proofs.Common.{◌≡◌, List, [], ◌∷◌, ◌++◌, reverse}
use Rattle.std.proofs.lemmas.List.{reverse-append}
use Rattle.mz_terms.specs.declared.values.RunValue.{RunValue}

pub reverse-last : (vs : List RunValue) (v : RunValue) → reverse (vs ++ v ∷ []) ≡ v ∷ reverse vs
reverse-last vs v = reverse-append vs (v ∷ [])

pub ruleset value_rules = (reverse-last)
