-- The locus with an index, counted from the last.
use Rattle.std.specs.Prelude.{◌≡◌, ℕ, ◌-◌, ◌<◌, ◌≤◌, List, length, reverse, get_or}
use Rattle.std.proofs.Common.{arith}
use Rattle.std.proofs.lemmas.List.{get_or-reverse, get_or_past, length-reverse}

pub reversed-within : {X : Type 0} (xs : List X) (k : ℕ) (d : X) → k < length xs → get_or (reverse xs) k d ≡ get_or xs (length xs - 1 - k) d
reversed-within xs k d h = get_or-reverse xs k d h

pub reversed-past : {X : Type 0} (xs : List X) (k : ℕ) (d : X) → length xs ≤ k → get_or (reverse xs) k d ≡ d
reversed-past xs k d h = get_or_past (reverse xs) k d (omega (arith, length-reverse xs))

pub ruleset locus_rules = (reversed-within, reversed-past)
