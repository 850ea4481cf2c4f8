-- The first places of spellings.
use Rattle.mz_tree.proofs.PlaceLemmas.{first_place-append, first_place-non_of, first_place-reserved_if, place-mode}

pub ruleset place_rules = (first_place-append, first_place-non_of, first_place-reserved_if, place-mode)
