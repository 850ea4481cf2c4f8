-- Constants of arguments as those of a list.
use Rattle.std.proofs.Common.{◌≡◌, ℕ, List, [], ◌∷◌, refl, ap}
use Rattle.std.specs.Prelude.{◌||◌}
use Rattle.std.specs.List.{list_any}
use Rattle.mz_logic.specs.Term.{Term, terms_of}
use Rattle.mz_logic.specs.Constants.{occurs, occurs_in_args}

pub occurs_in_args-terms_of : (c : ℕ) (ts : List Term) → occurs_in_args c (terms_of ts) ≡ list_any (occurs c) ts
occurs_in_args-terms_of c [] = refl
occurs_in_args-terms_of c (t ∷ ts) = ap (λ b. occurs c t || b) (occurs_in_args-terms_of c ts)

pub ruleset occurs_rules = (occurs_in_args-terms_of)
