-- Arguments in force, as a list.
use Rattle.std.proofs.Common.{◌≡◌, ℕ, List, [], ◌∷◌, refl, ap}
use Rattle.std.specs.Prelude.{◌&&◌}
use Rattle.std.specs.List.{list_all}
use Rattle.mz_logic.specs.Term.{Term, terms_of}
use Rattle.mz_core.specs.InForce.{term_in_force, args_in_force}

pub args_in_force-terms_of : (next : ℕ) (ts : List Term) → args_in_force next (terms_of ts) ≡ list_all (term_in_force next) ts
args_in_force-terms_of next [] = refl
args_in_force-terms_of next (t ∷ ts) = ap (λ b. term_in_force next t && b) (args_in_force-terms_of next ts)

pub ruleset in_force_rules = (args_in_force-terms_of)
