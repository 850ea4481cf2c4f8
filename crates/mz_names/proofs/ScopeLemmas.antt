-- Constants of arguments, as of a list.
use Rattle.std.proofs.Common.{◌≡◌, ℕ, List, [], ◌∷◌, refl, ap}
use Rattle.std.specs.Prelude.{◌&&◌}
use Rattle.std.specs.List.{list_all}
use Rattle.mz_logic.specs.Term.{Term, terms_of}
use Rattle.mz_names.specs.Scope.{term_from, args_from}

pub args_from-terms_of : (least : ℕ) (ts : List Term) → args_from least (terms_of ts) ≡ list_all (term_from least) ts
args_from-terms_of least [] = refl
args_from-terms_of least (t ∷ ts) = ap (λ b. term_from least t && b) (args_from-terms_of least ts)

pub ruleset from_rules = (args_from-terms_of)
